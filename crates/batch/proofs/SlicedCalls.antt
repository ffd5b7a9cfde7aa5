-- The calls of a text, from those of its slices.
use denote.Ref.{Bor}
use Rattle.std.proofs.Common.{◌≡◌, ℕ, suc, ◌+◌, ◌≤◌, List, [], ◌∷◌, ◌++◌, Some, Ok, Vec, length, flat_map, length-append, refl, sym, ap, subst, ◌∙◌, arith}
use Rattle.std.specs.Prelude.{slice_get}
use Rattle.std.specs.declared.alloc.Global.{Global}
use Rattle.std.proofs.lemmas.Grind.{flat_map-append}
use Rattle.std.proofs.lemmas.List.{length-map}
use Rattle.std.proofs.lemmas.Option.{same_Some}
use Rattle.wsyntax.specs.Texts.Words.{newline}
use Rattle.wsyntax.specs.Texts.Calls.{Good, IsCalls, calls_limit, line_limit}
use Rattle.pieces.specs.TryAll.{AllPass}
use Rattle.batch_text.specs.Calls.{ReadsCalls, calls_of}
use Rattle.batch_text.specs.Slices.{slices_of, EachEndsLine, CutsLines, EachRead, CountsCalls, joined_calls}
use Rattle.batch_text.specs.declared.call.Call.{Call}
use Rattle.batch.specs.Slices.{SaysCalls, GivesCalls, SayTogether}

each_read : (slices : List (Bor (List ℕ))) (read : List (Vec Call Global)) → length read ≡ length slices → ((i : ℕ) (calls : Vec Call Global) → slice_get read i ≡ Some calls → GivesCalls slices i calls) → EachRead (slices_of slices) read
each_read [] [] count each = tt
each_read [] (c ∷ cs) count each = absurd (omega (arith, count))
each_read (s ∷ ss) [] count each = absurd (omega (arith, count))
each_read (s ∷ ss) (c ∷ cs) count each =
    let rest : length cs ≡ length ss = omega (arith, count) in
    let (slice, at, h) = each 0 c refl in
    let same : slice ≡ s = sym (same_Some s slice at) in
    (subst (λ (x : Bor (List ℕ)). ReadsCalls x.now (Ok c)) same h, each_read ss cs rest (λ i calls e. each (suc i) calls e))

-- all slices of the text are read
pub text_read : (text : List ℕ) (size n count : ℕ) (slices given : List (Bor (List ℕ))) (read counted : List (Vec Call Global)) → length text ≤ calls_limit → CutsLines size text (slices_of slices) → given ≡ slices → n ≡ length slices
    → AllPass n (SaysCalls given) (GivesCalls given) read → counted ≡ read → CountsCalls counted (Some count) → SayTogether text read
text_read text size n count slices given read counted small cuts same many all is counts =
    let each = each_read slices read (all.len ∙ many) (λ i c e. subst (λ (l : List (Bor (List ℕ))). GivesCalls l i c) same (all.each i c e).1) in
    let fits : length (flat_map (λ s. s) (slices_of slices)) ≤ calls_limit = subst (λ (l : List ℕ). length l ≤ calls_limit) cuts.joined small in
    let (sum, few, say) = subst (λ (l : List (Vec Call Global)). CountsCalls l (Some count)) is counts in
    (subst (λ (l : List ℕ). IsCalls l (Good (calls_of (joined_calls read)))) (sym cuts.joined) (say (slices_of slices) each fits), subst (λ (k : ℕ). k ≤ line_limit) sum few)

-- ---- how many slices there are

-- each of them has a byte
front_bytes : (size : ℕ) (fronts : List (List ℕ)) → EachEndsLine size fronts → length fronts ≤ length (flat_map (λ s. s) fronts)
front_bytes size [] h = omega arith
front_bytes size (f ∷ fs) ((front, is, far), rest) =
    omega (arith, front_bytes size fs rest, ap length is, length-append front newline, length-append f (flat_map (λ s. s) fs))

-- no more than bytes, and the last
pub few_slices : (size : ℕ) (text : List ℕ) (slices : List (Bor (List ℕ))) → CutsLines size text (slices_of slices) → length slices ≤ length text + 1
few_slices size text slices cuts =
    let both : flat_map (λ s. s) (slices_of slices) ≡ flat_map (λ s. s) cuts.fronts ++ flat_map (λ s. s) (cuts.last ∷ []) =
    ap (flat_map (λ s. s)) cuts.all ∙ flat_map-append (λ (s : List ℕ). s) cuts.fronts (cuts.last ∷ []) in
    omega (
      arith,
      front_bytes size cuts.fronts cuts.ended,
      ap length cuts.all,
      length-map slices (λ s. s.now),
      length-append cuts.fronts (cuts.last ∷ []),
      ap length cuts.joined,
      ap length both,
      length-append (flat_map (λ s. s) cuts.fronts) (flat_map (λ s. s) (cuts.last ∷ [])),
    )
