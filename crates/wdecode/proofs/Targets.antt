-- The labels of a br_table and its default are a part of the targets.
use Rattle.std.proofs.Common.{◌≡◌, ℕ, ◌+◌, ◌-◌, List, [], ◌∷◌, ◌++◌, length, take, drop, get_or, Some, sym, ap, ◌∙◌, append_assoc, arith}
use Rattle.std.specs.Prelude.{slice_range, slice_index_or}
use Rattle.std.proofs.Math.Seq.{get_or-append_seam}
use Rattle.std.proofs.lemmas.List.{take_at, drop_at, length-append}
use Rattle.wsyntax.specs.Binary.Production.{times_at}
use Rattle.wsyntax.specs.Binary.Values.{u32}
use Rattle.wdecode.proofs.Agree.{times_sound, u32_agrees}

pub labels_seen : (old ls : List ℕ) (d : ℕ) (more new : List ℕ) (first count : ℕ) → first ≡ length old → length ls ≡ count → new ≡ old ++ (ls ++ d ∷ []) → slice_range (new ++ more) first (first + count) ≡ ls
labels_seen old ls d more new first count f k e =
    let all : new ++ more ≡ old ++ (ls ++ (d ∷ more)) = ap (λ (x : List ℕ). x ++ more) e ∙ append_assoc old (ls ++ d ∷ []) more ∙ ap (λ (x : List ℕ). old ++ x) (append_assoc ls (d ∷ []) more) in
    let n : first + count - first ≡ count = omega arith in
    ap (λ (m : ℕ). take m (drop first (new ++ more))) n ∙ ap (λ (x : List ℕ). take count (drop first x)) all
    ∙ ap (take count) (drop_at old (ls ++ (d ∷ more)) first (sym f)) ∙ take_at ls (d ∷ more) count k

pub default_seen : (old ls : List ℕ) (d : ℕ) (more new : List ℕ) (first count : ℕ) → first ≡ length old → length ls ≡ count → new ≡ old ++ (ls ++ d ∷ []) → slice_index_or (new ++ more) (first + count) 0 ≡ d
default_seen old ls d more new first count f k e =
    let all : new ++ more ≡ (old ++ ls) ++ (d ∷ more) = ap (λ (x : List ℕ). x ++ more) e ∙ simp append_assoc in
    let n : first + count ≡ length (old ++ ls) = omega (arith, f, k, length-append old ls) in
    ap (λ (m : ℕ). get_or (new ++ more) m 0) n ∙ ap (λ (x : List ℕ). get_or x (length (old ++ ls)) 0) all ∙ get_or-append_seam (old ++ ls) d more 0

pub labels_count : (n : ℕ) (bytes : List ℕ) (ls rest : List ℕ) → times_at u32.read n bytes ≡ Some (ls, rest) → length ls ≡ n
labels_count n bytes ls rest e = (times_sound u32 u32_agrees n bytes (ls, rest) e).1.0
