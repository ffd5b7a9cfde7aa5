-- The topmost operand of a list.
use Rattle.std.proofs.Common.{◌≡◌, ℕ, ◌-◌, ◌<◌, ◌≤◌, true, false, List, [], ◌∷◌, ◌++◌, map, length, take, get_or, slice_get, Option, Some, None, refl, sym, ap, subst, ◌∙◌, arith}
use Rattle.std.proofs.lemmas.List.{append_assoc, append-nil, map-append, length-map, take-append-drop}
use Rattle.std.proofs.Math.ListN.{drop_of_length-le}
use Rattle.std.specs.Prelude.{option_map, IfSome}
use Rattle.std.proofs.lemmas.Option.{slice_get-get_or, slice_get-map}
use Rattle.wsyntax.specs.declared.ValType.{ValType}
use Rattle.wsyntax.specs.Types.{FuncType}
use Rattle.wcontext.specs.Lists.{prefix_of}
use Rattle.wcontext.specs.declared.lists.TypePrefix.{TypePrefix}
use Rattle.wcheck.specs.declared.entry.StackEntry.{StackEntry}
use Rattle.wcheck.specs.declared.entry.StackEntry.TheVariants.{I32, I64, F32, F64, Unknown, Run}
use Rattle.wcheck.specs.Heights.{type_of}
use Rattle.wcheck.specs.Runs.{is_several, run_at, of_run, types_in, last_types, types_before}
use Rattle.wcheck.proofs.LastItems.{last_split, no_last, is_there}
use Rattle.wcheck.proofs.Stretched.{none, whole_run, no_run}
use Rattle.wcheck.proofs.Shortened.{split_run}

pub known_single : (x : StackEntry) (t : ValType) → type_of x ≡ Some t → is_several x ≡ false
known_single I32 t e = refl
known_single I64 t e = refl
known_single F32 t e = refl
known_single F64 t e = refl
known_single Unknown t e = absurd cc
known_single Run t e = absurd cc

pub nothing_there : (xs : List StackEntry) (rs : List (List ValType)) (v : List (Option ValType)) → types_in xs rs ≡ v → None ≡ slice_get xs (length xs - 1) → v ≡ []
nothing_there xs rs v w e = sym w ∙ ap (λ z. types_in z rs) (no_last xs (sym e)) ∙ none rs

pub last_single : (xs : List StackEntry) (rs : List (List ValType)) (v : List (Option ValType)) (x : StackEntry) (t : Option ValType) → types_in xs rs ≡ v → Some x ≡ slice_get xs (length xs - 1) → run_at x rs ≡ None → t ≡ type_of x → (rest : List (Option ValType)) × (v ≡ rest ++ t ∷ [])
last_single xs rs v x t w e q k =
    (types_in (take (length xs - 1) xs) rs, sym w ∙ ap (λ z. types_in z rs) (is_there xs x (sym e)) ∙ no_run (take (length xs - 1) xs) rs x q ∙ ap (λ z. types_in (take (length xs - 1) xs) rs ++ z ∷ []) (sym k))

last_of_run : (r : List ValType) (t : Option ValType) → t ≡ slice_get r (length r - 1) → (rest : List (Option ValType)) × (of_run r ≡ rest ++ t ∷ [])
last_of_run [] t e = ([], ap (λ z. z ∷ []) (sym e))
last_of_run (u ∷ us) t e =
    let there : slice_get (u ∷ us) (length (u ∷ us) - 1) ≡ Some (get_or (u ∷ us) (length (u ∷ us) - 1) u) = slice_get-get_or (u ∷ us) (length (u ∷ us) - 1) u (omega arith) in (
      map Some (take (length (u ∷ us) - 1) (u ∷ us)),
      whole_run (u ∷ us) (omega arith)
          ∙ ap (map Some) (last_split (u ∷ us) u (omega arith))
          ∙ map-append Some (take (length (u ∷ us) - 1) (u ∷ us)) (get_or (u ∷ us) (length (u ∷ us) - 1) u ∷ [])
          ∙ ap (λ z. map Some (take (length (u ∷ us) - 1) (u ∷ us)) ++ z ∷ []) (sym (e ∙ there)),
    )

pub last_in_run : (xs : List StackEntry) (rs : List (List ValType)) (v : List (Option ValType)) (x : StackEntry) (r : List ValType) (t : Option ValType) → types_in xs rs ≡ v → Some x ≡ slice_get xs (length xs - 1) → run_at x rs ≡ Some r → t ≡ slice_get r (length r - 1) → (rest : List (Option ValType)) × (v ≡ rest ++ t ∷ [])
last_in_run xs rs v x r t w e q k =
    let l = last_of_run r t k in (
      types_in (take (length xs - 1) xs) (take (length rs - 1) rs) ++ l.0,
      split_run xs rs x v (length xs - 1) w (is_there xs x (sym e)) r q
          ∙ ap (λ z. types_in (take (length xs - 1) xs) (take (length rs - 1) rs) ++ z) l.1
          ∙ sym (append_assoc (types_in (take (length xs - 1) xs) (take (length rs - 1) rs)) l.0 (t ∷ [])),
    )

a_several : (x : StackEntry) → is_several x ≡ true → x ≡ Run
a_several I32 e = absurd cc
a_several I64 e = absurd cc
a_several F32 e = absurd cc
a_several F64 e = absurd cc
a_several Unknown e = absurd cc
a_several Run e = refl

-- the last operands, where the run on top has some
pub last_of_run_on_top : (xs : List StackEntry) (rs : List (List ValType)) (v : List (Option ValType)) (x : StackEntry) (r : List ValType) → types_in xs rs ≡ v → Some x ≡ slice_get xs (length xs - 1) → run_at x rs ≡ Some r → 0 < length r → (rest : List (Option ValType)) × (v ≡ rest ++ map Some r)
last_of_run_on_top xs rs v x r w e q some =
    (types_in (take (length xs - 1) xs) (take (length rs - 1) rs), split_run xs rs x v (length xs - 1) w (is_there xs x (sym e)) r q ∙ ap (λ z. types_in (take (length xs - 1) xs) (take (length rs - 1) rs) ++ z) (whole_run r some))

-- the last operands, where this run is on top
pub last_of_prefix : (types u : List FuncType) (xs : List StackEntry) (rs : List TypePrefix) (v : List (Option ValType)) (x : StackEntry) (run : TypePrefix) → types_in xs (map (prefix_of types) rs) ≡ v → Some x ≡ slice_get xs (length xs - 1) → is_several x ≡ true → Some run ≡ slice_get rs (length rs - 1) → types ≡ u → 0 < length (prefix_of u run) → (rest : List (Option ValType)) × (v ≡ rest ++ map Some (prefix_of u run))
last_of_prefix types u xs rs v x run w e several q same some =
    let size : length (map (prefix_of types) rs) - 1 ≡ length rs - 1 = ap (λ k. k - 1) (length-map rs (prefix_of types)) in
    let top : run_at Run (map (prefix_of types) rs) ≡ Some (prefix_of u run) =
    ap (slice_get (map (prefix_of types) rs)) size
    ∙ slice_get-map (prefix_of types) rs (length rs - 1)
    ∙ ap (option_map (prefix_of types)) (sym q)
    ∙ ap (λ z. Some (prefix_of z run)) same in
    last_of_run_on_top xs (map (prefix_of types) rs) v Run (prefix_of u run) w (ap Some (sym (a_several x several)) ∙ e) top some

-- the last none of some types
pub ends_in_none : (v : List (Option ValType)) (us : List ValType) → (rest : List (Option ValType)) × (v ≡ rest ++ map Some (last_types 0 us))
ends_in_none v us =
    (v, sym (ap (λ z. v ++ map Some z) (drop_of_length-le us (omega arith)) ∙ append-nil v))

-- what the types of the run on top, if it has some, share with others
pub ends_in_shared : (v : List (Option ValType)) (us ts : List ValType) (r : Option ℕ) → (0 < length ts → (rest : List (Option ValType)) × (v ≡ rest ++ map Some ts)) → IfSome r (λ n. n ≤ length ts) → IfSome r (λ n. last_types n us ≡ last_types n ts) → IfSome r (λ n. (x : List (Option ValType)) × (v ≡ x ++ map Some (last_types n us)))
ends_in_shared v us ts None top few same = tt
ends_in_shared v us [] (Some n) top few same =
    let none : n ≡ 0 = omega (arith, few) in
    subst (λ k. (x : List (Option ValType)) × (v ≡ x ++ map Some (last_types k us))) (sym none) (ends_in_none v us)
ends_in_shared v us (t ∷ ts) (Some n) top few same =
    let on_top = top (omega arith) in (
      on_top.0 ++ map Some (types_before n (t ∷ ts)),
      on_top.1
          ∙ ap (λ z. on_top.0 ++ map Some z) (sym (take-append-drop (length (t ∷ ts) - n) (t ∷ ts)))
          ∙ ap (λ z. on_top.0 ++ z) (map-append Some (types_before n (t ∷ ts)) (last_types n (t ∷ ts)))
          ∙ sym (append_assoc on_top.0 (map Some (types_before n (t ∷ ts))) (map Some (last_types n (t ∷ ts))))
          ∙ ap (λ z. (on_top.0 ++ map Some (types_before n (t ∷ ts))) ++ map Some z) (sym same),
    )
