-- Types that get their ids by their sorted indices: two ids are equal exactly where the types are (`given_all`).
-- It goes by the positions in the sorted list: equal types stand side by side (`together`), and `given_step` gives one id more.
-- `ids_of_types` of src/type_ids.rt cites it in its answers, and `AreGiven` in its invariant.
use Rattle.std.proofs.Common.{◌≡◌, ◌⊎◌, ℕ, ◌+◌, ◌-◌, ◌<◌, ◌≤◌, false, true, List, length, get_or, set, Some, sym, ap, subst, ◌∙◌, arith, inl, inr, refl}
use Rattle.std.specs.Prelude.{slice_get}
use Rattle.std.specs.List.{All, range_with_len}
use Rattle.std.specs.List.Sorted.{IsPermutation, IsSorted}
use Rattle.std.specs.Ordering.{is_eq, is_lt, is_ne, ordering_reverse}
use Rattle.std.specs.declared.cmp.Ordering.{Ordering}
use Rattle.std.specs.declared.cmp.Ordering.TheVariants.{Less, Equal, Greater}
use Rattle.std.proofs.lemmas.Bool.{cases_eq, cases_lt}
use Rattle.std.proofs.lemmas.Cmp.{alike_right, tied_back, tied_itself}
use Rattle.std.proofs.lemmas.List.{get_or_default, length-set, get_or-set_same, get_or-set_other}
use Rattle.std.proofs.lemmas.List.FromFn.{length-range_with_len, get_or-range_with_len}
use Rattle.std.proofs.lemmas.List.Sorted.{Contains-permutation, IsPermutation-sym, length_permutation, ranks_by, sorted_far}
use Rattle.std.proofs.lemmas.Option.{slice_get-get_or, slice_get_within}
use Rattle.wsyntax.specs.Types.{FuncType, same_func_type}
use Rattle.wsyntax.specs.Validation.ModuleContext.{type_at}
use Rattle.accepted_module.specs.TypeIds.{AreTypeIds, func_type_cmp, index_cmp}
use Rattle.accepted_module.proofs.TypeOrder.{func_type_total, func_types_tie}

-- the index at a position
abbrev at : List ℕ → ℕ → ℕ
at indices k = get_or indices k 0

-- the types of two indices are equal
abbrev pub Tied : List FuncType → ℕ → ℕ → Type 0
Tied types y z = index_cmp types y z ≡ Equal

chained : (types : List FuncType) (x y z : ℕ) → Tied types x y → Tied types y z → Tied types x z
chained types x y z a b = func_type_total.congr (type_at types x) (type_at types y) (type_at types z) a ∙ b

turned : (types : List FuncType) (y z : ℕ) → Tied types y z → Tied types z y
turned types y z a = tied_back func_type_total (type_at types y) (type_at types z) a

neither : (o p : Ordering) → o ≡ ordering_reverse p → is_lt o ≡ false → is_lt p ≡ false → o ≡ Equal
neither Less p back first second = cc
neither Equal p back first second = refl
neither Greater Less back first second = cc
neither Greater Equal back first second = cc
neither Greater Greater back first second = cc

tying : (o : Ordering) → is_ne o ≡ false → o ≡ Equal
tying Less e = absurd cc
tying Equal e = refl
tying Greater e = absurd cc

differing : (o : Ordering) → is_ne o ≡ true → o ≡ Equal → ⊥
differing o e tie = let not : is_ne o ≡ false = ap is_ne tie in cc

-- The sorted indices.

pub as_many : (types : List FuncType) (indices : List ℕ) → IsPermutation (range_with_len 0 (length types)) indices → length indices ≡ length types
as_many types indices each = length_permutation (range_with_len 0 (length types)) indices each ∙ length-range_with_len 0 (length types)

pub read : (indices : List ℕ) (k y : ℕ) → k < length indices → y ≡ get_or indices k y → y ≡ at indices k
read indices k y within is = is ∙ get_or_default indices k y 0 within

-- each is the index of a type
pub low_at : (types : List FuncType) (indices : List ℕ) (k : ℕ) → IsPermutation (range_with_len 0 (length types)) indices → k < length indices → at indices k < length types
low_at types indices k each within =
    let y = at indices k in
    let found = Contains-permutation indices (range_with_len 0 (length types)) y (IsPermutation-sym (range_with_len 0 (length types)) indices each) (k, within, get_or_default indices k y 0 within) in
    let below : found.0 < length types = omega (arith, length-range_with_len 0 (length types), found.1) in
    omega (arith, get_or-range_with_len 0 (length types) found.0 y below, found.2)

-- Equal types stand side by side.

together : (types : List FuncType) (indices : List ℕ) (low mid high : ℕ) → IsSorted (index_cmp types) indices → low ≤ mid → mid ≤ high → high < length indices → Tied types (at indices low) (at indices high) → Tied types (at indices mid) (at indices high)
together types indices low mid high up first second below same =
    let weak = ranks_by func_type_total (type_at types) in
    let left : is_lt (index_cmp types (at indices mid) (at indices low)) ≡ false = sorted_far _ weak indices up low mid 0 first (omega arith) in
    let right : is_lt (index_cmp types (at indices high) (at indices mid)) ≡ false = sorted_far _ weak indices up mid high 0 second below in
    let alike = alike_right func_type_total (type_at types (at indices low)) (type_at types (at indices high)) (type_at types (at indices mid)) same in
    neither _ _ (func_type_total.antisymm (type_at types (at indices mid)) (type_at types (at indices high))) (ap is_lt (sym alike) ∙ left) right

-- From `first` up to this position all types are equal, and none before is equal to them.
pub record IsRun (types : List FuncType) (indices : List ℕ) (first position : ℕ) : Type 0 where
  pub low : first ≤ position - 1
  pub run : (j : ℕ) → first ≤ j → j < position → Tied types (at indices first) (at indices j)
  pub least : (j : ℕ) → j < first → Tied types (at indices j) (at indices first) → ⊥

run_goes_on : (types : List FuncType) (indices : List ℕ) (first position : ℕ) → IsRun types indices first position → Tied types (at indices first) (at indices position) → IsRun types indices first (position + 1)
run_goes_on types indices first position before tie = record { low = omega (arith, before.low); run = run; least = before.least }
  where
    run : (j : ℕ) → first ≤ j → j < position + 1 → Tied types (at indices first) (at indices j)
    run j from to =
        elim (cases_lt j position) [
          | inl below ↦ before.run j from below
          | inr above ↦ let here : position ≡ j = omega arith in subst (λ (k : ℕ). Tied types (at indices first) (at indices k)) here tie
        ]

run_begins : (types : List FuncType) (indices : List ℕ) (first position : ℕ) → IsSorted (index_cmp types) indices → position < length indices → IsRun types indices first position → (Tied types (at indices first) (at indices position) → ⊥) → IsRun types indices position (position + 1)
run_begins types indices first position up within before differs = record { low = omega arith; run = run; least = least }
  where
    run : (j : ℕ) → position ≤ j → j < position + 1 → Tied types (at indices position) (at indices j)
    run j from to = let here : position ≡ j = omega arith in subst (λ (k : ℕ). Tied types (at indices position) (at indices k)) here (tied_itself func_type_total (type_at types (at indices position)))

    least : (j : ℕ) → j < position → Tied types (at indices j) (at indices position) → ⊥
    least j lt tie =
        elim (cases_lt j first) [
          | inl below ↦ differs (together types indices j first position up (omega arith) (omega (arith, before.low)) within tie)
          | inr above ↦ differs (chained types (at indices first) (at indices j) (at indices position) (before.run j above lt) tie)
        ]

pub run_more : (types : List FuncType) (indices : List ℕ) (first next position a b : ℕ) (o : Ordering) → IsSorted (index_cmp types) indices → position < length indices → a ≡ get_or indices first a → b ≡ get_or indices position b → o ≡ index_cmp types a b → IsRun types indices first position → ((is_ne o ≡ true) × (next ≡ position)) ⊎ ((is_ne o ≡ false) × (next ≡ first)) → IsRun types indices next (position + 1)
run_more types indices first next position a b o up within one other is before way =
    elim way [
      | inl new ↦ subst (λ (k : ℕ). IsRun types indices k (position + 1)) (sym new.1) (run_begins types indices first position up within before (λ tie. differing o new.0 (compared ∙ tie)))
      | inr on ↦ subst (λ (k : ℕ). IsRun types indices k (position + 1)) (sym on.1) (run_goes_on types indices first position before (sym compared ∙ tying o on.0))
    ]
  where
    compared : o ≡ index_cmp types (at indices first) (at indices position)
    compared =
        is ∙ ap (λ (y : ℕ). index_cmp types y b) (read indices first a (omega (arith, before.low)) one)
        ∙ ap (index_cmp types (at indices first)) (read indices position b within other)

-- Ids.

-- the id of a type: the first position of an equal one
pub record IsIdOf (types : List FuncType) (indices : List ℕ) (y id : ℕ) : Type 0 where
  pub within : id < length indices
  pub same : Tied types (at indices id) y
  pub least : (j : ℕ) → j < id → Tied types (at indices j) y → ⊥

-- what holds where the types before this position have their ids
pub record AreGiven (types : List FuncType) (indices : List ℕ) (first position : ℕ) (ids : List ℕ) : Type 0 where
  pub count : length ids ≡ length types
  pub run : IsRun types indices first position
  pub given : (j : ℕ) → j < position → IsIdOf types indices (at indices j) (at ids (at indices j))

pub given_step : (types : List FuncType) (indices : List ℕ) (first next position : ℕ) (ids : List ℕ) → position < length indices → at indices position < length types → IsRun types indices next (position + 1) → AreGiven types indices first position ids → AreGiven types indices next (position + 1) (set ids (at indices position) next)
given_step types indices first next position ids within low run before = record { count = length-set ids (at indices position) next ∙ before.count; run = run; given = given }
  where
    here : IsIdOf types indices (at indices position) next
    here =
        let same = run.run position (omega (arith, run.low)) (omega arith) in
        record {
          within = omega (arith, run.low);
          same = same;
          least = λ j lt tie. run.least j lt (chained types (at indices j) (at indices position) (at indices next) tie (turned types (at indices next) (at indices position) same));
        }

    given : (j : ℕ) → j < position + 1 → IsIdOf types indices (at indices j) (at (set ids (at indices position) next) (at indices j))
    given j lt =
        elim (cases_eq (at indices j) (at indices position)) [
          | inl same ↦ rw (same, get_or-set_same ids (at indices position) next 0 (omega (arith, before.count))) here
          | inr other ↦
              elim (cases_lt j position) [
                | inl below ↦ rw (get_or-set_other ids (at indices position) (at indices j) next 0 other) (before.given j below)
                | inr above ↦ let is : j ≡ position = omega arith in absurd (other (ap (at indices) is))
              ]
        ]

some_is : (a c : ℕ) → Some a ≡ Some c → a ≡ c
some_is a c e = cc

equal_from : (o : Ordering) → is_eq o ≡ true → o ≡ Equal
equal_from Less e = absurd cc
equal_from Equal e = refl
equal_from Greater e = absurd cc

-- equal types have one id
one_id : (types : List FuncType) (indices : List ℕ) (y z a b : ℕ) → IsIdOf types indices y a → IsIdOf types indices z b → Tied types y z → a ≡ b
one_id types indices y z a b first second tie =
    elim (cases_lt a b) [
      | inl below ↦ absurd (second.least a below (chained types (at indices a) y z first.same tie))
      | inr above ↦
          elim (cases_lt b a) [
            | inl below ↦ absurd (first.least b below (chained types (at indices b) z y second.same (turned types y z tie)))
            | inr under ↦ omega arith
          ]
    ]

pub given_all : (types : List FuncType) (indices : List ℕ) (first : ℕ) (ids : List ℕ) → IsPermutation (range_with_len 0 (length types)) indices → AreGiven types indices first (length indices) ids → AreTypeIds types ids
given_all types indices first ids each all = record { count = all.count; below = below; same = λ y z s t a b. (to y z s t a b, from y z s t a b) }
  where
    id_of : (y : ℕ) → y < length types → IsIdOf types indices y (at ids y)
    id_of y within =
        let there : y < length (range_with_len 0 (length types)) = omega (arith, length-range_with_len 0 (length types)) in
        let is : get_or (range_with_len 0 (length types)) y y ≡ y = omega (arith, get_or-range_with_len 0 (length types) y y within) in
        let found = Contains-permutation (range_with_len 0 (length types)) indices y each (y, there, is) in
        let here : at indices found.0 ≡ y = get_or_default indices found.0 0 y found.1 ∙ found.2 in
        subst (λ (z : ℕ). IsIdOf types indices z (at ids z)) here (all.given found.0 found.1)

    below : All (λ n. n < length types) ids
    below k e within =
        let id = id_of k (omega (arith, all.count)) in
        omega (arith, as_many types indices each, get_or_default ids k e 0 within, id.within)

    at_index : (y : ℕ) → y < length types → slice_get ids y ≡ Some (at ids y)
    at_index y within = slice_get-get_or ids y 0 (omega (arith, all.count))

    tied : (y z : ℕ) (s t : FuncType) → slice_get types y ≡ Some s → slice_get types z ≡ Some t → index_cmp types y z ≡ func_type_cmp s t
    tied y z s t a b = rw (a, b) refl

    to : (y z : ℕ) (s t : FuncType) → slice_get types y ≡ Some s → slice_get types z ≡ Some t → slice_get ids y ≡ slice_get ids z → same_func_type s t ≡ true
    to y z s t a b e =
        let first = slice_get_within types y s a in
        let second = slice_get_within types z t b in
        let one : at ids y ≡ at ids z = some_is (at ids y) (at ids z) (sym (at_index y first) ∙ e ∙ at_index z second) in
        let same : Tied types (at indices (at ids y)) z = rw one (id_of z second).same in
        let tie : Tied types y z = chained types y (at indices (at ids y)) z (turned types (at indices (at ids y)) y (id_of y first).same) same in
        sym (func_types_tie s t) ∙ ap is_eq (sym (tied y z s t a b) ∙ tie)

    from : (y z : ℕ) (s t : FuncType) → slice_get types y ≡ Some s → slice_get types z ≡ Some t → same_func_type s t ≡ true → slice_get ids y ≡ slice_get ids z
    from y z s t a b e =
        let first = slice_get_within types y s a in
        let second = slice_get_within types z t b in
        let tie : Tied types y z = tied y z s t a b ∙ equal_from (func_type_cmp s t) (func_types_tie s t ∙ e) in
        at_index y first ∙ ap (λ (k : ℕ). Some k) (one_id types indices y z (at ids y) (at ids z) (id_of y first) (id_of z second) tie) ∙ sym (at_index z second)
