-- Names are distinct exactly where, once they are sorted, each differs from the next.
use Rattle.std.proofs.Common.{◌≡◌, ◌≢◌, ℕ, ◌+◌, ◌↔◌, Bool, true, false, IsTrue, List, [], ◌∷◌, Bor, map, refl, sym, ◌∙◌, subst, arith, not}
use Rattle.std.specs.Bool.{Decides}
use Rattle.std.specs.List.{AllPairs, IsDistinct, IsAllAdjacentAnswer, slice_index_or}
use Rattle.std.specs.List.Sorted.{IsPermutation, IsSorted}
use Rattle.std.specs.Str.{bytes_eq}
use Rattle.std.specs.Cmp.{IsTotalOrder}
use Rattle.std.specs.Cmp.Lexicographic.{slice_cmp, on_texts, texts_ties}
use Rattle.std.specs.Ordering.{eq_by_cmp, nat_cmp, is_eq, is_lt, ordering_reverse}
use Rattle.std.specs.declared.cmp.Ordering.{Ordering}
use Rattle.std.specs.declared.cmp.Ordering.TheVariants.{Less, Equal, Greater}
use Rattle.std.proofs.lemmas.Bool.{both_ways, iff_false, not-true, not-false, false_from_ne_true}
use Rattle.std.proofs.lemmas.Cmp.{eq_by_cmp_equiv}
use Rattle.std.proofs.lemmas.Slice.Eq.{bytes_eq-Decides}
use Rattle.std.proofs.lemmas.List.Sorted.{IsPermutation-sym}
use Rattle.std.proofs.lemmas.Map.Keys.{sorted_from_all_adjacent, IsDistinct-from_sorted, IsDistinct-IsPermutation, apart_from_distinct, IsDistinct-from_apart}
use Rattle.wcontext.proofs.Shapes.{AllPairs-map, AllPairs-unmap}

-- the order of names
abbrev name_cmp : Bor (List ℕ) → Bor (List ℕ) → Ordering
name_cmp x y = slice_cmp nat_cmp x.now y.now

name_total : IsTotalOrder name_cmp
name_total = on_texts (λ (x : Bor (List ℕ)). x.now)

-- whether the order ties two names
abbrev tied : Bor (List ℕ) → Bor (List ℕ) → Bool
tied = eq_by_cmp name_cmp

-- two names that it does not tie differ, and back
names_apart : (x y : Bor (List ℕ)) → tied x y ≡ false ↔ (x.now ≢ y.now)
names_apart x y =
    let same : Decides (tied x y) (x.now ≡ y.now) = subst (λ b. Decides b (x.now ≡ y.now)) (texts_ties x.now y.now) (bytes_eq-Decides x.now y.now) in
    (iff_false same, λ differ. false_from_ne_true (tied x y) (λ told. differ (same.0 told)))

less_if : (o p : Ordering) → o ≡ ordering_reverse p → is_lt p ≡ false → is_eq o ≡ false → o ≡ Less
less_if o Less back up differ = cc
less_if o Equal back up differ = cc
less_if o Greater back up differ = back

-- a name that is not above the next and differs from it is below it
below_next : (x y : Bor (List ℕ)) → is_lt (name_cmp y x) ≡ false → true ≡ not (bytes_eq x.now y.now) → name_cmp x y ≡ Less
below_next x y up differ = less_if (name_cmp x y) (name_cmp y x) (name_total.antisymm x y) up (sym (texts_ties x.now y.now) ∙ not-true _ (sym differ))

same_next : (x y : Bor (List ℕ)) → tied x y ≡ false → false ≡ not (bytes_eq x.now y.now) → ⊥
same_next x y apart same = both_ways (tied x y) apart (sym (texts_ties x.now y.now) ∙ not-false _ (sym same))

-- the answer of a test of neighbours
abbrev pub NeighboursDiffer : List (Bor (List ℕ)) → Bool → Type 0
NeighboursDiffer = IsAllAdjacentAnswer (λ x y r. r ≡ not (bytes_eq x.now y.now))

sorted_distinct : (ys : List (Bor (List ℕ))) (b : Bool) → IsSorted name_cmp ys → NeighboursDiffer ys b → IsTrue b ↔ IsDistinct tied ys
unfolding IsDistinct
sorted_distinct [] true up answer = (λ t. tt, λ distinct. refl)
sorted_distinct [] false up answer = absurd (omega (arith, answer.1))
sorted_distinct (y ∷ ys) true up answer = (
  λ t. IsDistinct-from_sorted name_cmp (y ∷ ys) (sorted_from_all_adjacent name_total (y ∷ ys) y (λ k below.
      below_next (slice_index_or (y ∷ ys) k y) (slice_index_or (y ∷ ys) (k + 1) y) (up k y (omega arith) below) (answer k y below))),
  λ distinct. refl,
)
sorted_distinct (y ∷ ys) false up answer = (
  λ t. cc,
  λ distinct. absurd (same_next (slice_index_or (y ∷ ys) answer.0 y) (slice_index_or (y ∷ ys) (answer.0 + 1) y)
      (apart_from_distinct tied (y ∷ ys) answer.0 (answer.0 + 1) y distinct (omega arith) answer.1) (answer.2 y)),
)

-- names of which no two are tied are distinct, and back
distinct_names : (xs : List (Bor (List ℕ))) → IsDistinct tied xs ↔ AllPairs (λ x y. x.now ≢ y.now) xs
distinct_names xs = (
  λ distinct i j d before below. (names_apart (slice_index_or xs i d) (slice_index_or xs j d)).0 (apart_from_distinct tied xs i j d distinct before below),
  λ pairs. IsDistinct-from_apart tied xs (λ i j d before below. (names_apart (slice_index_or xs i d) (slice_index_or xs j d)).1 (pairs i j d before below)),
)

pub exports_distinct : {E : Type 0} (f : E → Bor (List ℕ)) (es : List E) (ys : List (Bor (List ℕ))) (b : Bool) → IsPermutation (map f es) ys → IsSorted name_cmp ys → NeighboursDiffer ys b → IsTrue b ↔ AllPairs (λ x y. (f x).now ≢ (f y).now) es
exports_distinct f es ys b moved up answer =
    let test = sorted_distinct ys b up answer in
    let flips = (eq_by_cmp_equiv name_total).symm in (
      λ t. AllPairs-unmap f (λ x y. x.now ≢ y.now) es ((distinct_names (map f es)).0 (IsDistinct-IsPermutation tied flips ys (map f es) (IsPermutation-sym (map f es) ys moved) (test.0 t))),
      λ pairs. test.1 (IsDistinct-IsPermutation tied flips (map f es) ys moved ((distinct_names (map f es)).1 (AllPairs-map f (λ x y. x.now ≢ y.now) es pairs))),
    )
