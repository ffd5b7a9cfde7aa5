-- What a search by name tells of all positions.
use Rattle.std.proofs.Common.{◌≡◌, ◌≢◌, ℕ, List, sym, ap, ◌∙◌, arith, get_or, inl, inr}
use Rattle.std.specs.Cmp.Lexicographic.{slice_cmp, texts_ties}
use Rattle.std.specs.Ordering.{nat_cmp, is_eq, ordering_index}
use Rattle.std.specs.declared.cmp.Ordering.{Ordering}
use Rattle.std.specs.declared.cmp.Ordering.TheVariants.{Less, Equal, Greater}
use Rattle.std.specs.List.{All}
use Rattle.std.specs.List.Sorted.{IsSortedByKey, IsPartitionPoint, IsNonDecreasingBy}
use Rattle.std.proofs.lemmas.Bool.{cases_lt}
use Rattle.std.proofs.lemmas.Cmp.{nat_list_cmp_total, tied_itself}
use Rattle.std.proofs.lemmas.Slice.Eq.{bytes_eq-Decides}
use Rattle.std.proofs.lemmas.List.Sorted.{searchable_from_sorted}

-- names that the order ties are one
pub same_name : (xs ys : List ℕ) → slice_cmp nat_cmp xs ys ≡ Equal → xs ≡ ys
same_name xs ys e = (bytes_eq-Decides xs ys).0 (texts_ties xs ys ∙ ap is_eq e)

apart : (o : Ordering) (xs ys : List ℕ) → slice_cmp nat_cmp xs ys ≡ o → o ≢ Equal → xs ≢ ys
apart o xs ys e differ same = differ (sym e ∙ ap (slice_cmp nat_cmp xs) (sym same) ∙ tied_itself nat_list_cmp_total xs)

-- no position has the name where the search ends between those below it and those above
pub none_named : (name_at : ℕ → List ℕ) (positions : List ℕ) (name : List ℕ) (i : ℕ) → IsSortedByKey name_at (slice_cmp nat_cmp) positions → (IsNonDecreasingBy (λ y. ordering_index (slice_cmp nat_cmp (name_at y) name)) positions → IsPartitionPoint (λ y. slice_cmp nat_cmp (name_at y) name ≡ Less) (λ y. slice_cmp nat_cmp (name_at y) name ≡ Greater) positions i) → All (λ k. name_at k ≢ name) positions
none_named name_at positions name i up found k d within =
    let parted = found (searchable_from_sorted nat_list_cmp_total name_at positions name up) in
    elim (cases_lt k i) [
      | inl below ↦ apart Less (name_at (get_or positions k d)) name (parted.0 k d (omega arith) below) (λ e. cc)
      | inr above ↦ apart Greater (name_at (get_or positions k d)) name (parted.1 k d above within) (λ e. cc)
    ]
