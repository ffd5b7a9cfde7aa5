-- A sum, and a greatest number, over what is left of a list.
use Rattle.std.proofs.Common.{◌≡◌, ℕ, ◌+◌, max, List, drop, ap, ◌∙◌}
use Rattle.std.specs.Prelude.{Some, slice_get}
use Rattle.std.specs.List.{sum_by}
use Rattle.std.proofs.lemmas.List.{at_drop_more}
use Rattle.std.proofs.lemmas.List.Sums.{sum_by-drop_more}
use Rattle.std.proofs.lemmas.Option.{slice_get_within, get_or_from_slice_get}
use Rattle.c_api.specs.Measures.{most_by}

-- the element that stands next, and those after it
pub sum_next : {X : Type 0} (f : X → ℕ) (xs : List X) (i : ℕ) (x : X) → slice_get xs i ≡ Some x
    → sum_by f (drop i xs) ≡ f x + sum_by f (drop (i + 1) xs)
sum_next f xs i x h =
    sum_by-drop_more f xs i x (slice_get_within xs i x h) ∙ ap (λ (y : _). f y + sum_by f (drop (i + 1) xs)) (get_or_from_slice_get xs i x x h)

pub most_next : {X : Type 0} (f : X → ℕ) (xs : List X) (i : ℕ) (x : X) → slice_get xs i ≡ Some x
    → most_by f (drop i xs) ≡ max (f x) (most_by f (drop (i + 1) xs))
most_next f xs i x h =
    at_drop_more (most_by f) xs i x (slice_get_within xs i x h) ∙ ap (λ (y : _). max (f y) (most_by f (drop (i + 1) xs))) (get_or_from_slice_get xs i x x h)
