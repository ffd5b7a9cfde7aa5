-- The first item of a list that is not right, item by item.
use Rattle.std.proofs.Common.{◌≡◌, ◌↔◌, ℕ, ◌+◌, ◌<◌, ◌≤◌, Bool, true, false, IsTrue, List, length, get_or, map, take, not, Option, Some, None, refl, ap, sym, subst, ◌∙◌}
use Rattle.std.specs.Prelude.{slice_get, option_map, is_some}
use Rattle.std.specs.List.{All}
use Rattle.std.proofs.lemmas.List.{take_all, take-map}
use Rattle.std.proofs.lemmas.List.Elements.{All-map, All-more, All-get_or}
use Rattle.std.proofs.lemmas.Option.{slice_get_read, slice_get-get_or, slice_get-map, slice_get_within, get_or_from_slice_get}
use Rattle.wcontext.specs.Firsts.{IsFirst, GivesFirstOf}

-- A loop that tests each item, over a list zs that is xs.

pub item_got : {X : Type 0} (zs : List X) (i : ℕ) (x : X) → x ≡ get_or zs i x → i < length zs → slice_get zs i ≡ Some x
item_got zs i x is below = slice_get_read zs (length zs) i x refl below is

-- the test of this item passes
pub right_here : {X : Type 0} (P : X → Type 0) (zs xs : List X) (i : ℕ) (x : X) (b : Bool) → zs ≡ xs → slice_get zs i ≡ Some x → (IsTrue b ↔ P x) → b ≡ true → All P (take i xs) → All P (take (i + 1) xs)
right_here P zs xs i x b same got test passed before =
    let there : slice_get xs i ≡ Some x = subst (λ ys. slice_get ys i ≡ Some x) same got in
    All-more P xs i x (slice_get_within xs i x there) before (subst P (sym (get_or_from_slice_get xs i x x there)) (test.0 passed))

pub right_read : {X : Type 0} (P : X → Type 0) (zs xs : List X) (i : ℕ) (d : X) (b : Bool) → zs ≡ xs → i < length zs → (IsTrue b ↔ P (get_or zs i d)) → b ≡ true → All P (take i xs) → All P (take (i + 1) xs)
right_read P zs xs i d b same below = right_here P zs xs i (get_or zs i d) b same (slice_get-get_or zs i d below)

-- each has passed
pub each_right : {X : Type 0} (P : X → Type 0) (zs xs : List X) (n : ℕ) → zs ≡ xs → length zs ≤ n → All P (take n xs) → All P xs
each_right P zs xs n same end before = subst (All P) (take_all n xs (subst (λ ys. length ys ≤ n) same end)) before

-- A loop that tests what each item stands for.

-- the test of this item fails
pub first_here : {X Y : Type 0} (f : X → Y) (P : Y → Type 0) (zs xs : List X) (i : ℕ) (x : X) (b : Bool) → zs ≡ xs → slice_get zs i ≡ Some x → (IsTrue b ↔ P (f x)) → b ≡ false
    → All (λ z. P (f z)) (take i xs) → IsFirst P (map f xs) i (f x)
first_here f P zs xs i x b same got test failed before = record {
  there = slice_get-map f xs i ∙ ap (option_map f) (subst (λ ys. slice_get ys i ≡ Some x) same got);
  wrong = λ p. let passed : b ≡ true = test.1 p in cc;
  before = subst (All P) (sym (take-map f i xs)) (All-map P f (take i xs) before);
}

-- each has passed
pub each_shape : {X Y : Type 0} (f : X → Y) (P : Y → Type 0) (zs xs : List X) (n : ℕ) → zs ≡ xs → length zs ≤ n → All (λ z. P (f z)) (take n xs) → All P (map f xs)
each_shape f P zs xs n same end before = All-map P f xs (each_right (λ z. P (f z)) zs xs n same end before)

-- Nothing is found exactly where each is right.

pub first_breaks : {X : Type 0} (P : X → Type 0) (xs : List X) (i : ℕ) (x : X) → IsFirst P xs i x → All P xs → ⊥
first_breaks P xs i x first all = first.wrong (subst P (get_or_from_slice_get xs i x x first.there) (All-get_or P xs i x (slice_get_within xs i x first.there) all))

pub none_found : {X Y : Type 0} (f : X → Y) (P : Y → Type 0) (ys : List Y) (found : Option (ℕ × X)) (b : Bool) → is_some found ≡ not b → GivesFirstOf f P ys found → IsTrue b ↔ All P ys
none_found f P ys None true is all = (λ t. all, λ a. refl)
none_found f P ys None false is all = (λ t. cc, λ a. cc)
none_found f P ys (Some (i, x)) true is first = (λ t. cc, λ a. refl)
none_found f P ys (Some (i, x)) false is first = (λ t. cc, λ all. absurd (first_breaks P ys i (f x) first all))
