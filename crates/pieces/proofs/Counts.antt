-- Counting one index among others.
use Rattle.std.proofs.Common.{◌≡◌, ◌≢◌, ℕ, ◌<◌, ◌==◌, ◌||◌, Bool, true, false, List, [], ◌∷◌, refl, arith}
use Rattle.std.specs.Prelude.{if◌then◌else◌}
use Rattle.std.proofs.lemmas.Bool.Decides.{nat_tests}
use Rattle.pieces.specs.Counting.{total, times}
use Rattle.pieces.specs.Gathered.{Answer, indices, is_at}

abbrev pub is_one : ℕ → ℕ → ℕ
is_one j i = if j == i then 1 else 0

pub counted : (i j : ℕ) → j ≡ i → is_one j i ≡ 1
counted i j is = grind (arith, nat_tests)

pub uncounted : (i j : ℕ) → j ≢ i → is_one j i ≡ 0
uncounted i j isnt = grind (arith, nat_tests)

pub one_is : (i j : ℕ) → 0 < is_one j i → j ≡ i
one_is i j h = grind (arith, nat_tests)

pub times-indices : {O F : Type 0} (i : ℕ) (xs : List (Answer O F)) → times i (indices xs) ≡ total (is_at i) xs
times-indices i [] = refl
times-indices i (x ∷ xs) = let h = times-indices i xs in omega arith

pub or_false : (a : Bool) → (a || false) ≡ a
or_false true = refl
or_false false = refl
