-- A number of more than five bytes is five bytes, and then one of at most five.
use Rattle.std.proofs.Common.{◌≡◌, ℕ, suc, ◌+◌, ◌*◌, ◌%◌, ◌≤◌, Bool, true, false, cond, ltb, List, [], ◌∷◌, length, get_or, drop, Option, Some, None, refl, ap, ◌∙◌, arith}
use Rattle.std.proofs.lemmas.Bool.{ltb-false, le-ltb}
use Rattle.wnum.specs.Number.{IsNumber, groups, sign, five}
use Rattle.wnum.specs.Reading.{Read, ◌>>=◌, number_at, sums_at}
use Rattle.wnum.proofs.Numbers.{bind_some, number_takes}

abbrev pub Sums : Type 0
Sums = (ℕ × ℕ) × List ℕ

abbrev pub under : ℕ → Sums → Sums
under b x = ((b % 128 + 128 * x.0.0, 128 * x.0.1), x.1)

under_number : (b : ℕ) (f : List ℕ) → IsNumber f → sign (b ∷ f) ≡ 128 * sign f
under_number b [] h = absurd h
under_number b (c ∷ f) h = refl

-- one byte more
pub step_some : (n b : ℕ) (bs : List ℕ) (x : Sums) → 128 ≤ b → sums_at n bs ≡ Some x → sums_at (suc n) (b ∷ bs) ≡ Some (under b x)
step_some n b bs x h e =
    let f = bind_some (number_at n bs) (λ found. Some ((groups found.0, sign found.0), found.1)) x e in
    let t = number_takes n bs f.0 f.1 in
    let is : ((groups f.0.0, sign f.0.0), f.0.1) ≡ x = cc in
    rw (le-ltb b 128 h, f.1, under_number b f.0.0 t.0) (ap (λ (y : Sums). Some (under b y)) is)

abbrev of_front : Read (List ℕ) → Option Sums
of_front r = r >>= λ found. Some ((groups found.0, sign found.0), found.1)

abbrev behind : ℕ → Read (List ℕ) → Read (List ℕ)
behind b r = r >>= λ found. Some (b ∷ found.0, found.1)

none_behind : (b : ℕ) (r : Read (List ℕ)) → of_front (behind b r) ≡ None → of_front r ≡ None
none_behind b None e = refl
none_behind b (Some x) e = absurd cc

-- what a front byte is where nothing is read
front_by : (n b : ℕ) (bs : List ℕ) (t : Bool) → ltb b 128 ≡ t → of_front (cond t (Some (b ∷ [], bs)) (behind b (number_at n bs))) ≡ None → (128 ≤ b) × (sums_at n bs ≡ None)
front_by n b bs true h e = absurd cc
front_by n b bs false h e = (ltb-false b 128 h, none_behind b (number_at n bs) e)

pub front_of_none : (n b : ℕ) (bs : List ℕ) → sums_at (suc n) (b ∷ bs) ≡ None → (128 ≤ b) × (sums_at n bs ≡ None)
front_of_none n b bs e = front_by n b bs (ltb b 128) refl e

regroup : (a b c d e s t : ℕ) (r : List ℕ) → under a (under b (under c (under d (under e ((s, t), r))))) ≡ ((five a b c d e + 34359738368 * s, 34359738368 * t), r)
regroup a b c d e s t r =
    let p : a % 128 + 128 * (b % 128 + 128 * (c % 128 + 128 * (d % 128 + 128 * (e % 128 + 128 * s)))) ≡ five a b c d e + 34359738368 * s = omega arith in
    let q : 128 * (128 * (128 * (128 * (128 * t)))) ≡ 34359738368 * t = omega arith in
    ap (λ (v : ℕ × ℕ). let w : Sums = (v, r) in w) (ap (λ x. let w : ℕ × ℕ = (x, 128 * (128 * (128 * (128 * (128 * t))))) in w) p ∙ ap (λ y. let w : ℕ × ℕ = (five a b c d e + 34359738368 * s, y) in w) q)

pub ten_some : (a b c d e : ℕ) (rest : List ℕ) (s t : ℕ) (r : List ℕ) → sums_at 5 (a ∷ b ∷ c ∷ d ∷ e ∷ rest) ≡ None → sums_at 5 rest ≡ Some ((s, t), r)
    → sums_at 10 (a ∷ b ∷ c ∷ d ∷ e ∷ rest) ≡ Some ((five a b c d e + 34359738368 * s, 34359738368 * t), r)
ten_some a b c d e rest s t r none some =
    let fa = front_of_none 4 a (b ∷ c ∷ d ∷ e ∷ rest) none in
    let fb = front_of_none 3 b (c ∷ d ∷ e ∷ rest) fa.1 in
    let fc = front_of_none 2 c (d ∷ e ∷ rest) fb.1 in
    let fd = front_of_none 1 d (e ∷ rest) fc.1 in
    let fe = front_of_none 0 e rest fd.1 in
    step_some 9 a (b ∷ c ∷ d ∷ e ∷ rest) _ fa.0 (step_some 8 b (c ∷ d ∷ e ∷ rest) _ fb.0 (step_some 7 c (d ∷ e ∷ rest) _ fc.0 (step_some 6 d (e ∷ rest) _ fd.0 (step_some 5 e rest ((s, t), r) fe.0 some)))) ∙ ap (λ (x : Sums). Some x) (regroup a b c d e s t r)

-- the same at bytes that are known by their offsets
pub at_some : (bytes : List ℕ) (s t : ℕ) (r : List ℕ) → 5 ≤ length bytes → sums_at 5 bytes ≡ None → sums_at 5 (drop 5 bytes) ≡ Some ((s, t), r)
    → sums_at 10 bytes ≡ Some ((five (get_or bytes 0 0) (get_or bytes 1 0) (get_or bytes 2 0) (get_or bytes 3 0) (get_or bytes 4 0) + 34359738368 * s, 34359738368 * t), r)
at_some (a ∷ b ∷ c ∷ d ∷ e ∷ rest) s t r long none some = ten_some a b c d e rest s t r none some
at_some (a ∷ b ∷ c ∷ d ∷ []) s t r long none some = absurd (omega arith)
at_some (a ∷ b ∷ c ∷ []) s t r long none some = absurd (omega arith)
at_some (a ∷ b ∷ []) s t r long none some = absurd (omega arith)
at_some (a ∷ []) s t r long none some = absurd (omega arith)
at_some [] s t r long none some = absurd (omega arith)
