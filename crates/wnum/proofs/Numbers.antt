-- What the functions on lists read is spelled so, and what is spelled so they read.
use Rattle.std.proofs.Common.{◌≡◌, ℕ, zero, suc, ◌^◌, ◌≤◌, Bool, true, false, cond, ltb, List, [], ◌∷◌, ◌++◌, length, Option, Some, None, refl, ap, subst, ◌∙◌, arith, ◌⊎◌, inl, inr}
use Rattle.std.specs.Prelude.{ℤ}
use Rattle.std.proofs.lemmas.Bool.{ltb-true, ltb-false, lt-ltb, le-ltb}
use Rattle.std.proofs.lemmas.Int.{ints}
use Rattle.wnum.specs.Number.{IsNumber, groups, sign, most, SpellsNumber, SpellsUnsigned, SpellsSigned, FitsUnsignedBits, FitsSignedBits}
use Rattle.wnum.specs.Reading.{◌>>=◌, Reads, number_at, sums_at, ranged, unsigned_value, signed_value, fits_unsigned_bits, fits_signed_bits, unsigned_at, signed_at}

-- the value of a step that did not fail
pub bind_some : {A B : Type 0} (r : Option A) (f : A → Option B) (y : B) → (r >>= f) ≡ Some y → (x : A) × (r ≡ Some x) × (f x ≡ Some y)
bind_some (Some x) f y e = (x, refl, e)
bind_some None f y e = absurd cc

pub guard_some : {A : Type 0} (b : Bool) (x y : A) → cond b (Some x) None ≡ Some y → (b ≡ true) × (x ≡ y)
guard_some true x y e = (refl, cc)
guard_some false x y e = absurd cc

pub chosen : {A : Type 0} (b : Bool) (x y z : A) → cond b x y ≡ z → ((b ≡ true) × (x ≡ z)) ⊎ ((b ≡ false) × (y ≡ z))
chosen true x y z e = inl (refl, e)
chosen false x y z e = inr (refl, e)

number_more : (b : ℕ) (bs : List ℕ) → 128 ≤ b → IsNumber bs → IsNumber (b ∷ bs)
number_more b [] h n = absurd n
number_more b (c ∷ bs) h n = (h, n)

abbrev pub IsFront : ℕ → List ℕ → List ℕ × List ℕ → Type 0
IsFront n bytes x = IsNumber x.0 × (length x.0 ≤ n) × (bytes ≡ x.0 ++ x.1)

pub number_takes : (n : ℕ) (bytes : List ℕ) (x : List ℕ × List ℕ) → number_at n bytes ≡ Some x → IsFront n bytes x
number_takes zero bytes x e = absurd cc
number_takes (suc n) [] x e = absurd cc
number_takes (suc n) (b ∷ bs) x e =
    elim (chosen (ltb b 128) (Some (b ∷ [], bs)) (number_at n bs >>= λ found. Some (b ∷ found.0, found.1)) (Some x) e) [
      | inl h ↦
          let is : (b ∷ [], bs) ≡ x = cc in
          subst (IsFront (suc n) (b ∷ bs)) is (ltb-true b 128 h.0, omega arith, refl)
      | inr h ↦
          let a = bind_some (number_at n bs) (λ found. Some (b ∷ found.0, found.1)) x h.1 in
          let t = number_takes n bs a.0 a.1 in
          let is : (b ∷ a.0.0, a.0.1) ≡ x = cc in
          subst (IsFront (suc n) (b ∷ bs)) is (number_more b a.0.0 (ltb-false b 128 h.0) t.0, omega (arith, t.1), ap (λ (r : List ℕ). b ∷ r) t.2)
    ]

pub number_again : (n : ℕ) (front rest : List ℕ) → IsNumber front → length front ≤ n → number_at n (front ++ rest) ≡ Some (front, rest)
number_again n [] rest h le = absurd h
number_again zero (b ∷ bs) rest h le = absurd (omega arith)
number_again (suc n) (b ∷ []) rest h le = rw (lt-ltb b 128 h) refl
number_again (suc n) (b ∷ c ∷ bs) rest h le = rw (le-ltb b 128 h.0, number_again n (c ∷ bs) rest h.1 (omega arith)) refl

-- a test instead of a fact
pub ranged_reads : {A : Type 0} (N : ℕ) (value : ℕ → ℕ → A) (InRange : A → Type 0) (in_range : A → Bool)
    → ((v : A) → in_range v ≡ true → InRange v) → ((v : A) → InRange v → in_range v ≡ true)
    → Reads (λ bytes. ranged value in_range (sums_at (most N) bytes)) (SpellsNumber N (λ bytes. value (groups bytes) (sign bytes)) InRange)
ranged_reads {A} N value InRange in_range there back = record {
  sound = λ bytes a rest e.
      let s = bind_some (sums_at (most N) bytes) (λ x. cond (in_range (value x.0.0 x.0.1)) (Some (value x.0.0 x.0.1, x.1)) None) (a, rest) e in
      let f = bind_some (number_at (most N) bytes) (λ found. Some ((groups found.0, sign found.0), found.1)) s.0 s.1 in
      let t = number_takes (most N) bytes f.0 f.1 in
      let g = guard_some (in_range (value s.0.0.0 s.0.0.1)) (value s.0.0.0 s.0.0.1, s.0.1) (a, rest) s.2 in
      let is : ((groups f.0.0, sign f.0.0), f.0.1) ≡ s.0 = cc in
      let at_a : value s.0.0.0 s.0.0.1 ≡ a = ap (λ (p : A × List ℕ). p.0) g.1 in
      let is_a : value (groups f.0.0) (sign f.0.0) ≡ a = ap (λ (p : (ℕ × ℕ) × List ℕ). value p.0.0 p.0.1) is ∙ at_a in
      let left : f.0.1 ≡ rest = ap (λ (p : (ℕ × ℕ) × List ℕ). p.1) is ∙ ap (λ (p : A × List ℕ). p.1) g.1 in
      (f.0.0, record { number = t.0; short = t.1; value = is_a; fits = subst InRange at_a (there _ g.0) }, t.2 ∙ ap (λ (r : List ℕ). f.0.0 ++ r) left);
  complete = λ front a rest s.
      let again = number_again (most N) front rest s.number s.short in
      let ok : in_range (value (groups front) (sign front)) ≡ true = ap in_range s.value ∙ back a s.fits in
      rw (again, ok) (ap (λ v. Some (v, rest)) s.value);
}

pub unsigned_reads : (N : ℕ) → Reads (unsigned_at N) (SpellsUnsigned N)
unfolding unsigned_at
unsigned_reads N = ranged_reads N unsigned_value (FitsUnsignedBits N) (fits_unsigned_bits N) (λ v e. ltb-true v (2 ^ N) e) (λ v h. lt-ltb v (2 ^ N) h)

pub signed_there : (N : ℕ) (v : ℤ) → fits_signed_bits N v ≡ true → FitsSignedBits N v
signed_there N v e = (grind (arith, ints), grind (arith, ints))

pub signed_back : (N : ℕ) (v : ℤ) → FitsSignedBits N v → fits_signed_bits N v ≡ true
signed_back N v h = grind (arith, ints, h.0, h.1)

pub signed_reads : (N : ℕ) → Reads (signed_at N) (SpellsSigned N)
unfolding signed_at
signed_reads N = ranged_reads N signed_value (FitsSignedBits N) (fits_signed_bits N) (signed_there N) (signed_back N)
