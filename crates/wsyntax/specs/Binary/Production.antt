-- 5.1.2 The words that productions of the binary grammar are built of.
-- A production says which bytes spell which value, and how the front of bytes is read. Both come of the same words, so that a production is written once.
use Rattle.std.specs.Prelude.{◌⊎◌, ◌≡◌, ℕ, zero, suc, List, [], ◌∷◌, ◌++◌, length, take, drop, Option, Some, None, nat_lt, ◌==◌, if◌then◌else◌}
use Rattle.wnum.specs.Reading.{Reads}
use Rattle.wnum.specs.Reading as reading

-- 5.1.1 a production: which bytes spell which value, and how a front of the bytes is read
pub record Production (A : Type 0) : Type 1 where
  pub spells : List ℕ → A → Type 0
  pub read : List ℕ → Option (A × List ℕ)

-- 5.1 what is read is spelled so, and what is spelled so is read, whatever follows: so the bytes at the front spell one value at most
abbrev pub Agrees : {A : Type 0} → Production A → Type 0
Agrees p = Reads p.read p.spells

-- the byte at the front
abbrev pub byte_at : List ℕ → Option (ℕ × List ℕ)
byte_at [] = None
byte_at (b ∷ rest) = Some (b, rest)

-- 5.2.1 one byte
abbrev pub byte : Production ℕ
byte = record { spells = λ bytes b. bytes ≡ b ∷ []; read = byte_at }

-- 5.1.1 no byte, and the value, where there is one
abbrev pub given : {A : Type 0} → Option A → Production A
given o = record { spells = λ bytes a. (bytes ≡ []) × (o ≡ Some a); read = λ bytes. reading.◌>>=◌ o (λ a. Some (a, bytes)) }

-- no byte, and the value
abbrev pub pure : {A : Type 0} → A → Production A
pure a = given (Some a)

-- 5.1.1 one production after the other
infixl 10 ◌>>=◌
abbrev pub ◌>>=◌ : {A B : Type 0} → Production A → (A → Production B) → Production B
◌>>=◌ {A} p f = record {
  spells = λ bytes b. (x y : List ℕ) × (a : A) × (bytes ≡ x ++ y) × p.spells x a × (f a).spells y b;
  read = λ bytes. reading.◌>>=◌ (p.read bytes) (λ found. (f found.0).read found.1);
}

-- this one byte
abbrev pub exactly : ℕ → Production ℕ
exactly b = do
  c ← byte
  given (if c == b then Some c else None)

-- what is read first, or else the other
abbrev pub or_read : {A : Type 0} → Option (A × List ℕ) → Option (A × List ℕ) → Option (A × List ℕ)
or_read (Some x) other = Some x
or_read None other = other

-- 5.1.1 one production or the other; the first is tried first, so this agrees only where no bytes of the second begin as those of the first
abbrev pub either : {A : Type 0} → Production A → Production A → Production A
either p q = record { spells = λ bytes a. p.spells bytes a ⊎ q.spells bytes a; read = λ bytes. or_read (p.read bytes) (q.read bytes) }

-- n bytes
abbrev pub raw : ℕ → Production (List ℕ)
raw n = record { spells = λ bytes s. (bytes ≡ s) × (length s ≡ n); read = λ bytes. if nat_lt (length bytes) n then None else Some (take n bytes, drop n bytes) }

-- n values at the front, one after the other
abbrev pub times_at : {A : Type 0} → (List ℕ → Option (A × List ℕ)) → ℕ → List ℕ → Option (List A × List ℕ)
times_at read zero bytes = Some ([], bytes)
times_at read (suc n) bytes = reading.◌>>=◌ (read bytes) (λ first. reading.◌>>=◌ (times_at read n first.1) (λ others. Some (first.0 ∷ others.0, others.1)))

-- the bytes spell these values, one after the other
abbrev pub SpellsAll : {A : Type 0} → (List ℕ → A → Type 0) → List ℕ → List A → Type 0
SpellsAll spells bytes [] = bytes ≡ []
SpellsAll spells bytes (a ∷ rest) = (x y : List ℕ) × (bytes ≡ x ++ y) × spells x a × SpellsAll spells y rest

-- 5.1.1 n values of the production, one after the other
abbrev pub times : {A : Type 0} → ℕ → Production A → Production (List A)
times n p = record { spells = λ bytes values. (length values ≡ n) × SpellsAll p.spells bytes values; read = times_at p.read n }

-- what is read of all of the bytes s
abbrev pub whole_at : {A : Type 0} → (List ℕ → Option (A × List ℕ)) → List ℕ → Option A
whole_at read s = reading.◌>>=◌ (read s) (λ found. if length found.1 == 0 then Some found.0 else None)

-- 5.1.2 no byte, and what all of the bytes s spell. Ours: what must see the end of its bytes reads a slice apart
abbrev pub inside : {A : Type 0} → List ℕ → Production A → Production A
inside s p = record { spells = λ bytes a. (bytes ≡ []) × p.spells s a; read = λ bytes. reading.◌>>=◌ (whole_at p.read s) (λ a. Some (a, bytes)) }

-- no byte, and what a front of the bytes s spells; the rest of s is ignored
abbrev pub begins : {A : Type 0} → List ℕ → Production A → Production A
begins s p = record {
  spells = λ bytes a. (x y : List ℕ) × (bytes ≡ []) × (s ≡ x ++ y) × p.spells x a;
  read = λ bytes. reading.◌>>=◌ (p.read s) (λ x. Some (x.0, bytes));
}
