-- 5.2.2 Integers: which bytes spell a number of N bits, in LEB128. Bytes are below 256.
use Rattle.std.specs.Prelude.{◌≡◌, ℕ, ◌+◌, ◌*◌, ◌/◌, ◌%◌, ◌^◌, ◌-◌, ◌<◌, ◌≤◌, List, [], ◌∷◌, length, nat_lt, if◌then◌else◌}
use Rattle.std.specs.Prelude.{ℤ, pos, ◌-ℤ◌, neg_ℤ, ◌≤ℤ◌, ◌<ℤ◌}

-- 5.2.2 uN, sN: a number ends with its first byte below 128, so each byte but the last has its top bit set
abbrev pub IsNumber : List ℕ → Type 0
IsNumber [] = ⊥
IsNumber (b ∷ []) = b < 128
IsNumber (b ∷ c ∷ bs) = (128 ≤ b) × IsNumber (c ∷ bs)

-- 5.2.2 uN: the sum of the groups of seven bits, the lowest group first
abbrev pub groups : List ℕ → ℕ
groups [] = 0
groups (b ∷ bs) = b % 128 + 128 * groups bs

-- 5.2.2 sN: what the sum of k groups is lessened by, 2^(7k) where bit 6 of the last byte is set and else 0
abbrev pub sign : List ℕ → ℕ
sign [] = 0
sign (b ∷ []) = if nat_lt b 64 then 0 else 128
sign (b ∷ c ∷ bs) = 128 * sign (c ∷ bs)

-- 5.2.2 sN: the value of the groups where the last byte has the sign
abbrev pub signed_groups : List ℕ → ℤ
signed_groups bytes = pos (groups bytes) -ℤ pos (sign bytes)

-- the sum of five groups
abbrev pub five : ℕ → ℕ → ℕ → ℕ → ℕ → ℕ
five a b c d e = a % 128 + 128 * (b % 128 + 128 * (c % 128 + 128 * (d % 128 + 128 * (e % 128))))

-- 5.2.2: a number of N bits has at most ceil(N / 7) bytes
abbrev pub most : ℕ → ℕ
most N = (N + 6) / 7

-- 5.2.2 the bytes spell v, a number of N bits that stands for its groups and lies in a range; a longer spelling than is needed counts. Ours: one shape for uN and sN
pub record SpellsNumber {A : Type 0} (N : ℕ) (stands_for : List ℕ → A) (InRange : A → Type 0) (bytes : List ℕ) (v : A) : Type 0 where
  pub number : IsNumber bytes
  pub short : length bytes ≤ most N
  pub value : stands_for bytes ≡ v
  pub fits : InRange v

-- 2.2.2 uN: 0 to 2^N - 1
abbrev pub FitsUnsignedBits : ℕ → ℕ → Type 0
FitsUnsignedBits N v = v < 2 ^ N

-- 2.2.2 sN: -2^(N-1) to 2^(N-1) - 1
abbrev pub FitsSignedBits : ℕ → ℤ → Type 0
FitsSignedBits N v = (neg_ℤ (pos (2 ^ (N - 1))) ≤ℤ v) × (v <ℤ pos (2 ^ (N - 1)))

-- 5.2.2 the bytes spell v as uN
abbrev pub SpellsUnsigned : ℕ → List ℕ → ℕ → Type 0
SpellsUnsigned N = SpellsNumber N groups (FitsUnsignedBits N)

-- 5.2.2 the bytes spell v as sN
abbrev pub SpellsSigned : ℕ → List ℕ → ℤ → Type 0
SpellsSigned N = SpellsNumber N signed_groups (FitsSignedBits N)
