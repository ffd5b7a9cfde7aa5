-- Reading agrees with spelling, for block types: a number that is not negative does not begin as a value type does.
use Rattle.std.proofs.Common.{◌≡◌, ℕ, ◌+◌, ◌*◌, ◌%◌, ◌<◌, ◌≤◌, Bool, true, false, cond, eqb, ltb, List, [], ◌∷◌, ◌++◌, Some, None, ◌⊎◌, inl, inr, refl, ap, ◌∙◌, append_assoc, arith}
use Rattle.std.specs.Prelude.{ℤ, pos, negsuc, ◌-ℤ◌, ◌<ℤ◌}
use Rattle.std.proofs.lemmas.Bool.{eqb-true, ltb-true}
use Rattle.std.proofs.lemmas.Int.{ints}
use Rattle.wnum.specs.Number.{SpellsSigned}
use Rattle.wnum.specs.Reading.{signed_at}
use Rattle.wnum.proofs.Numbers.{signed_reads}
use Rattle.wsyntax.specs.declared.instructions.BlockType.{BlockType}
use Rattle.wsyntax.specs.Binary.Production.{Production, Agrees, byte, given, ◌>>=◌}
use Rattle.wsyntax.specs.Binary.Values.{s33}
use Rattle.wsyntax.specs.Binary.Types.{block_type, block_type_of, index_of}
use Rattle.wdecode.proofs.Agree.{byte_agrees, given_agrees, bind_agrees, either_agrees, s33_agrees}

-- a block type of one byte, and one that is the index of a type
abbrev pub short : Production BlockType
short = byte >>= λ b. given (block_type_of b)

abbrev pub indexed : Production BlockType
indexed = s33 >>= λ z. given (index_of z)

-- no block type is that byte
abbrev pub IsOther : ℕ → Type 0
IsOther b = (b < 64) ⊎ (128 ≤ b)

is_not : (b k : ℕ) (t : Bool) → IsOther b → 64 ≤ k → k < 128 → eqb b k ≡ t → t ≡ false
is_not b k true (inl h) low high e = let is = eqb-true b k e in absurd (omega arith)
is_not b k true (inr h) low high e = let is = eqb-true b k e in absurd (omega arith)
is_not b k false h low high e = refl

other_none : (b : ℕ) → IsOther b → block_type_of b ≡ None
other_none b h =
    let no : (k : ℕ) → 64 ≤ k → k < 128 → eqb b k ≡ false = λ k low high. is_not b k (eqb b k) h low high refl in
    rw (no 0x40 (omega arith) (omega arith), no 0x7F (omega arith) (omega arith), no 0x7E (omega arith) (omega arith), no 0x7D (omega arith) (omega arith), no 0x7C (omega arith) (omega arith)) refl

-- bit 6 of a last byte is the sign
without_sign : (b y : ℕ) (t : Bool) → ltb b 64 ≡ t → pos (b % 128 + 128 * 0) -ℤ pos (cond t 0 128) ≡ pos y → b < 64
without_sign b y true e h = ltb-true b 64 e
without_sign b y false e h = absurd (omega (arith, ints))

short_none : (front rest : List ℕ) (y : ℕ) → SpellsSigned 33 front (pos y) → short.read (front ++ rest) ≡ None
short_none [] rest y s = absurd s.number
short_none (b ∷ []) rest y s = rw (other_none b (inl (without_sign b y (ltb b 64) refl s.value))) refl
short_none (b ∷ c ∷ bs) rest y s = rw (other_none b (inr s.number.0)) refl

apart_at : (front rest : List ℕ) (z : ℤ) (a : BlockType) → SpellsSigned 33 front z → index_of z ≡ Some a → short.read (front ++ rest) ≡ None
apart_at front rest (pos y) a s e = short_none front rest y s
apart_at front rest (negsuc y) a s e = absurd cc

apart : (front : List ℕ) (a : BlockType) (rest : List ℕ) → indexed.spells front a → short.read (front ++ rest) ≡ None
apart front a rest s =
    let is : front ++ rest ≡ s.0 ++ (s.1 ++ rest) = ap (λ (r : List ℕ). r ++ rest) s.3 ∙ append_assoc s.0 s.1 rest in
    ap short.read is ∙ apart_at s.0 (s.1 ++ rest) s.2 a s.4 s.5.1

pub block_type_agrees : Agrees block_type
unfolding block_type
block_type_agrees = either_agrees short indexed (bind_agrees byte _ byte_agrees λ b. given_agrees _) (bind_agrees s33 _ s33_agrees λ z. given_agrees _) apart

-- an index is a number u32
pub index_small : (bytes rest : List ℕ) (z : ℤ) → signed_at 33 bytes ≡ Some (z, rest) → z <ℤ pos 4294967296
index_small bytes rest z e = ((signed_reads 33).sound bytes z rest e).1.fits.1
