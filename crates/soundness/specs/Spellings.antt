-- Which bytes spell a number (5.2.2) and a name (5.2.4), at the edges.
use Rattle.std.specs.Prelude.{◌≡◌, ℕ, pos, neg_ℤ, List, [], ◌∷◌, Some, None}
use Rattle.wsyntax.specs.declared.types.ValType.TheVariants.{I32}
use Rattle.wsyntax.specs.declared.instructions.BlockType.TheVariants.{Value, Index}
use Rattle.wsyntax.specs.Binary.Production.{Production}
use Rattle.wsyntax.specs.Binary.Values.{u32, s32, s33, s64, name}
use Rattle.wsyntax.specs.Binary.Types.{block_type}

-- the bytes spell no value
abbrev pub SpellNone : {A : Type 0} → Production A → List ℕ → Type 0
SpellNone {A} p bytes = (a : A) → p.spells bytes a → ⊥

-- without a sign
pub record UnsignedSpellings : Type 0 where
  -- 0
  pub zero_in_one : u32.spells (0x00 ∷ []) 0
  -- 0 in more bytes than are needed
  pub zero_in_two : u32.spells (0x80 ∷ 0x00 ∷ []) 0
  -- 0 in as many bytes as there may be
  pub zero_in_five : u32.spells (0x80 ∷ 0x80 ∷ 0x80 ∷ 0x80 ∷ 0x00 ∷ []) 0
  -- 0 in one byte too many
  pub not_in_six : SpellNone u32 (0x80 ∷ 0x80 ∷ 0x80 ∷ 0x80 ∷ 0x80 ∷ 0x00 ∷ [])
  -- 0x65 + 128 * (0x0E + 128 * 0x26): the lowest group stands first
  pub two_groups : u32.spells (0xE5 ∷ 0x8E ∷ 0x26 ∷ []) 624485
  -- 2^32 - 1
  pub greatest : u32.spells (0xFF ∷ 0xFF ∷ 0xFF ∷ 0xFF ∷ 0x0F ∷ []) 4294967295
  -- 2^32
  pub past_the_greatest : SpellNone u32 (0x80 ∷ 0x80 ∷ 0x80 ∷ 0x80 ∷ 0x10 ∷ [])
  -- the last byte is to be below 128
  pub not_ended : SpellNone u32 (0x80 ∷ [])
  -- and no other byte is
  pub ended_before : SpellNone u32 (0x00 ∷ 0x00 ∷ [])
  -- no byte spells no number
  pub no_byte : SpellNone u32 []

-- with a sign, which is bit 6 of the last byte
pub record SignedSpellings : Type 0 where
  -- -1
  pub minus_one : s32.spells (0x7F ∷ []) (neg_ℤ (pos 1))
  -- -1 in as many bytes as there may be
  pub minus_one_in_five : s32.spells (0xFF ∷ 0xFF ∷ 0xFF ∷ 0xFF ∷ 0x7F ∷ []) (neg_ℤ (pos 1))
  -- the greatest number of one byte
  pub sixty_three : s32.spells (0x3F ∷ []) (pos 63)
  -- the least number of one byte
  pub minus_sixty_four : s32.spells (0x40 ∷ []) (neg_ℤ (pos 64))
  -- one more than the greatest of one byte needs a second
  pub sixty_four : s32.spells (0xC0 ∷ 0x00 ∷ []) (pos 64)
  -- 2^31 - 1
  pub greatest : s32.spells (0xFF ∷ 0xFF ∷ 0xFF ∷ 0xFF ∷ 0x07 ∷ []) (pos 2147483647)
  -- -2^31
  pub least : s32.spells (0x80 ∷ 0x80 ∷ 0x80 ∷ 0x80 ∷ 0x78 ∷ []) (neg_ℤ (pos 2147483648))
  -- 2^32 - 1, which is a u32 (above) and no s32
  pub not_with_sign : SpellNone s32 (0xFF ∷ 0xFF ∷ 0xFF ∷ 0xFF ∷ 0x0F ∷ [])
  -- -2^31 - 1
  pub past_the_least : SpellNone s32 (0xFF ∷ 0xFF ∷ 0xFF ∷ 0xFF ∷ 0x77 ∷ [])
  -- 0 in one byte too many
  pub not_in_six : SpellNone s32 (0x80 ∷ 0x80 ∷ 0x80 ∷ 0x80 ∷ 0x80 ∷ 0x00 ∷ [])
  -- the same bytes as s33, which has a bit more
  pub of_33_bits : s33.spells (0xFF ∷ 0xFF ∷ 0xFF ∷ 0xFF ∷ 0x0F ∷ []) (pos 4294967295)
  -- -2^32 as s33
  pub least_of_33_bits : s33.spells (0x80 ∷ 0x80 ∷ 0x80 ∷ 0x80 ∷ 0x70 ∷ []) (neg_ℤ (pos 4294967296))
  -- -2^63 as s64, in ten bytes
  pub least_of_64_bits : s64.spells (0x80 ∷ 0x80 ∷ 0x80 ∷ 0x80 ∷ 0x80 ∷ 0x80 ∷ 0x80 ∷ 0x80 ∷ 0x80 ∷ 0x7F ∷ []) (neg_ℤ (pos 9223372036854775808))

-- a block type that is a number is the index of a type, and so not negative
pub record BlockTypeReadings : Type 0 where
  -- the index of a type
  pub index : block_type.read (0x05 ∷ []) ≡ Some (Index 5, [])
  -- the same in more bytes than are needed
  pub longer_index : block_type.read (0x85 ∷ 0x00 ∷ []) ≡ Some (Index 5, [])
  -- 0x7F alone is a value type
  pub value_type : block_type.read (0x7F ∷ []) ≡ Some (Value I32, [])
  -- -1 in two bytes, which is no value type
  pub minus_one : block_type.read (0xFF ∷ 0x7F ∷ []) ≡ None
  -- -2^32
  pub least : block_type.read (0x80 ∷ 0x80 ∷ 0x80 ∷ 0x80 ∷ 0x70 ∷ []) ≡ None

-- a name is UTF-8
pub record NameSpellings : Type 0 where
  -- the empty name
  pub no_bytes : name.spells (0x00 ∷ []) []
  -- e with an acute accent
  pub two_bytes : name.spells (0x02 ∷ 0xC3 ∷ 0xA9 ∷ []) (0xC3 ∷ 0xA9 ∷ [])
  -- the character 0 in two bytes
  pub overlong : SpellNone name (0x02 ∷ 0xC0 ∷ 0x80 ∷ [])
  -- a surrogate, D800
  pub surrogate : SpellNone name (0x03 ∷ 0xED ∷ 0xA0 ∷ 0x80 ∷ [])
  -- the character 110000
  pub past_the_last : SpellNone name (0x04 ∷ 0xF4 ∷ 0x90 ∷ 0x80 ∷ 0x80 ∷ [])
  -- a byte that only continues a character
  pub continuation_alone : SpellNone name (0x01 ∷ 0x80 ∷ [])
  -- the count is that of the bytes
  pub short : SpellNone name (0x02 ∷ 0x61 ∷ [])
