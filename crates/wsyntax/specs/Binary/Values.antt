-- 5.1.3 and 5.2 Vectors, integers and names.
use Rattle.std.specs.Prelude.{◌≡◌, ℕ, ℤ, List, [], Option, Some, None, if◌then◌else◌}
use Rattle.std.specs.Str.{IsUtf8, is_utf8}
use Rattle.wnum.specs.Number.{SpellsUnsigned, SpellsSigned}
use Rattle.wnum.specs.Reading.{unsigned_at, signed_at}
use Rattle.wnum.specs.Reading as reading
use Rattle.wsyntax.specs.Binary.Production.{Production, ◌>>=◌, raw, times, times_at}

-- 5.2.2 a number u32
abbrev pub u32 : Production ℕ
u32 = record { spells = SpellsUnsigned 32; read = unsigned_at 32 }

-- 5.2.2 a number s32
abbrev pub s32 : Production ℤ
s32 = record { spells = SpellsSigned 32; read = signed_at 32 }

-- 5.2.2 a number s64
abbrev pub s64 : Production ℤ
s64 = record { spells = SpellsSigned 64; read = signed_at 64 }

-- 5.2.2 a number s33
abbrev pub s33 : Production ℤ
s33 = record { spells = SpellsSigned 33; read = signed_at 33 }

-- 5.1.3 a vector: a count, and then that many
abbrev pub vector_at : {A : Type 0} → (List ℕ → Option (A × List ℕ)) → List ℕ → Option (List A × List ℕ)
vector_at read bytes = reading.◌>>=◌ (unsigned_at 32 bytes) (λ n. times_at read n.0 n.1)

-- 5.1.3 a vector: a count and as many values
abbrev pub vector : {A : Type 0} → Production A → Production (List A)
vector p = u32 >>= λ n. times n p

-- 5.1.3 a vector of bytes, and what has a size in front
abbrev pub blob : Production (List ℕ)
blob = u32 >>= raw

-- no byte, and the text s, where it is UTF-8
abbrev pub text : List ℕ → Production (List ℕ)
text s = record { spells = λ bytes a. (bytes ≡ []) × (s ≡ a) × IsUtf8 s; read = λ bytes. if is_utf8 s then Some (s, bytes) else None }

-- 5.2.4 a name: a vector of bytes that are UTF-8
unfoldable pub name : Production (List ℕ)
name = blob >>= text
