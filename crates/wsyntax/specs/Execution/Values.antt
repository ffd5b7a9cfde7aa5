-- 4.2.1 Values and 4.2.2 Results.
use Rattle.std.specs.Prelude.{ℕ, ◌%◌, ◌^◌, ◌<◌, List, [], ◌∷◌, map, Bool, true, false, Option, Some, None}
use Rattle.wsyntax.specs.Types.{ValType, I32, I64, F32, F64}
use Rattle.wsyntax.specs.Instructions.{Width, Width32, Width64}
pub use Rattle.wsyntax.specs.declared.value.Value.{Value}
-- 4.2.1 a word of 32 or of 64 bits; a value of a float type is never met
pub use Rattle.wsyntax.specs.declared.value.Value.TheVariants.{I32 as V32, I64 as V64}
-- 4.2.2 a trap, with its name
pub use Rattle.wsyntax.specs.declared.value.Trap.{Trap as TrapKind}
pub use Rattle.wsyntax.specs.declared.value.Trap.TheVariants.{Unreachable as ByUnreachable, OutOfBounds, UndefinedElement, UninitializedElement, TypeMismatch, ByOperator}

-- 4.2.1 the type of a value
abbrev pub type_of : Value → ValType
type_of (V32 n) = I32
type_of (V64 n) = I64

-- 4.2.1 the types of values
abbrev pub types : List Value → List ValType
types vs = map type_of vs

-- 4.2.1 the number in a value is a word of its type
abbrev pub IsWord : Value → Type 0
IsWord (V32 n) = n < 2 ^ 32
IsWord (V64 n) = n < 2 ^ 64

-- each is a word
abbrev pub AreWords : List Value → Type 0
AreWords [] = Unit {0}
AreWords (v ∷ vs) = IsWord v × AreWords vs

-- 4.2.1 the number in a value, if it is of this type
abbrev pub number : ValType → Value → Option ℕ
number I32 (V32 n) = Some n
number I64 (V64 n) = Some n
number _ _ = None

-- 4.3.1 the value that stands for a number modulo 2^N. Ours: results of operators are taken modulo 2^N once more; the law ResultsAreExact says that this changes none
abbrev pub word : Width → ℕ → Value
word Width32 n = V32 (n % 2 ^ 32)
word Width64 n = V64 (n % 2 ^ 64)

-- 4.3.1 the value of a type in these bits
abbrev pub value_in : ValType → ℕ → Option Value
value_in I32 n = Some (word Width32 n)
value_in I64 n = Some (word Width64 n)
value_in F32 n = None
value_in F64 n = None

-- 4.3.2 a truth value as a word
abbrev pub truth : Bool → Value
truth true = V32 1
truth false = V32 0

-- 4.2.1 what a declared local begins with; a function with float locals is never entered
abbrev pub zero_of : ValType → Value
zero_of I32 = V32 0
zero_of I64 = V64 0
zero_of F32 = V32 0
zero_of F64 = V64 0

-- 4.4.7 the values of declared locals
abbrev pub zeros : List ValType → List Value
zeros ts = map zero_of ts
