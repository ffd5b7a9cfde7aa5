-- One list of operand types for all frames.
use Rattle.std.specs.Prelude.{◌≡◌, ◌<◌, ◌≤◌, ◌+◌, ◌-◌, ℕ, Bool, List, ◌∷◌, ◌++◌, map, length, take, drop, reverse, Option, Some, None}
use Rattle.wsyntax.specs.declared.ValType.{ValType}
use Rattle.wsyntax.specs.Types.{FuncType}
use Rattle.wsyntax.specs.declared.ValType.TheVariants as types
use Rattle.wcheck.specs.declared.entry.StackEntry.{StackEntry}
use Rattle.wcheck.specs.declared.entry.StackEntry.TheVariants.{I32, I64, F32, F64, Unknown, Run}
use Rattle.wsyntax.specs.Validation.Algorithm.{Operands}

-- what stands below the height of the innermost frame, the lowest first, that frame's operands, and the function types
-- that lists are of
pub record Stacked : Type 0 where
  pub below : List (Option ValType)
  pub above : Operands
  pub types : List FuncType

-- the operands of a frame that begins at this height of all operands, the lowest first
abbrev pub above_of : List (Option ValType) → ℕ → Bool → Operands
above_of items base d = record { known = reverse (drop base items); is_dead = d }

abbrev pub stacked : List (Option ValType) → List FuncType → ℕ → Bool → Stacked
stacked items types base d = record { below = take base items; above = above_of items base d; types = types }

-- a frame's operands with x on top, and without the topmost n
abbrev pub topped : Option ValType → Operands → Operands
topped x o = record { known = x ∷ o.known; is_dead = o.is_dead }

abbrev pub without : ℕ → Operands → Operands
without n o = record { known = drop n o.known; is_dead = o.is_dead }

-- the topmost k of them are gone, at least one and at most `by`
abbrev pub IsShortened : ℕ → Operands → Operands → Type 0
IsShortened by old new = (k : ℕ) × (0 < k) × (k ≤ by) × (new ≡ without k old)

-- how many operands stand above a height
abbrev pub over : ℕ → Stacked → ℕ
over height s = length s.below + length s.above.known - height

-- the operands of all frames, the lowest first
abbrev pub all_of : Stacked → List (Option ValType)
all_of s = s.below ++ reverse s.above.known

-- the topmost of them are of these types
abbrev pub EndsIn : List ValType → Stacked → Type 0
EndsIn ts s = (rest : List (Option ValType)) × (all_of s ≡ rest ++ map Some ts)

-- the type of an entry, None where it is not known, and where it is a run
abbrev pub type_of : StackEntry → Option ValType
type_of I32 = Some types.I32
type_of I64 = Some types.I64
type_of F32 = Some types.F32
type_of F64 = Some types.F64
type_of Unknown = None
type_of Run = None
