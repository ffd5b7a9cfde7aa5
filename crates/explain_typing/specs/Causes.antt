-- Why a token is ill typed: each cause alone refuses it (7.3).
use Rattle.std.specs.Prelude.{◌≡◌, ◌≢◌, ◌⊎◌, ◌<◌, ◌≤◌, ◌-◌, ◌^◌, ℕ, false, List, [], ◌∷◌, Option, Some, None, IsSomeAnd, length, reverse, slice_get}
use Rattle.wsyntax.specs.declared.ValType.{ValType}
use Rattle.wsyntax.specs.Types.{same_type}
use Rattle.wsyntax.specs.declared.instructions.BlockType.TheVariants.{Index}
use Rattle.wsyntax.specs.Instructions.{Access, Token, Do, OpenBlock, OpenLoop, OpenIf, Else, End, Br, BrIf, BrTable, Call, CallIndirect, Select, LocalGet, LocalSet, LocalTee, GlobalGet, GlobalSet, MemoryLoad, MemoryStore, MemorySize, MemoryGrow}
use Rattle.wsyntax.specs.Validation.Context.{Context}
use Rattle.wsyntax.specs.Validation.Algorithm.{Frame, may_lack_else, step}
use Rattle.wsyntax.specs.declared.module.LocalRun.{LocalRun}
use Rattle.wsyntax.specs.Binary.Nesting.{token_at}
use Rattle.wsyntax.specs.Binary.Sections.{locals}
use Rattle.wcheck.specs.Checking.{Checking, begun}
use Rattle.wcheck.specs.Inspected.{labels_of}
use Rattle.explanation.specs.declared.explanation.FunctionSignature.{FunctionSignature}
use Rattle.explanation.specs.declared.cause.Space.{Space}
use Rattle.explanation.specs.declared.cause.Space.TheVariants.{Types, Functions, Globals, Locals, Labels}
use Rattle.explanation.specs.declared.cause.Cause.{Cause}
use Rattle.explanation.specs.declared.cause.Cause.TheVariants as cause
use Rattle.explain_bytes.specs.Locations.{left_after}
use Rattle.explain_typing.specs.Typed.{PassesTo, pops}

-- ---- the operands

-- 7.3 at that position from the top the token takes an operand of that type; None is one of any type
abbrev pub TakesAt : Context → Token → List Frame → ℕ → Option ValType → Type 0
TakesAt C t fs position wanted = IsSomeAnd (pops C t fs) (λ ps. slice_get ps position ≡ Some wanted)

-- the operand at that position from the top of the first frame
abbrev pub operand_at : List Frame → ℕ → Option (Option ValType)
operand_at [] position = None
operand_at (f ∷ fs) position = slice_get f.operands.known position

-- the first frame has exactly `count` operands, and what follows in it is reached
abbrev pub HasJust : List Frame → ℕ → Type 0
HasJust [] count = ⊥
HasJust (f ∷ fs) count = (length f.operands.known ≡ count) × (f.operands.is_dead ≡ false)

-- how many operands the first frame has beside those that it gives
abbrev pub left_over : List Frame → ℕ
left_over [] = 0
left_over (f ∷ fs) = length f.operands.known - length f.gives

-- the first frame is an if of that type, which is not that of an empty else
abbrev pub LacksElse : FunctionSignature → List Frame → Type 0
LacksElse s [] = ⊥
LacksElse s (f ∷ fs) = (reverse s.params.items ≡ f.starts) × (reverse s.results.items ≡ f.gives) × (may_lack_else f ≡ false)

-- ---- what a token names

-- 2.4.5 a label of a branch table, or its default
abbrev pub IsTableLabel : Token → ℕ → Type 0
IsTableLabel t l = (ls : List ℕ) × (d : ℕ) × (k : ℕ) × (t ≡ Do (BrTable ls d)) × (slice_get (d ∷ ls) k ≡ Some l)

-- 2.5.1 the token names that index of that space
abbrev pub Names : Token → Space → ℕ → Type 0
Names t Types y = (t ≡ Do (CallIndirect y)) ⊎ ((t ≡ OpenBlock (Index y)) ⊎ ((t ≡ OpenLoop (Index y)) ⊎ (t ≡ OpenIf (Index y))))
Names t Functions x = t ≡ Do (Call x)
Names t Globals x = (t ≡ Do (GlobalGet x)) ⊎ (t ≡ Do (GlobalSet x))
Names t Locals x = (t ≡ Do (LocalGet x)) ⊎ ((t ≡ Do (LocalSet x)) ⊎ (t ≡ Do (LocalTee x)))
Names t Labels l = (t ≡ Do (Br l)) ⊎ ((t ≡ Do (BrIf l)) ⊎ IsTableLabel t l)

-- how many indices of a space there are
abbrev pub size_of : Space → Context → List Frame → ℕ
size_of Types C fs = length C.types
size_of Functions C fs = length C.functions
size_of Globals C fs = length C.globals
size_of Locals C fs = length C.locals
size_of Labels C fs = length (labels_of fs)

-- 2.4.4 the token loads or stores
abbrev pub IsAccess : Token → Access → Type 0
IsAccess t m = (t ≡ Do (MemoryLoad m)) ⊎ (t ≡ Do (MemoryStore m))

-- 2.4.4 the token loads or stores with that alignment, and as many bytes, both as exponents of 2
abbrev pub IsAlignedTo : Token → ℕ → ℕ → Type 0
IsAlignedTo t align width = (m : Access) × IsAccess t m × (m.align ≡ align) × (m.width ≡ 2 ^ width)

-- 2.4.4 the token uses the memory
abbrev pub UsesMemory : Token → Type 0
UsesMemory t = ((m : Access) × IsAccess t m) ⊎ ((t ≡ Do MemorySize) ⊎ (t ≡ Do MemoryGrow))

-- ---- the cause

-- why the token is refused in these frames
abbrev pub IsCause : Context → Token → List Frame → Cause → Type 0
IsCause C t fs (cause.Operand position wanted found) =
    TakesAt C t fs position (Some wanted) × (operand_at fs position ≡ Some (Some found)) × (same_type found wanted ≡ false)
IsCause C t fs (cause.Missing position wanted) = TakesAt C t fs position wanted × HasJust fs position
IsCause C t fs (cause.LeftOver count) = ((t ≡ Else) ⊎ (t ≡ End)) × (count ≡ left_over fs) × (0 < count)
IsCause C t fs (cause.NoElse signature) = (t ≡ End) × LacksElse signature fs
IsCause C t fs (cause.NoIndex space index count) = Names t space index × (count ≡ size_of space C fs) × (count ≤ index)
IsCause C t fs (cause.Immutable global) = (t ≡ Do (GlobalSet global)) × IsSomeAnd (slice_get C.globals global) (λ g. g.mutable ≡ false)
IsCause C t fs cause.NoMemory = UsesMemory t × (C.has_memory ≡ false)
IsCause C t fs cause.NoTable = ((y : ℕ) × (t ≡ Do (CallIndirect y))) × (C.has_table ≡ false)
IsCause C t fs (cause.Alignment align largest) = IsAlignedTo t align largest × (largest < align)
IsCause C t fs (cause.Labels label takes others) =
    (ls : List ℕ) × (d : ℕ) × (k : ℕ) × (t ≡ Do (BrTable ls d)) × (slice_get ls k ≡ Some label)
    × (slice_get (labels_of fs) label ≡ Some (reverse takes.items)) × (slice_get (labels_of fs) d ≡ Some (reverse others.items))
    × (takes.items ≢ others.items)
IsCause C t fs (cause.Select above below) =
    (t ≡ Do Select) × (operand_at fs 1 ≡ Some (Some above)) × (operand_at fs 2 ≡ Some (Some below)) × (same_type above below ≡ false)

-- why the token at that position of the body of function f is refused: the frames are those after the tokens before it, and the cause
-- alone refuses it
pub record IsCauseOf (C : Context) (f : ℕ) (body : List ℕ) (position : ℕ) (why : Cause) : Type 0 where
  pub runs : List LocalRun
  pub code : List ℕ
  pub declared : locals.read body ≡ Some (runs, code)
  pub now : Checking
  pub before : PassesTo (begun C f runs) code position now
  pub left : List ℕ
  pub rest : left_after position code ≡ Some left
  pub token : Token
  pub after : List ℕ
  pub next : ◌≡◌ {A = Option (Token × List ℕ)} (token_at left) (Some (token, after))
  pub so : IsCause now.inside token now.frames why
  pub refused : step now.inside token now.frames ≡ None

-- ---- in the code

-- the operands that are taken differ from those that are found, each the topmost first; these are fewer where they end
abbrev pub IsMisfit : List (Option ValType) → List (Option ValType) → Cause → Type 0
IsMisfit ps xs (cause.Operand position wanted found) =
    (slice_get ps position ≡ Some (Some wanted)) × (slice_get xs position ≡ Some (Some found)) × (same_type found wanted ≡ false)
IsMisfit ps xs (cause.Missing position wanted) = (slice_get ps position ≡ Some wanted) × (length xs ≡ position)
IsMisfit ps xs _ = ⊥
