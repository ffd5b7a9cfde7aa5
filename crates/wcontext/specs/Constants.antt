-- 3.3.7.2 The types of constant expressions, computed.
use Rattle.std.specs.Prelude.{List, Option, Some, None, if◌then◌else◌, option_and_then, slice_get}
use Rattle.wsyntax.specs.Modules.{constant_instruction}
use Rattle.wsyntax.specs.declared.module.ConstExpr.{ConstExpr}
use Rattle.wsyntax.specs.declared.ValType.TheVariants.{I32, I64, F32, F64}
use Rattle.wsyntax.specs.declared.GlobalType.{GlobalType}
use Rattle.wsyntax.specs.declared.ValType.{ValType}
use Rattle.wsyntax.specs.declared.Token.{Token}
use Rattle.wsyntax.specs.declared.Token.TheVariants as token

-- what a global.get of that global leaves, if it is immutable
abbrev pub immutable_type : GlobalType → Option ValType
immutable_type g = if g.mutable then None else Some g.val_type

-- what an instruction of a constant expression leaves, under these imported globals
abbrev pub constant_type : List GlobalType → Token → Option ValType
constant_type globals (token.I32Const n) = Some I32
constant_type globals (token.I64Const n) = Some I64
constant_type globals (token.F32Const bytes) = Some F32
constant_type globals (token.F64Const bytes) = Some F64
constant_type globals (token.GlobalGet x) = option_and_then immutable_type (slice_get globals x)
constant_type globals _ = None

-- the type of a constant expression
abbrev pub constant_of : List GlobalType → ConstExpr → Option ValType
constant_of globals e = option_and_then (constant_type globals) (constant_instruction e)
