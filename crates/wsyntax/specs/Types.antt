-- 2.3 Types.
use Rattle.std.specs.Prelude.{List, [], ◌∷◌, Bool, true, false, ◌&&◌}
pub use Rattle.wsyntax.specs.declared.types.ValType.{ValType}
pub use Rattle.wsyntax.specs.declared.types.ValType.TheVariants.{I32, I64, F32, F64}
pub use Rattle.wsyntax.specs.declared.types.Limits.{Limits}
pub use Rattle.wsyntax.specs.declared.types.GlobalType.{GlobalType}

-- 2.3.3 a function type, as it is written: the last parameter and the last result are the topmost of the stack. Ours: any number of results, as in Core 2.0
pub record FuncType : Type 0 where
  pub params : List ValType
  pub results : List ValType

-- Whether two types are the same.

-- 2.3.1 whether two value types are the same
abbrev pub same_type : ValType → ValType → Bool
same_type I32 I32 = true
same_type I64 I64 = true
same_type F32 F32 = true
same_type F64 F64 = true
same_type _ _ = false

-- 2.3.2 whether two lists of value types are the same
abbrev pub same_types : List ValType → List ValType → Bool
same_types [] [] = true
same_types (t ∷ ts) (u ∷ us) = same_type t u && same_types ts us
same_types _ _ = false

-- 2.3.3 whether two function types say the same
abbrev pub same_func_type : FuncType → FuncType → Bool
same_func_type s t = same_types s.params t.params && same_types s.results t.results
