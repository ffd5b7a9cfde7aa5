-- 2.5.7 An element segment as it is held.
use Rattle.std.specs.Prelude.{ℕ, List}
use Rattle.wsyntax.specs.declared.module.ConstExpr.{ConstExpr}

-- 2.5.7 an element segment as it is held: its table, its offset's expression and its functions
pub record HeldElement : Type 0 where
  pub table : ℕ
  pub offset : ConstExpr
  pub functions : List ℕ
