-- 3.3.1 What the row of an operator says: the types that it takes and leaves, as lists.
use Rattle.std.specs.Prelude.{List, [], ◌∷◌}
use Rattle.wsyntax.specs.Types.{ValType}
use Rattle.wsyntax.specs.declared.operator_rows.Arity.{Arity}
use Rattle.wsyntax.specs.declared.operator_rows.Arity.TheVariants.{One, Two}
use Rattle.wsyntax.specs.declared.operator_rows.OperatorRow.{OperatorRow}

-- that many operands of a type
abbrev pub so_many : Arity → ValType → List ValType
so_many One t = t ∷ []
so_many Two t = t ∷ t ∷ []

-- 3.3.1 the operand types that an operator's row says, as they are written
abbrev pub operands_in : OperatorRow → List ValType
operands_in r = so_many r.arity r.operand

-- 3.3.1 the result types that it says
abbrev pub results_in : OperatorRow → List ValType
results_in r = r.result ∷ []
