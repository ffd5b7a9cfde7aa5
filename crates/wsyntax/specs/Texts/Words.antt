-- The words of which lines are made.
use Rattle.std.specs.Prelude.{ℕ, List, [], ◌∷◌, ◌++◌, codes}
use Rattle.std.specs.Fmt.{signed_decimal}
use Rattle.wnum.specs.Arithmetic.{signed}
use Rattle.wsyntax.specs.Execution.Values.{Value, V32, V64}

-- a line ends with a newline
abbrev pub newline : List ℕ
newline = 0x0A ∷ []

-- the tab
abbrev pub tab : List ℕ
tab = 0x09 ∷ []

-- a value: `i32:` or `i64:`, and its word read with its sign
abbrev pub value_text : Value → List ℕ
value_text (V32 n) = codes "i32:" ++ signed_decimal (signed 32 n)
value_text (V64 n) = codes "i64:" ++ signed_decimal (signed 64 n)
