-- Texts of calls: their lines (`lines_of`), and the calls that they say (`IsCalls`).
use Rattle.std.specs.Prelude.{◌≡◌, ℕ, List, [], ◌∷◌, codes}
use Rattle.wsyntax.specs.declared.value.Value.{Value}
use Rattle.wsyntax.specs.declared.value.Value.TheVariants.{I32 as V32, I64 as V64}
use Rattle.wsyntax.specs.Texts.Calls.{Call, Ended, Unended, lines_of, BadLine, Good, IsCalls}

-- what ends a line is not in it; bytes after the last newline are a line that has no end
pub record LineExamples : Type 0 where
  -- the empty text has no line
  pub no_line : lines_of [] ≡ []
  -- a line without its newline
  pub one_line : lines_of (codes "add\n") ≡ Ended (codes "add") ∷ []
  -- an empty line is a line
  pub empty_line : lines_of (codes "\n") ≡ Ended [] ∷ []
  -- a tab stays in its line
  pub several_lines : lines_of (codes "f\tg\n\nh\n") ≡ Ended (codes "f\tg") ∷ Ended [] ∷ Ended (codes "h") ∷ []
  -- bytes after the last newline are a line that has no end
  pub no_newline : lines_of (codes "add\nadd") ≡ Ended (codes "add") ∷ Unended (codes "add") ∷ []

-- a call of this name
abbrev pub calling : List ℕ → List Value → Call
calling name args = record { name = name; args = args }

-- texts that say calls
pub record GoodTexts : Type 0 where
  -- the empty text has no calls
  pub no_calls : IsCalls [] (Good [])
  -- 1 and -2
  pub two_arguments : IsCalls (codes "add\ti32:1\ti64:-2\n") (Good (calling (codes "add") (V32 1 ∷ V64 18446744073709551614 ∷ []) ∷ []))
  -- the least and the greatest number of 32 bits
  pub least_and_greatest : IsCalls (codes "f\ti32:-2147483648\ti32:2147483647\n") (Good (calling (codes "f") (V32 2147483648 ∷ V32 2147483647 ∷ []) ∷ []))
  -- the name of no bytes, without and with an argument
  pub no_name : IsCalls (codes "\n\ti32:0\n") (Good (calling [] [] ∷ calling [] (V32 0 ∷ []) ∷ []))
  -- only a tab ends a name
  pub space_in_name : IsCalls (codes "f i32:1\n") (Good (calling (codes "f i32:1") [] ∷ []))

-- texts with a bad line
pub record BadTexts : Type 0 where
  -- zero has no sign
  pub negative_zero : IsCalls (codes "f\ti32:-0\n") (BadLine 1)
  -- no zero stands in front
  pub needless_zero : IsCalls (codes "f\ti32:01\n") (BadLine 1)
  -- one past the greatest number of 32 bits
  pub one_too_many : IsCalls (codes "f\ti32:2147483648\n") (BadLine 1)
  -- of bad lines the first is told; here lines 2 and 3 are bad
  pub least_of_two : IsCalls (codes "f\ni32\ti32:-0\nadd") (BadLine 2)
  -- what has no end is no call
  pub no_newline : IsCalls (codes "add\nadd") (BadLine 2)
