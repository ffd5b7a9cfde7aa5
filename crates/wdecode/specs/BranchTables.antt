-- 2.4.5 The labels of the branch tables of an expression, in one list: of each table its labels, and its default after them.
-- They stand in the order of the tokens, nothing between them and nothing after.
use Rattle.std.specs.Prelude.{ℕ, List, [], ◌∷◌, ◌++◌}
use Rattle.wsyntax.specs.Instructions.{Token, Do, BrTable}

-- the labels of a branch table and its default after them; other tokens have none
abbrev pub table_targets : Token → List ℕ
table_targets (Do (BrTable labels otherwise)) = labels ++ otherwise ∷ []
table_targets _ = []

-- those of all tokens, in the order of the tokens
abbrev pub targets_of : List Token → List ℕ
targets_of [] = []
targets_of (t ∷ ts) = table_targets t ++ targets_of ts
