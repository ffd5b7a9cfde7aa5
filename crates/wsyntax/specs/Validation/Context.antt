-- 3.1.1 Contexts.
use Rattle.std.specs.Prelude.{Bool, List, [], ◌∷◌, Option, Some, slice_get, reverse}
use Rattle.wsyntax.specs.Types.{ValType, FuncType, GlobalType}
use Rattle.wsyntax.specs.Instructions.{BlockType, Empty, Value, Index}

-- 2.3.2 the types of the operands on a stack. Ours: the topmost first
abbrev pub Stack : Type 0
Stack = List ValType

-- 2.3.3 what a function or a block takes from the stack
abbrev pub enter : FuncType → Stack
enter t = reverse t.params

-- 2.3.3 what a function or a block leaves there
abbrev pub leave : FuncType → Stack
leave t = reverse t.results

-- 3.1.1 what the rules look up. Ours: of tables and memories only whether there is one
pub record Context : Type 0 where
  pub types : List FuncType
  -- the type of each function
  pub functions : List FuncType
  -- whether there is a table, a memory; there is at most one of each
  pub has_table : Bool
  pub has_memory : Bool
  pub globals : List GlobalType
  pub locals : List ValType
  -- what a branch to each label takes, the innermost first
  pub labels : List Stack
  -- what a return takes; None outside every function
  pub return : Option Stack

-- 3.1.1 `C, labels r`: the context with one label more
abbrev pub under : Stack → Context → Context
under r C = record C { labels = r ∷ C.labels }

-- 3.4.1 the context inside a function: its locals, no label yet, its return type
abbrev pub frame_context : List ValType → Stack → Context → Context
frame_context locals r C = record C { locals = locals; labels = []; return = Some r }

-- 3.4.1 the context of a function's body, whose locals are those of C: one label and the return type, both r
abbrev pub body_context : Stack → Context → Context
body_context r C = under r (frame_context C.locals r C)

-- 2.4.5 the function type that a block type stands for. Ours: an index is of Core 2.0
abbrev pub block_sig : List FuncType → BlockType → Option FuncType
block_sig types Empty = Some record { params = []; results = [] }
block_sig types (Value t) = Some record { params = []; results = t ∷ [] }
block_sig types (Index y) = slice_get types y
