-- A typed module and a typed call of it: the premises of the laws can be met.
use Rattle.std.specs.Prelude.{[], ◌∷◌, true, false, Some, None}
use Rattle.wsyntax.specs.declared.value.Value.TheVariants.{I32 as V32}
use Rattle.wsyntax.specs.Execution.Store.{Module, Store}
use Rattle.wsyntax.specs.Validation.Context.{Context}
use Rattle.wsyntax.specs.Execution.Laws.{CallTyped}
use Rattle.soundness.specs.Samples.{one, counts, calls}

-- a function that counts, and one that calls it
abbrev pub pair : Module
pair = record { types = one ∷ []; functions = counts ∷ calls ∷ [] }

-- its context
abbrev pub pair_context : Context
pair_context = record { types = one ∷ []; functions = one ∷ one ∷ []; has_table = false; has_memory = true; globals = []; locals = []; labels = []; return = None }

-- a store with a memory of no page
abbrev pub no_page : Store
no_page = record { memory = Some (record { bytes = []; most = None; pages = 1 }); table = None; globals = [] }

-- there is a typed module and a typed call of it
abbrev pub PairTyped : Type 0
PairTyped = CallTyped pair_context pair no_page 1 (V32 2 ∷ []) one
