-- 4.5.4 What the module rules and the refusals leave of a module that is made an instance.
use Rattle.std.specs.Prelude.{◌≡◌, ℕ, ◌*◌, ◌≤◌, true}
use Rattle.std.specs.Option.{ForSome}
use Rattle.wsyntax.specs.Modules.{ModuleShape}
use Rattle.wsyntax.specs.Execution.Store.{page, may_have}
use Rattle.wsyntax.specs.Execution.Allocation.{AllWithin}
use Rattle.wsyntax.specs.Execution.Start.{layout_of}
use Rattle.wsyntax.specs.Texts.Answer.{pages_limit}
use Rattle.memory.specs.Buffered.{zeros}
use Rattle.accepted_module.specs.Sizes.{table_size, memory_pages}

-- every segment ends within its table or memory, which may have its minimum
pub record IsLaidOut (pages : ℕ) (m : ModuleShape) : Type 0 where
  pub elements : AllWithin (table_size m) (layout_of m).elements
  pub segments : AllWithin (memory_pages m * page) (layout_of m).data'
  pub may_have_min : ForSome (layout_of m).memory (λ l. may_have (zeros l.min l.max pages) l.min ≡ true)
  pub minimum : memory_pages m ≤ pages
  pub limit : pages ≤ pages_limit
