-- The codes of what is answered.
use Rattle.std.specs.Prelude.{ℕ}
use Rattle.batch.specs.declared.status.Status.{Status}
use Rattle.batch.specs.declared.status.Status.TheVariants.{Good, ModuleRefused, CallsRefused}

-- of an answer
abbrev pub code_of : Status → ℕ
code_of Good = 0
code_of ModuleRefused = 2
code_of CallsRefused = 3
