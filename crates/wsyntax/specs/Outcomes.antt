-- 4.2.2, 4.5.5 What an outcome of the code is.
use Rattle.wsyntax.specs.Execution.Ends as meant
use Rattle.wsyntax.specs.declared.outcome.Outcome.{Outcome}
use Rattle.wsyntax.specs.declared.outcome.Outcome.TheVariants.{Values, Trapped, OutOfFuel, OutOfFrames}

-- 4.2.2 what an outcome of the code means
abbrev pub outcome_of : Outcome → meant.Outcome
outcome_of (Values vs) = meant.Values vs.items
outcome_of (Trapped trap) = meant.Trapped trap
outcome_of OutOfFuel = meant.OutOfFuel
outcome_of OutOfFrames = meant.OutOfFrames
