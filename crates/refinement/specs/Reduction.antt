-- What holds of the reduction, as the turns of the machine and the invariant need it.
use Rattle.wsyntax.specs.Execution.Laws.{NeverStuck, ResultsTyped, Paid, Joins, CountsAdd}
use Rattle.soundness.specs.Rules.{RuleBack}
use Rattle.soundness.specs.State.{StepsThere, BranchLands, ReturnGives, ReturnEnds, TrapFalls, StateTyped}
use Rattle.soundness.specs.Slots.{EffectIsStep, StraightTyped}

-- configurations step at their innermost level, branches and returns leave it, traps fall out of it; a straight instruction is its effect on slots, and keeps types
pub record ReductionLaws : Type 0 where
  pub steps_there : StepsThere
  pub branch_lands : BranchLands
  pub return_gives : ReturnGives
  pub return_ends : ReturnEnds
  pub trap_falls : TrapFalls
  pub effect_is_step : EffectIsStep
  pub straight_typed : StraightTyped

-- what a typed call reaches is typed and not stuck, and so is the code at hand; a rule is a typing; runs join, and what they are charged and what is work add up
pub record SafetyLaws : Type 0 where
  pub state_typed : StateTyped
  pub rule_back : RuleBack
  pub never_stuck : NeverStuck
  pub results_typed : ResultsTyped
  pub paid : Paid
  pub joins : Joins
  pub counts_add : CountsAdd
