use Rattle.std.proofs.Common.{arith}
use Rattle.std.proofs.lemmas.Grind.{common_steps}
use Rattle.explain_typing.proofs.Typings.{listed_alone, listed_indexed}
use Rattle.explain_typing.proofs.operands.listed.Goals as goal
use Rattle.explain_typing.proofs.operands.listed.Goals.{then-has_index+in_ok-push-2, else-has_index}

pub returns : goal.returns
returns c = elim c.if-has_index.branch [
  | then-has_index+in_ok-push-2 w ↦ grind (arith, common_steps, listed_indexed, listed_alone)
  | else-has_index w ↦ grind (arith, common_steps, listed_indexed, listed_alone)
]
