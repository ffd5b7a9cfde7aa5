use Rattle.verdict.proofs.OneVerdict.{one_verdict}
use Rattle.verdict.proofs.laws.one_verdict.Goals as goal

pub returns : goal.returns
returns c = one_verdict record {
  one_body = c.bodies_are_determined.ensures;
  one_shell = c.shells_are_determined.ensures;
  one_tree = c.unique_tree.ensures;
  typed_where_no_fault = c.typed_where_no_fault.ensures;
  one_fault = c.one_fault.ensures;
}
