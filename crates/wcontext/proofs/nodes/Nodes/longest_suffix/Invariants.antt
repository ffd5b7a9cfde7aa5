use Rattle.std.proofs.Common.{◌<◌, List, length}
use Rattle.wsyntax.specs.declared.ValType.{ValType}
use Rattle.wcontext.specs.Nodes.{AreNodes, IsOnTheWay}
use Rattle.wcontext.proofs.nodes.Nodes.longest_suffix.Given as goal

abbrev pub invariant-loop-at : goal.invariant-loop-at
invariant-loop-at l = (texts : List (List ValType)) → AreNodes texts l.self → l.node < length texts → l.at < l.from → IsOnTheWay texts l.node l.at

abbrev pub decreases-loop-at : goal.decreases-loop-at
decreases-loop-at l = l.from
