use Rattle.std.proofs.Common.{◌≡◌, ◌-◌, length, reverse}
use Rattle.verdict.proofs.WholeBodies.{TellsSame}
use Rattle.verdict.proofs.body.tokens_fault.Given as goal

abbrev pub invariant-loop-at : goal.invariant-loop-at
invariant-loop-at l = record {
  outside : l.checker.outside ≡ l.fn.checker.outside;
  tells_same : TellsSame l.fn.checker l.fn.known l.bytes l.checker l.so_far l.at (length l.bytes - l.at) (reverse l.opened.items) l.rest;
}
