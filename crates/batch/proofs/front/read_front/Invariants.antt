-- A line at least is tried.
use Rattle.std.proofs.Common.{◌<◌}
use Rattle.batch.proofs.front.read_front.Given as goal

abbrev pub invariant-tries : goal.invariant-tries
invariant-tries l = 0 < l.tried

abbrev pub decreases-tries : goal.decreases-tries
decreases-tries l = l.tried
