use Rattle.std.proofs.Common.{◌≡◌, ◌++◌, vec_len}
use Rattle.pieces.specs.Crew.{shares_of, locals_of, NoneYet}
use Rattle.pieces.proofs.gathering.new_crew.Given as goal

abbrev pub invariant-loop-share : goal.invariant-loop-share
invariant-loop-share g l = record {
  shares : l.shares.items ++ shares_of l.crew.items ≡ l.fn.shares.items;
  locals : l.locals.items ++ locals_of l.crew.items ≡ l.fn.locals.items;
  lens : vec_len l.shares ≡ vec_len l.locals;
  none : NoneYet l.crew.items;
}

abbrev pub decreases-loop-share : goal.decreases-loop-share
decreases-loop-share g l = vec_len l.shares
