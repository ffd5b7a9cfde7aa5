use Rattle.std.proofs.Common.{◌≡◌, ◌++◌, false}
use Rattle.pieces.specs.Crew.{shares_of, answers_of, any_short}
use Rattle.pieces.proofs.gathering.split_crew.Given as goal

abbrev pub invariant-loop-member : goal.invariant-loop-member
invariant-loop-member g l = record {
  split : l.fn.crew.items ≡ l.yielded ++ l.member-iterator.rest.items;
  shares : l.shares.items ≡ shares_of l.yielded;
  answers : l.answers.items ≡ answers_of l.yielded;
  whole : any_short l.yielded ≡ false;
}
