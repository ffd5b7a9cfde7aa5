-- The calls of the slices so far.
use Rattle.std.proofs.Common.{◌≡◌, ◌≤◌, length, take}
use Rattle.wsyntax.specs.Texts.Calls.{line_limit}
use Rattle.batch_text.specs.Slices.{joined_calls}
use Rattle.batch_text.proofs.slices.count_calls.Given as goal

abbrev pub invariant-loop-calls : goal.invariant-loop-calls
invariant-loop-calls l = record {
  counted : l.count ≡ length (joined_calls (take l.calls-index l.read));
  few : l.count ≤ line_limit;
}
