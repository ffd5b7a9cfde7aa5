-- The calls of the slices so far are in groups.
use Rattle.std.proofs.Common.{◌≡◌, [], length, take}
use Rattle.batch_text.specs.Slices.{joined_calls}
use Rattle.batch.specs.Groups.{AddsGroups}
use Rattle.batch.proofs.groups.groups_of.Given as goal

abbrev pub invariant-loop-calls : goal.invariant-loop-calls
invariant-loop-calls l = record {
  added : AddsGroups 0 (joined_calls (take l.calls-index l.slices)) [] l.groups.items;
  counted : l.first ≡ length (joined_calls (take l.calls-index l.slices));
}
