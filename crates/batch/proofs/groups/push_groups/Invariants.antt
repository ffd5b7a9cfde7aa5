-- The calls up to a position are in groups.
use Rattle.std.proofs.Common.{◌≤◌, ◌-◌, length, take}
use Rattle.batch.specs.Groups.{AddsGroups}
use Rattle.batch.proofs.groups.push_groups.Given as goal

abbrev pub invariant-groups : goal.invariant-groups
invariant-groups l = record {
  within : l.from ≤ length l.calls;
  added : AddsGroups l.first (take l.from l.calls) l.initial.groups.items l.groups.items;
}

abbrev pub decreases-groups : goal.decreases-groups
decreases-groups l = length l.calls - l.from
