-- The names so far, and those that are left after the part of one that was read.
use Rattle.std.proofs.Common.{◌≡◌, ◌≤◌, ◌++◌, [], drop, map, take}
use Rattle.program.specs.NameLists.{listed_names}
use Rattle.program.proofs.name_list.listed_names.Given as goal

abbrev pub invariant-loop-i : goal.invariant-loop-i
invariant-loop-i l = record {
  within : l.start ≤ l.i;
  names : map (λ n. n.now) l.names.items ++ listed_names l.end (drop l.start (take l.i l.bytes)) (drop l.i l.bytes) ≡ listed_names l.end [] l.bytes;
}
