use Rattle.std.proofs.Common.{◌≡◌, ◌+◌, ◌++◌, List, Some, map, take}
use Rattle.wsyntax.specs.declared.ValType.{ValType}
use Rattle.wcheck.specs.Runs.{types_in}
use Rattle.wcheck.proofs.entry.end_in_singles.Given as goal

abbrev pub invariant-loop-i : goal.invariant-loop-i
invariant-loop-i l =
    (runs : List (List ValType)) → types_in (take (l.first + l.i) l.entries) runs ≡ types_in (take l.first l.entries) runs ++ map Some (take l.i l.ts)
