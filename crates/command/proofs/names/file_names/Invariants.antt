use Rattle.std.proofs.Common.{◌≡◌, ◌++◌, drop, map}
use Rattle.command.specs.Names.{file_names, names_from}
use Rattle.command.proofs.names.file_names.Given as goal

-- the names so far, and those of the words that are left
abbrev pub invariant-loop-i : goal.invariant-loop-i
invariant-loop-i l = map (λ n. n.now) l.names.items ++ names_from l.next (map (λ w. w.now) (drop l.i l.words)) ≡ file_names (map (λ w. w.now) l.words)
