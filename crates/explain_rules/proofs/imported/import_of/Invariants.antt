use Rattle.std.proofs.Common.{◌≡◌, ◌+◌, map, take}
use Rattle.std.specs.Prelude.{count_by}
use Rattle.explain_rules.specs.Rules.{adds}
use Rattle.explain_rules.proofs.imported.import_of.Given as goal

abbrev pub invariant-loop-position : goal.invariant-loop-position
invariant-loop-position l = l.left + count_by (adds l.kind) (take l.position (map (λ i. i.kind) l.imports)) ≡ l.index
