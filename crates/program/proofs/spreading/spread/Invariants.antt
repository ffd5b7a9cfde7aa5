-- What the names so far stand for.
use Rattle.std.proofs.Common.{◌≡◌, ℕ, List, [], true, map, string_bytes, take}
use Rattle.program.specs.NameLists.{IsSpread}
use Rattle.program.specs.Sources.{ReadsPaths}
use Rattle.program.proofs.spreading.spread.Given as goal

abbrev pub invariant-loop-name : goal.invariant-loop-name
invariant-loop-name g l = record {
  spread : IsSpread true (g.S.Source.lists l.initial.source) (take l.name-index (map (λ n. n.now) l.names)) (map string_bytes l.files.items);
  same : (other : List ℕ) → g.S.Source.holds l.source other ≡ g.S.Source.holds l.initial.source other;
  same_lists : (other : List ℕ) → g.S.Source.lists l.source other ≡ g.S.Source.lists l.initial.source other;
  logged : ReadsPaths (g.S.Source.asked l.initial.source) (g.S.Source.asked l.source) [];
}
