-- What is read of the first names.
use Rattle.std.proofs.Common.{◌≡◌, ◌<◌, ℕ, List, length, map, take}
use Rattle.program.specs.FileLines.{AreTaken}
use Rattle.program.specs.Sources.{ReadsPaths}
use Rattle.program.proofs.taking.take_round.Given as goal

abbrev pub invariant-loop-i : goal.invariant-loop-i
invariant-loop-i g l = record {
  taken : AreTaken (g.S.Source.holds l.initial.source) (take l.i (map (λ n. n.now) l.names)) l.taken.items;
  count : length l.taken.items ≡ l.i;
  few : l.i < 4096;
  same : (other : List ℕ) → g.S.Source.holds l.source other ≡ g.S.Source.holds l.initial.source other;
  logged : ReadsPaths (g.S.Source.asked l.initial.source) (g.S.Source.asked l.source) (take l.i (map (λ n. n.now) l.names));
}
