-- The lines of the first files are written.
use Rattle.std.proofs.Common.{◌≡◌, ◌≤◌, ◌-◌, ℕ, List, length, map, take}
use Rattle.program.specs.ChecksAll.{PrintsFiles}
use Rattle.program.proofs.checking_all.check_rounds.Given as goal

abbrev pub decreases-loop-done : goal.decreases-loop-done
decreases-loop-done g l = length l.names - l.done

abbrev pub invariant-loop-done : goal.invariant-loop-done
invariant-loop-done g l = record {
  within : l.done ≤ length l.names;
  same : (other : List ℕ) → g.S.Source.holds l.source other ≡ g.S.Source.holds l.initial.source other;
  printed : PrintsFiles (g.S.Source.holds l.initial.source) (take l.done (map (λ n. n.now) l.names)) (g.S.Source.asked l.initial.source) (g.S.Source.asked l.source)
      (g.O.Write.contents l.initial.out) (g.O.Write.contents l.out) l.file_outcome;
}
