use Rattle.std.proofs.Common.{◌≡◌, ℕ, ◌*◌, ◌/◌, ◌<◌, ◌≤◌, get_or}
use Rattle.std.specs.Prelude.{true, false}
use Rattle.memory.proofs.marks.mark_all.Given as goal

abbrev pub invariant-loop-block : goal.invariant-loop-block
invariant-loop-block l = record {
  inside : (b : ℕ) → l.from / 4096 ≤ b → b < l.block → get_or l.marks b false ≡ true;
  kept : (b : ℕ) → get_or l.marks b false ≡ false → get_or l.initial.marks b false ≡ false;
  above : (b : ℕ) → l.to ≤ b * 4096 → get_or l.marks b false ≡ get_or l.initial.marks b false;
}
