use Rattle.std.proofs.Common.{◌≡◌, ℕ, ◌*◌, ◌<◌, ◌≤◌, get_or}
use Rattle.std.specs.Prelude.{false}
use Rattle.memory.specs.Zeros.{AreZeroUnmarked}
use Rattle.memory.proofs.marks.clear.Given as goal

abbrev pub invariant-loop-block : goal.invariant-loop-block
invariant-loop-block l = record {
  zero : AreZeroUnmarked l.bytes l.marks;
  below : (b : ℕ) → b < l.block → get_or l.marks b false ≡ false;
  unused : (b : ℕ) → l.used ≤ b * 4096 → get_or l.marks b false ≡ false;
}
