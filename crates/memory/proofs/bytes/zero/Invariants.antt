use Rattle.std.proofs.Common.{◌≡◌, ℕ, ◌<◌, ◌≤◌, slice_index}
use Rattle.memory.proofs.bytes.zero.Given as goal

abbrev pub invariant-loop-i : goal.invariant-loop-i
invariant-loop-i l = record {
  inside : (k : ℕ) → l.from ≤ k → k < l.i → slice_index l.bytes k ≡ 0;
  below : (k : ℕ) → k < l.from → slice_index l.bytes k ≡ slice_index l.initial.bytes k;
  above : (k : ℕ) → l.to ≤ k → slice_index l.bytes k ≡ slice_index l.initial.bytes k;
}
