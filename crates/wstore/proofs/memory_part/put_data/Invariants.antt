use Rattle.std.proofs.Common.{◌≡◌, length, drop}
use Rattle.wsyntax.specs.Execution.Allocation.{put_data, AllWithin}
use Rattle.wstore.specs.Buffers.{with_bytes}
use Rattle.accepted_module.specs.Segments.{data_segments}
use Rattle.wstore.proofs.memory_part.put_data.Given as goal

abbrev pub invariant-loop-index : goal.invariant-loop-index
invariant-loop-index l = record {
  same : l.memory ≡ with_bytes l.fn.memory l.memory.memory.bytes;
  long : length l.memory.memory.bytes ≡ length l.fn.memory.memory.bytes;
  within : AllWithin (length l.fn.memory.memory.bytes) (drop l.index (data_segments l.segments));
  put : put_data (drop l.index (data_segments l.segments)) l.memory.memory.bytes ≡ put_data (data_segments l.segments) l.fn.memory.memory.bytes;
}
