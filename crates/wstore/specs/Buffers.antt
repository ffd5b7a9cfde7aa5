-- A memory in its buffer.
use Rattle.std.specs.Prelude.{ℕ, List, [], Option, Some, None}
use Rattle.memory.specs.Buffered.{Buffered}

-- with other bytes
abbrev pub with_bytes : Buffered → List ℕ → Buffered
with_bytes b bytes = record b { memory = record b.memory { bytes = bytes } }

-- the bytes of the memory, none where there is no memory
abbrev pub bytes_of : Option Buffered → List ℕ
bytes_of (Some b) = b.memory.bytes
bytes_of None = []
