-- 4.2.8 Bytes of the memory of a store, as a host reads and writes them.
use Rattle.std.specs.Prelude.{◌≡◌, ◌≢◌, ℕ, ◌+◌, Bool, true, false, List, length, take, drop, nat_le, Option, Some, None}
use Rattle.wsyntax.specs.Execution.Store.{Memory}
use Rattle.wsyntax.specs.Execution.Allocation.{overwrite}
use Rattle.soundness.specs.Slots.{SlotStore}

-- the number of bytes of a memory, 0 where there is none
abbrev pub size_in : Option Memory → ℕ
size_in (Some m) = length m.bytes
size_in None = 0

-- these bytes from an address on, if the test holds; an `if` would compute both of its branches
abbrev pub taken_if : Bool → List ℕ → ℕ → ℕ → Option (List ℕ)
taken_if true bytes at count = Some (take count (drop at bytes))
taken_if false bytes at count = None

-- 4.2.8 `count` bytes from an address on; None exactly where there is no memory, or where they reach past its end
abbrev pub bytes_at : Option Memory → ℕ → ℕ → Option (List ℕ)
bytes_at (Some m) at count = taken_if (nat_le (at + count) (length m.bytes)) m.bytes at count
bytes_at None at count = None

-- what a read gives, by its answer: the bytes of the memory, as many as there is room for; or what stood there
abbrev pub ReadsBytes : Option Memory → ℕ → List ℕ → Bool → List ℕ → Type 0
ReadsBytes memory at old true new = bytes_at memory at (length old) ≡ Some new
ReadsBytes memory at old false new = (bytes_at memory at (length old) ≡ None) × (new ≡ old)

-- the memory with these bytes from an address on, if the test holds
abbrev pub put_if : Bool → Memory → ℕ → List ℕ → Option Memory
put_if true m at bytes = Some (record m { bytes = overwrite at bytes m.bytes })
put_if false m at bytes = None

-- 4.2.8 the memory with these bytes from an address on; None exactly where there is none, or where they reach past its end
abbrev pub put_at : Option Memory → ℕ → List ℕ → Option Memory
put_at (Some m) at bytes = put_if (nat_le (at + length bytes) (length m.bytes)) m at bytes
put_at None at bytes = None

-- what a write leaves, by its answer: that memory, and all else as it was
abbrev pub StorePuts : SlotStore → ℕ → List ℕ → Bool → SlotStore → Type 0
StorePuts old at bytes true new = (put_at old.memory at bytes ≡ new.memory) × (new.memory ≢ None) × (new.table ≡ old.table) × (new.globals ≡ old.globals)
StorePuts old at bytes false new = (put_at old.memory at bytes ≡ None) × (new ≡ old)
