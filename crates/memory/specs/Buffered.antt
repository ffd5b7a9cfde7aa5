-- 4.2.8 A memory instance in the buffer that holds its bytes.
-- What is lent is zero. What a write, a growth and a segment leave is the definition's.
use Rattle.std.specs.Prelude.{◌≡◌, ℕ, ◌+◌, ◌*◌, ◌/◌, ◌<◌, ◌≤◌, List, length, take, replicate, slice_index, slice_index_or, Bool, true, false, Option, Some, None, IsSome, Vec, vec_len}
use Rattle.std.specs.declared.alloc.Global.{Global}
use Rattle.wsyntax.specs.Execution.Store.{Memory, page, may_have, write, grown}
use Rattle.wsyntax.specs.Execution.Allocation.{overwrite}
use Rattle.memory.specs.Zeros.{AreZeroUnmarked}

-- a memory instance, and the number of bytes of its buffer: those past the memory's end wait for it to grow
pub record Buffered : Type 0 where
  pub memory : Memory
  pub room : ℕ

-- the memory at the front of a buffer
abbrev pub front_of : List ℕ → ℕ → Option ℕ → ℕ → ℕ → Buffered
front_of bytes n most pages room = record { memory = record { bytes = take n bytes; most = most; pages = pages }; room = room }

-- memory was refused: the bytes are fewer than n, and stay as they were
abbrev pub StaysShort : Vec ℕ Global → ℕ → Vec ℕ Global → Type 0
StaysShort old n new = (vec_len new ≡ vec_len old) × (vec_len old < n) × (new.items ≡ old.items)

-- 4.5.3 a memory of `min` pages of zeros, with its declared maximum and the setting
abbrev pub zeros : ℕ → Option ℕ → ℕ → Memory
zeros min most pages = record { bytes = replicate (min * page) 0; most = most; pages = pages }

-- 4.4.4 what a write of a number leaves, by whether it lies within the memory: the definition's bytes, or all as it was
abbrev pub Writes : Buffered → ℕ → ℕ → ℕ → Bool → Buffered → Type 0
Writes old at width n true new =
    (write old.memory.bytes at width n ≡ Some new.memory.bytes) × (new.memory ≡ record old.memory { bytes = new.memory.bytes }) × (new.room ≡ old.room)
Writes old at width n false new = (write old.memory.bytes at width n ≡ None) × (new ≡ old)

-- 4.4.4 what a growth leaves, by the size that it answers: the definition's memory, or all as it was
abbrev pub Grows : Memory → ℕ → Option ℕ → Memory → Type 0
Grows old more (Some size) new = (size ≡ length old.bytes / page) × (grown old more ≡ Some new)
Grows old more None new = (grown old more ≡ None) × (new ≡ old)

-- 4.4.4 the memory may grow by `more` pages, for which its buffer has no room
abbrev pub LacksRoomFor : Buffered → ℕ → Type 0
LacksRoomFor b more = IsSome (grown b.memory more) × (b.room < length b.memory.bytes + more * page)

-- 4.5.4 what a data segment leaves: the definition's bytes
abbrev pub Overwrites : Buffered → ℕ → List ℕ → Buffered → Type 0
Overwrites old at bytes new = new ≡ record old { memory = record old.memory { bytes = overwrite at bytes old.memory.bytes } }

-- Whole pages stand in the buffer, within the bounds. Each block of the buffer has a mark. After the pages no block is marked
-- and every byte is zero, and in them every byte is zero that the marks do not tell of.
pub record IsBuffered (bytes : List ℕ) (marks : List Bool) (length' : ℕ) (most : Option ℕ) (pages : ℕ) : Type 0 where
  pub count : ℕ
  pub whole : length' ≡ count * page
  pub bounded : may_have (zeros 0 most pages) count ≡ true
  pub fits : length' ≤ length bytes
  pub covered : length bytes ≤ length marks * 4096
  pub unused : (b : ℕ) → length' ≤ b * 4096 → slice_index_or marks b false ≡ false
  pub behind : (k : ℕ) → length' ≤ k → slice_index bytes k ≡ 0
  pub zero : AreZeroUnmarked bytes marks
