-- The slices of a text of calls.
use denote.Ref.{Bor}
use Rattle.std.specs.Prelude.{◌≡◌, ℕ, ◌≤◌, List, Some, Result, Ok, Err, Vec, length, slice_get}
use Rattle.std.specs.declared.alloc.Global.{Global}
use Rattle.wsyntax.specs.Texts.Calls.{Call as Meant, Good, IsCalls, line_limit}
use Rattle.batch_text.specs.Calls.{ReadsCalls, calls_of}
use Rattle.batch_text.specs.Slices.{joined_calls}
use Rattle.batch_text.specs.declared.call.Call.{Call}
use Rattle.batch_text.specs.declared.fault.CallsFault.{CallsFault}
use Rattle.batch.specs.declared.sliced.SlicedCalls.{SlicedCalls}

-- slice i says calls
abbrev pub SaysCalls : List (Bor (List ℕ)) → ℕ → Type 0
SaysCalls slices i = (slice : Bor (List ℕ)) × (calls : List Meant) × (slice_get slices i ≡ Some slice) × IsCalls slice.now (Good calls)

-- slice i is read as these calls
abbrev pub GivesCalls : List (Bor (List ℕ)) → ℕ → Vec Call Global → Type 0
GivesCalls slices i calls = (slice : Bor (List ℕ)) × (slice_get slices i ≡ Some slice) × ReadsCalls slice.now (Ok calls)

-- the calls of all slices together are those that the text says, and no more than a text may have
abbrev pub SayTogether : List ℕ → List (Vec Call Global) → Type 0
SayTogether text slices = IsCalls text (Good (calls_of (joined_calls slices))) × (length (joined_calls slices) ≤ line_limit)

-- what reading a text in slices gives: their calls, or what is wrong with the text
abbrev pub ReadsSlices : List ℕ → Result SlicedCalls CallsFault → Type 0
ReadsSlices text (Ok sliced) = SayTogether text sliced.slices.items
ReadsSlices text (Err fault) = ReadsCalls text (Err fault)
