-- What reading a text of calls gives.
-- The calls that the text says, or that it is too long, or its least bad line.
use Rattle.std.specs.Prelude.{ℕ, List, map, Result, Ok, Err, Vec}
use Rattle.std.specs.declared.alloc.Global.{Global}
use Rattle.wsyntax.specs.Texts.Calls.{Call as Meant, TooLong, BadLine, Good, IsCalls}
use Rattle.batch_text.specs.Args.{args_of}
use Rattle.batch_text.specs.declared.call.Call.{Call}
use Rattle.batch_text.specs.declared.fault.CallsFault.{CallsFault}
use Rattle.batch_text.specs.declared.fault.CallsFault.TheVariants.{TooLarge, Line, Memory}

-- the call that a call of the code is
abbrev pub call_of : Call → Meant
call_of c = record { name = c.name.now; args = args_of c.args }

-- what these calls of the code mean
abbrev pub calls_of : List Call → List Meant
calls_of calls = map call_of calls

-- the calls that the text says; or it is too long; or its least bad line. Out of memory says nothing of the text
abbrev pub ReadsCalls : List ℕ → Result (Vec Call Global) CallsFault → Type 0
ReadsCalls text (Ok calls) = IsCalls text (Good (calls_of calls.items))
ReadsCalls text (Err TooLarge) = IsCalls text TooLong
ReadsCalls text (Err (Line k)) = IsCalls text (BadLine k)
ReadsCalls text (Err Memory) = Unit {0}
