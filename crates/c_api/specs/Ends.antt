-- The fields of how a call ends.
use Rattle.std.specs.Prelude.{ℕ, List, [], length}
use Rattle.wnum.specs.declared.trap.NumTrap.TheVariants.{DivideByZero, IntegerOverflow}
use Rattle.wsyntax.specs.declared.value.Value.{Value}
use Rattle.wsyntax.specs.declared.value.Trap.{Trap}
use Rattle.wsyntax.specs.declared.value.Trap.TheVariants.{Unreachable, OutOfBounds, UndefinedElement, UninitializedElement, TypeMismatch, ByOperator}
use Rattle.wsyntax.specs.declared.outcome.Outcome.{Outcome}
use Rattle.wsyntax.specs.declared.outcome.Outcome.TheVariants.{Values, Trapped, OutOfFuel, OutOfFrames}
use Rattle.wsyntax.specs.declared.start_refusal.StartRefusal.{StartRefusal}
use Rattle.wsyntax.specs.declared.start_refusal.StartRefusal.TheVariants.{HasImports, HasFloats, TableLimit, MemoryLimit, ElementOutside, DataOutside}
use Rattle.batch_text.specs.declared.line.Line.{Line}
use Rattle.batch_text.specs.declared.line.Line.TheVariants.{Ran, NoExport, NotAFunction, BadArguments, NotStarted, NoMemory}
use Rattle.c_api.specs.declared.ending.GateCall.{GateCall}

abbrev pub trap_code : Trap → ℕ
trap_code Unreachable = 0
trap_code OutOfBounds = 1
trap_code UndefinedElement = 2
trap_code UninitializedElement = 3
trap_code TypeMismatch = 4
trap_code (ByOperator DivideByZero) = 5
trap_code (ByOperator IntegerOverflow) = 6

-- why there is no instance, and the segment that lies outside
abbrev pub refusal_code : StartRefusal → ℕ
refusal_code HasImports = 0
refusal_code HasFloats = 1
refusal_code TableLimit = 2
refusal_code MemoryLimit = 3
refusal_code (ElementOutside k) = 4
refusal_code (DataOutside k) = 5

abbrev pub segment_of : StartRefusal → ℕ
segment_of (ElementOutside k) = k
segment_of (DataOutside k) = k
segment_of r = 0

-- an end of which only the code is told
abbrev pub plain : ℕ → GateCall
plain end = record { end = end; reason = 0; place = 0; fuel = 0; results = 0 }

-- how a call that ran came to its end, at that cost of fuel
abbrev pub outcome_fields : Outcome → ℕ → GateCall
outcome_fields (Values vs) fuel = record { end = 0; reason = 0; place = 0; fuel = fuel; results = length vs.items }
outcome_fields (Trapped trap) fuel = record { end = 1; reason = trap_code trap; place = 0; fuel = fuel; results = 0 }
outcome_fields OutOfFuel fuel = record { end = 2; reason = 0; place = 0; fuel = fuel; results = 0 }
outcome_fields OutOfFrames fuel = record { end = 3; reason = 0; place = 0; fuel = fuel; results = 0 }

-- how a call ended; fields that do not belong to the end are 0
abbrev pub end_fields : Line → GateCall
end_fields (Ran o fuel) = outcome_fields o fuel
end_fields NoExport = plain 4
end_fields NotAFunction = plain 5
end_fields BadArguments = plain 6
end_fields (NotStarted r) = record { end = 7; reason = refusal_code r; place = segment_of r; fuel = 0; results = 0 }
end_fields NoMemory = plain 8

-- the values that it ended in, if any
abbrev pub values_of : Line → List Value
values_of (Ran (Values vs) fuel) = vs.items
values_of line = []
