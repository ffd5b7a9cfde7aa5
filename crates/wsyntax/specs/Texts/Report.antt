-- The lines of a report: one for each call, and the total.
use Rattle.std.specs.Prelude.{ℕ, suc, ◌+◌, List, [], ◌∷◌, ◌++◌, codes, decimal, length}
use Rattle.wsyntax.specs.Execution.Values.{Value, TrapKind, ByUnreachable, OutOfBounds, UndefinedElement, UninitializedElement, TypeMismatch, ByOperator}
use Rattle.wnum.specs.declared.trap.NumTrap.TheVariants.{DivideByZero, IntegerOverflow}
use Rattle.wsyntax.specs.Execution.Ends.{Outcome, Values, Trapped, OutOfFuel, OutOfFrames}
use Rattle.wsyntax.specs.Execution.Start.{StartRefusal, HasImports, HasFloats, TableLimit, MemoryLimit, ElementOutside, DataOutside}
use Rattle.wsyntax.specs.Texts.Words.{newline, value_text}

-- how a call ends
pub data CallEnd : Type 0 where
  -- it was run, at this cost of fuel, that of the start function included
  Ran : Outcome → ℕ → CallEnd
  -- refused before the start
  NoExport NotAFunction BadArguments : CallEnd
  NotStarted : StartRefusal → CallEnd
  -- a growth of memory was refused
  NoMemory : CallEnd

-- the name of a trap
abbrev pub trap_text : TrapKind → List ℕ
trap_text ByUnreachable = codes "unreachable"
trap_text OutOfBounds = codes "out-of-bounds"
trap_text UndefinedElement = codes "undefined-element"
trap_text UninitializedElement = codes "uninitialized-element"
trap_text TypeMismatch = codes "type-mismatch"
trap_text (ByOperator DivideByZero) = codes "divide-by-zero"
trap_text (ByOperator IntegerOverflow) = codes "integer-overflow"

-- values joined by commas, the lowest first
abbrev pub values_text : List Value → List ℕ
values_text [] = []
values_text (v ∷ []) = value_text v
values_text (v ∷ w ∷ vs) = value_text v ++ (codes "," ++ values_text (w ∷ vs))

-- the same with a space in front, where there is a value
abbrev pub spaced_values : List Value → List ℕ
spaced_values [] = []
spaced_values (v ∷ vs) = codes " " ++ values_text (v ∷ vs)

-- the words of how a run ended
abbrev pub outcome_text : Outcome → List ℕ
outcome_text (Values vs) = codes "values" ++ spaced_values vs
outcome_text (Trapped trap) = codes "trap " ++ trap_text trap
outcome_text OutOfFuel = codes "out-of-fuel"
outcome_text OutOfFrames = codes "out-of-frames"

-- the words of why no instance is made
abbrev pub refusal_text : StartRefusal → List ℕ
refusal_text HasImports = codes "imports"
refusal_text HasFloats = codes "floats"
refusal_text TableLimit = codes "table-limit"
refusal_text MemoryLimit = codes "memory-limit"
refusal_text (ElementOutside k) = codes "element-outside " ++ decimal k
refusal_text (DataOutside k) = codes "data-outside " ++ decimal k

-- the words of how a call ended
abbrev pub end_text : CallEnd → List ℕ
end_text (Ran o fuel) = outcome_text o ++ (codes " fuel " ++ decimal fuel)
end_text NoExport = codes "no-export"
end_text NotAFunction = codes "not-a-function"
end_text BadArguments = codes "bad-arguments"
end_text (NotStarted r) = codes "not-started " ++ refusal_text r
end_text NoMemory = codes "no-memory"

-- the line of call n, from 0
abbrev pub call_line : ℕ → CallEnd → List ℕ
call_line n e = decimal n ++ (codes " " ++ (end_text e ++ newline))

-- The total.

-- what a call adds to the counts of values, traps, exhausted, refused and out of memory, and to the fuel
pub record Tally : Type 0 where
  pub values : ℕ
  pub traps : ℕ
  pub exhausted : ℕ
  pub refused : ℕ
  pub no_memory : ℕ
  pub fuel : ℕ

-- the counts of no calls
abbrev pub none : Tally
none = record { values = 0; traps = 0; exhausted = 0; refused = 0; no_memory = 0; fuel = 0 }

-- the counts of one run that ended so at this cost of fuel
abbrev pub outcome_tally : Outcome → ℕ → Tally
outcome_tally (Values vs) k = record none { values = 1; fuel = k }
outcome_tally (Trapped trap) k = record none { traps = 1; fuel = k }
outcome_tally OutOfFuel k = record none { exhausted = 1; fuel = k }
outcome_tally OutOfFrames k = record none { exhausted = 1; fuel = k }

-- the counts of one call
abbrev pub tally_of : CallEnd → Tally
tally_of (Ran o k) = outcome_tally o k
tally_of NoExport = record none { refused = 1 }
tally_of NotAFunction = record none { refused = 1 }
tally_of BadArguments = record none { refused = 1 }
tally_of (NotStarted r) = record none { refused = 1 }
tally_of NoMemory = record none { no_memory = 1 }

-- two counts together
abbrev pub plus : Tally → Tally → Tally
plus a b = record {
  values = a.values + b.values;
  traps = a.traps + b.traps;
  exhausted = a.exhausted + b.exhausted;
  refused = a.refused + b.refused;
  no_memory = a.no_memory + b.no_memory;
  fuel = a.fuel + b.fuel;
}

-- the counts of these calls together
abbrev pub total_of : List CallEnd → Tally
total_of [] = none
total_of (e ∷ es) = plus (tally_of e) (total_of es)

-- the last line of the report, with the counts of all calls
abbrev pub total_line : List CallEnd → List ℕ
total_line ends = let t = total_of ends in
    codes "total " ++ (decimal (length ends) ++ (codes " values " ++ (decimal t.values ++ (codes " traps " ++ (decimal t.traps
    ++ (codes " exhausted " ++ (decimal t.exhausted ++ (codes " refused " ++ (decimal t.refused ++ (codes " no-memory " ++ (decimal t.no_memory
    ++ (codes " fuel " ++ (decimal t.fuel ++ newline)))))))))))))

-- the lines of the calls from number n on
abbrev pub call_lines : ℕ → List CallEnd → List ℕ
call_lines n [] = []
call_lines n (e ∷ es) = call_line n e ++ call_lines (suc n) es

-- the report: one line a call in the order of the calls, and the total
abbrev pub report_text : List CallEnd → List ℕ
report_text ends = call_lines 0 ends ++ total_line ends
