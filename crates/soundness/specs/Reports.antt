-- Calls of small functions and the report on them, and the text of each kind of verdict.
use Rattle.std.specs.Prelude.{◌≡◌, ℕ, ◌-◌, List, [], ◌∷◌, Option, Some, None, option_map, codes}
use Rattle.wsyntax.specs.Instructions.{Width32, Add, OfTwo, LocalGet, Numeric, MemoryLoad, Stop, Plain}
use Rattle.wsyntax.specs.declared.value.Value.{Value}
use Rattle.wsyntax.specs.declared.value.Value.TheVariants.{I32 as V32, I64 as V64}
use Rattle.wsyntax.specs.declared.value.Trap.TheVariants.{Unreachable, OutOfBounds, UndefinedElement, UninitializedElement, TypeMismatch, ByOperator}
use Rattle.wnum.specs.declared.trap.NumTrap.TheVariants.{DivideByZero, IntegerOverflow}
use Rattle.wsyntax.specs.Validation.Verdict.{BodyMalformed, TooManyLocals, IllTyped, Accepted, TooLarge, Malformed, RuleBroken, BodyRefused}
use Rattle.wsyntax.specs.Execution.Store.{Module}
use Rattle.wsyntax.specs.Execution.Ends.{Outcome, Values, Trapped, OutOfFuel, OutOfFrames}
use Rattle.wsyntax.specs.Execution.Start.{HasImports, HasFloats, TableLimit, MemoryLimit, ElementOutside, DataOutside}
use Rattle.wsyntax.specs.Execution.Run.{call_ends}
use Rattle.wsyntax.specs.Texts.Report.{CallEnd, Ran, NoExport, NotAFunction, BadArguments, NotStarted, NoMemory, call_line, total_line, report_text}
use Rattle.wsyntax.specs.Texts.Lines.{verdict_text, verdict_line}
use Rattle.soundness.specs.Growth.{one_page}
use Rattle.soundness.specs.Samples.{one, two, word_at}

-- Calls that are run.

-- 0: adds its arguments. 1: loads the word at its argument and the offset 2
abbrev pub adder : Module
adder = record {
  types = one ∷ two ∷ [];
  functions =
      record { func_type = two; locals = []; body = Plain (LocalGet 0) (Plain (LocalGet 1) (Plain (Numeric (OfTwo Width32 Add)) Stop)) } ∷
      record { func_type = one; locals = []; body = Plain (LocalGet 0) (Plain (MemoryLoad (word_at 2)) Stop) } ∷ [];
}

-- how a call ends on a memory of one page, with ten units of fuel
abbrev pub ended : ℕ → List Value → Option CallEnd
ended f args = option_map (λ (x : Outcome × ℕ). Ran x.0 (10 - x.1)) (call_ends adder (one_page None 1) f args 10 2 20)

-- the call ends so, and is reported so as the first and only one
pub record Reported (f : ℕ) (args : List Value) (end : CallEnd) (text : List ℕ) : Type 0 where
  pub ends : ended f args ≡ Some end
  pub report : report_text (end ∷ []) ≡ text

-- a number is read with its sign; a load must end within the page, and address and offset are added without wrapping
pub record ReportExamples : Type 0 where
  -- 2147483647 and 1: the sum is the least number
  pub add_wraps : Reported 0 (V32 2147483647 ∷ V32 1 ∷ []) (Ran (Values (V32 2147483648 ∷ [])) 1) (codes "0 values i32:-2147483648 fuel 1\ntotal 1 values 1 traps 0 exhausted 0 refused 0 no-memory 0 fuel 1\n")
  -- the last word of the page, a zero
  pub last_word : Reported 1 (V32 65530 ∷ []) (Ran (Values (V32 0 ∷ [])) 1) (codes "0 values i32:0 fuel 1\ntotal 1 values 1 traps 0 exhausted 0 refused 0 no-memory 0 fuel 1\n")
  -- the word one byte further on reaches past the end
  pub over_the_end : Reported 1 (V32 65531 ∷ []) (Ran (Trapped OutOfBounds) 1) (codes "0 trap out-of-bounds fuel 1\ntotal 1 values 0 traps 1 exhausted 0 refused 0 no-memory 0 fuel 1\n")
  -- the offset takes it to the first byte after the page
  pub past_the_end : ended 1 (V32 65534 ∷ []) ≡ Some (Ran (Trapped OutOfBounds) 1)
  -- address and offset are 2^32 together
  pub far_past_the_end : ended 1 (V32 4294967294 ∷ []) ≡ Some (Ran (Trapped OutOfBounds) 1)
  -- the loads in one report, numbered from 0
  pub four_loads : report_text (Ran (Values (V32 0 ∷ [])) 1 ∷ Ran (Trapped OutOfBounds) 1 ∷ Ran (Trapped OutOfBounds) 1 ∷ Ran (Trapped OutOfBounds) 1 ∷ [])
      ≡ codes "0 values i32:0 fuel 1\n1 trap out-of-bounds fuel 1\n2 trap out-of-bounds fuel 1\n3 trap out-of-bounds fuel 1\ntotal 4 values 1 traps 3 exhausted 0 refused 0 no-memory 0 fuel 4\n"
  -- no call
  pub no_call : report_text [] ≡ codes "total 0 values 0 traps 0 exhausted 0 refused 0 no-memory 0 fuel 0\n"
  -- no result
  pub no_result : call_line 7 (Ran (Values []) 3) ≡ codes "7 values fuel 3\n"
  -- two results, joined by a comma, the lowest first
  pub two_results : call_line 12 (Ran (Values (V32 1 ∷ V64 18446744073709551615 ∷ [])) 100) ≡ codes "12 values i32:1,i64:-1 fuel 100\n"

-- The other ends.

-- what is told of each, and what the total counts
pub record EndTexts : Type 0 where
  -- no fuel was left
  pub out_of_fuel : call_line 0 (Ran OutOfFuel 10) ≡ codes "0 out-of-fuel fuel 10\n"
  -- no frame was left
  pub out_of_frames : call_line 0 (Ran OutOfFrames 9) ≡ codes "0 out-of-frames fuel 9\n"
  -- the trap of `unreachable`
  pub reached_unreachable : call_line 0 (Ran (Trapped Unreachable) 1) ≡ codes "0 trap unreachable fuel 1\n"
  -- the trap of an index past the end of the table
  pub undefined_element : call_line 0 (Ran (Trapped UndefinedElement) 1) ≡ codes "0 trap undefined-element fuel 1\n"
  -- the trap of an entry that was never set
  pub uninitialized_element : call_line 0 (Ran (Trapped UninitializedElement) 1) ≡ codes "0 trap uninitialized-element fuel 1\n"
  -- the trap of an entry of another type
  pub type_mismatch : call_line 0 (Ran (Trapped TypeMismatch) 1) ≡ codes "0 trap type-mismatch fuel 1\n"
  -- the trap of a division by zero
  pub divide_by_zero : call_line 0 (Ran (Trapped (ByOperator DivideByZero)) 1) ≡ codes "0 trap divide-by-zero fuel 1\n"
  -- the trap of the least number divided by -1
  pub integer_overflow : call_line 0 (Ran (Trapped (ByOperator IntegerOverflow)) 1) ≡ codes "0 trap integer-overflow fuel 1\n"
  -- no export has the name
  pub no_export : call_line 0 NoExport ≡ codes "0 no-export\n"
  -- the export is no function
  pub not_a_function : call_line 0 NotAFunction ≡ codes "0 not-a-function\n"
  -- the arguments are not of the function's type
  pub bad_arguments : call_line 0 BadArguments ≡ codes "0 bad-arguments\n"
  -- the module imports something
  pub has_imports : call_line 0 (NotStarted HasImports) ≡ codes "0 not-started imports\n"
  -- the module mentions a float
  pub has_floats : call_line 0 (NotStarted HasFloats) ≡ codes "0 not-started floats\n"
  -- its table is too large
  pub table_limit : call_line 0 (NotStarted TableLimit) ≡ codes "0 not-started table-limit\n"
  -- its memory is too large
  pub memory_limit : call_line 0 (NotStarted MemoryLimit) ≡ codes "0 not-started memory-limit\n"
  -- element segment 3 is outside
  pub element_outside : call_line 0 (NotStarted (ElementOutside 3)) ≡ codes "0 not-started element-outside 3\n"
  -- data segment 0 is outside
  pub data_outside : call_line 0 (NotStarted (DataOutside 0)) ≡ codes "0 not-started data-outside 0\n"
  -- a growth was refused
  pub no_memory : call_line 0 NoMemory ≡ codes "0 no-memory\n"
  -- each is counted once, where the total says; both limits are exhaustion, and only what was run has fuel
  pub all_counted : total_line (Ran (Values []) 4 ∷ Ran (Trapped Unreachable) 3 ∷ Ran OutOfFuel 20 ∷ Ran OutOfFrames 100 ∷ NoExport ∷ NotAFunction ∷ BadArguments ∷ NotStarted HasFloats ∷ NoMemory ∷ [])
      ≡ codes "total 9 values 1 traps 1 exhausted 2 refused 4 no-memory 1 fuel 127\n"

-- Verdicts.

-- the text of each kind
pub record VerdictTexts : Type 0 where
  -- accepted
  pub accepted : verdict_text Accepted ≡ codes "accepted"
  -- more bytes than may be
  pub too_large : verdict_text TooLarge ≡ codes "refused too-large"
  -- the bytes spell no module
  pub malformed : verdict_text Malformed ≡ codes "refused malformed"
  -- a rule, by its number
  pub rule_broken : verdict_text (RuleBroken 13) ≡ codes "refused rule 13"
  -- a body that is malformed, by the index of its function
  pub body_malformed : verdict_text (BodyRefused 0 BodyMalformed) ≡ codes "refused body 0 malformed"
  -- a body of too many locals
  pub too_many_locals : verdict_text (BodyRefused 10 TooManyLocals) ≡ codes "refused body 10 too-many-locals"
  -- a body that is ill typed, by the position of its first fault
  pub ill_typed : verdict_text (BodyRefused 205 (IllTyped 3)) ≡ codes "refused body 205 ill-typed at 3"
  -- the line of a verdict
  pub line : verdict_line (BodyRefused 1 (IllTyped 0)) ≡ codes "refused body 1 ill-typed at 0\n"
