-- How the calls of a batch end.
use Rattle.std.specs.Prelude.{◌≡◌, ℕ, Bool, true, false, IsTrue, List, Option, Some, None, slice_get}
use Rattle.wsyntax.specs.Modules.{ModuleShape, BodyShape, module_shape}
use Rattle.wsyntax.specs.Types.{FuncType}
use Rattle.wsyntax.specs.declared.value.Value.{Value}
use Rattle.wsyntax.specs.Execution.Values.{types}
use Rattle.wsyntax.specs.Execution.Start.{start_refusal}
use Rattle.wsyntax.specs.Texts.Calls.{Call as Meant}
use Rattle.wsyntax.specs.Texts.Answer.{Limits, Names, EndOf, EndsOf}
use Rattle.wsyntax.specs.Outcomes.{outcome_of}
use Rattle.wsyntax.specs.StartRefusals.{refusal_of}
use Rattle.batch_text.specs.Calls.{call_of, calls_of}
use Rattle.batch_text.specs.Ends.{end_of, ends_of}
use Rattle.batch_text.specs.declared.call.Call.{Call}
use Rattle.batch_text.specs.declared.line.Line.{Line}
use Rattle.batch_text.specs.declared.line.Line.TheVariants.{Ran, NoExport, NotAFunction, BadArguments, NotStarted, NoMemory}
use Rattle.accepted_module.specs.declared.accepted.Accepted.{Accepted}
use Rattle.accepted_module.specs.Judgement.{shapes_of}
use Rattle.wstore.specs.declared.settings.Settings.{Settings}
use Rattle.wstore.specs.CallLimits.{limits_of}
use Rattle.wmachine.specs.Starts.{EndsOnEach}

-- ---- one call, alone

-- the line says why there is no instance; or that memory ran out, where nothing refuses the instance; or how the call of function f ends
abbrev pub EndsAlone : ModuleShape → List BodyShape → Limits → ℕ → List Value → Line → Type 0
EndsAlone m bodies l f args (NotStarted r) = start_refusal l.pages m bodies ≡ Some (refusal_of r)
EndsAlone m bodies l f args NoMemory = start_refusal l.pages m bodies ≡ None
EndsAlone m bodies l f args (Ran o k) = (start_refusal l.pages m bodies ≡ None) × EndsOnEach m bodies l f args (outcome_of o) k
EndsAlone m bodies l f args NoExport = ⊥
EndsAlone m bodies l f args NotAFunction = ⊥
EndsAlone m bodies l f args BadArguments = ⊥

-- ---- a call

-- the call names function f, and its arguments are of the types of the parameters
abbrev pub IsCallee : ModuleShape → Meant → ℕ → Type 0
IsCallee m c f = (sig : FuncType) × Names m c f sig × (types c.args ≡ sig.params)

-- the call ran out of memory
abbrev pub is_short : Option Line → Bool
is_short (Some NoMemory) = true
is_short _ = false

-- ---- the calls of a batch

-- the line says how the call ends; where it says that memory ran out, the call ran out of it
abbrev pub GivesLine : Accepted → Settings → Call → Line → Type 0
GivesLine a s c line =
    EndOf (module_shape a.«module») (shapes_of a.bodies.items) (limits_of s) (IsTrue (is_short (Some line))) (call_of c) (end_of line)

abbrev pub GivesLineAt : Accepted → Settings → List Call → ℕ → Line → Type 0
GivesLineAt a s calls n line = (c : Call) × (slice_get calls n ≡ Some c) × GivesLine a s c line

-- the lines say how the calls end, one line a call
abbrev pub AreEnds : Accepted → Settings → List Call → List Line → Type 0
AreEnds a s calls lines =
    EndsOf (module_shape a.«module») (shapes_of a.bodies.items) (limits_of s) (λ n. IsTrue (is_short (slice_get lines n))) 0 (calls_of calls) (ends_of lines)
