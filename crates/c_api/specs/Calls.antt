-- What calling an export by values answers.
use Rattle.std.specs.Prelude.{◌≡◌, ◌⊎◌, ℕ, true, false, IsTrue, List, Some, map}
use Rattle.wsyntax.specs.Modules.{module_shape}
use Rattle.wsyntax.specs.Execution.Values.{AreWords}
use Rattle.wsyntax.specs.declared.value.Value.{Value}
use Rattle.wsyntax.specs.Texts.Answer.{EndOf}
use Rattle.accepted_module.specs.Judgement.{shapes_of}
use Rattle.accepted_module.specs.declared.accepted.Accepted.{Accepted as AcceptedModule}
use Rattle.batch_text.specs.Ends.{end_of}
use Rattle.batch_text.specs.declared.line.Line.{Line}
use Rattle.batch.specs.Ends.{is_short}
use Rattle.c_api.specs.declared.ending.GateCall.{GateCall}
use Rattle.c_api.specs.declared.settings.GateSettings.{GateSettings}
use Rattle.c_api.specs.declared.value.GateValue.{GateValue}
use Rattle.c_api.specs.Ends.{end_fields, values_of}
use Rattle.c_api.specs.Runs.{limits_of, in_range}
use Rattle.c_api.specs.Values.{value_fields, AreNoArguments, overlay}

-- the line says how the call of this name with the arguments of these numbers ends, which are words
abbrev pub EndsCall : AcceptedModule → List ℕ → List GateValue → GateSettings → Line → Type 0
EndsCall a name numbers s line =
    (args : List Value) × AreWords args × (map value_fields args ≡ numbers)
    × EndOf (module_shape a.«module») (shapes_of a.bodies.items) (limits_of s) (IsTrue (is_short (Some line))) (record { name = name; args = args }) (end_of line)

-- the fields of that line are written, and the values that there is room for
abbrev pub TellsCall : (Line → Type 0) → List GateValue → List GateValue → GateCall → Type 0
TellsCall P old new ended = (line : Line) × P line × (ended ≡ end_fields line) × (new ≡ overlay (values_of line) old)

-- why no line is told: a limit is out of its range, or the numbers are of no arguments; or memory was refused
abbrev pub RefusesCall : GateSettings → List GateValue → ℕ → Type 0
RefusesCall s numbers status =
    ((status ≡ 64) × ((in_range s ≡ false) ⊎ AreNoArguments numbers)) ⊎ ((status ≡ 70) × (in_range s ≡ true))

-- the call is refused, and nothing is written; or a line with P is told
abbrev pub AnswersCall : GateSettings → List GateValue → (Line → Type 0) → List GateValue → List GateValue → GateCall → GateCall → ℕ → Type 0
AnswersCall s numbers P old new was ended answered =
    (RefusesCall s numbers answered × (new ≡ old) × (ended ≡ was)) ⊎ ((answered ≡ 0) × (in_range s ≡ true) × TellsCall P old new ended)
