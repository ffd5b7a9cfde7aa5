-- 4.5.4 Whether there would be an instance.
use Rattle.std.specs.Prelude.{◌≡◌, ◌⊎◌, ℕ, true, false, [], Option, Some, None}
use Rattle.wsyntax.specs.Modules.{module_shape}
use Rattle.wsyntax.specs.Execution.Start as meant
use Rattle.wsyntax.specs.StartRefusals.{refusal_of}
use Rattle.wsyntax.specs.declared.outcome.Outcome.TheVariants.{Values}
use Rattle.batch_text.specs.declared.line.Line.{Line}
use Rattle.batch_text.specs.declared.line.Line.TheVariants.{Ran, NotStarted, NoMemory}
use Rattle.accepted_module.specs.Judgement.{shapes_of}
use Rattle.accepted_module.specs.declared.accepted.Accepted.{Accepted as AcceptedModule}
use Rattle.c_api.specs.declared.ending.GateCall.{GateCall}
use Rattle.c_api.specs.declared.settings.GateSettings.{GateSettings}
use Rattle.c_api.specs.Ends.{end_fields}
use Rattle.c_api.specs.Runs.{in_range}

-- 4.5.4 why the module has no instance whose memory has at most `pages` pages
abbrev pub refusal_in : ℕ → AcceptedModule → Option meant.StartRefusal
refusal_in pages a = meant.start_refusal pages (module_shape a.«module») (shapes_of a.bodies.items)

-- the line says why there is no instance: a refusal; or memory was refused, where nothing else refuses it; it ends in no values at no cost where there would be one
abbrev pub SaysStart : ℕ → AcceptedModule → Line → Type 0
SaysStart pages a (Ran (Values vs) fuel) = (refusal_in pages a ≡ None) × (vs.items ≡ []) × (fuel ≡ 0)
SaysStart pages a (NotStarted r) = refusal_in pages a ≡ Some (refusal_of r)
SaysStart pages a NoMemory = refusal_in pages a ≡ None
SaysStart pages a line = ⊥

-- a limit is out of its range, and nothing is written; or the fields of that line are written
abbrev pub AnswersStart : GateSettings → AcceptedModule → GateCall → GateCall → ℕ → Type 0
AnswersStart s a old new answered =
    ((answered ≡ 64) × (in_range s ≡ false) × (new ≡ old))
    ⊎ ((answered ≡ 0) × (in_range s ≡ true) × ((line : Line) × SaysStart s.pages a line × (new ≡ end_fields line)))
