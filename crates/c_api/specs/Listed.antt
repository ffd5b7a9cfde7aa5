-- The text that lists what a module exports.
use Rattle.std.specs.Prelude.{◌≡◌, ◌⊎◌, ℕ, true, false, List}
use Rattle.wsyntax.specs.Modules.{module_shape}
use Rattle.wsyntax.specs.Execution.Start.{start_refusal}
use Rattle.wsyntax.specs.Texts.Lines.{verdict_line}
use Rattle.wsyntax.specs.Validation.Verdict.{Verdict, Accepted, IsVerdict}
use Rattle.accepted_module.specs.Judgement.{shapes_of}
use Rattle.accepted_module.specs.Kept.{IsAcceptedFrom}
use Rattle.accepted_module.specs.declared.accepted.Accepted.{Accepted as AcceptedModule}
use Rattle.explain_run.specs.Exports.{IsExportsText}
use Rattle.c_api.specs.declared.settings.GateSettings.{GateSettings}
use Rattle.c_api.specs.Runs.{in_range}
use Rattle.c_api.specs.Texts.{AreKept, Hands}
use Rattle.c_api.specs.Verdicts.{status_of}

-- the lines of the imports and exports of that module, and the one on the start of an instance whose memory has at most `pages` pages
abbrev pub IsListOf : AcceptedModule → ℕ → List ℕ → Type 0
IsListOf a pages text =
    let m = module_shape a.«module» in IsExportsText a.context.context (start_refusal pages m (shapes_of a.bodies.items)) m text

-- of an accepted module its list, of a refused one its verdict line
abbrev pub IsListBy : List ℕ → ℕ → Verdict → List ℕ → Type 0
IsListBy bytes pages Accepted text = (a : AcceptedModule) × IsAcceptedFrom bytes a × IsListOf a pages text
IsListBy bytes pages v text = text ≡ verdict_line v

-- the text is the list of these bytes, and the status that of their verdict
abbrev pub IsList : List ℕ → ℕ → List ℕ → ℕ → Type 0
IsList bytes pages text status = (v : Verdict) × IsVerdict bytes v × IsListBy bytes pages v text × (status ≡ status_of v)

-- a limit is out of its range, or memory was refused, and nothing is written; or the list is handed out
abbrev pub HandsList : List ℕ → GateSettings → List ℕ → List ℕ → ℕ → ℕ → ℕ → Type 0
HandsList bytes s old new was now answered =
    ((((answered ≡ 64) × (in_range s ≡ false)) ⊎ ((answered ≡ 70) × (in_range s ≡ true))) × AreKept old new was now)
    ⊎ ((in_range s ≡ true) × ((text : List ℕ) × (status : ℕ) × IsList bytes s.pages text status × Hands text status old new now answered))
