-- What running a text of calls answers.
use Rattle.std.specs.Prelude.{◌≡◌, ◌⊎◌, ℕ, Bool, true, false, List}
use Rattle.wsyntax.specs.Validation.Verdict.{Accepted}
use Rattle.wsyntax.specs.Texts.Answer.{Limits}
use Rattle.accepted_module.specs.declared.accepted.Accepted.{Accepted as AcceptedModule}
use Rattle.wstore.specs.Settings.{limits, are_in_range}
use Rattle.batch.specs.Answers.{IsSomeAnswer, IsAnswerOn, HasStatus, StatusBy}
use Rattle.batch.specs.declared.status.Status.{Status}
use Rattle.c_api.specs.declared.settings.GateSettings.{GateSettings}
use Rattle.c_api.specs.declared.report.ReportSlot.{ReportSlot}
use Rattle.c_api.specs.Texts.{AreKept}
use Rattle.c_api.specs.Handed.{HandsOrKeeps}

abbrev pub limits_of : GateSettings → Limits
limits_of s = limits s.fuel s.frames s.pages

-- each limit is in its range
abbrev pub in_range : GateSettings → Bool
in_range s = are_in_range s.fuel s.frames s.pages

-- nothing is written and nothing is kept
abbrev pub LeavesAll : List ℕ → List ℕ → ℕ → ℕ → ReportSlot → ReportSlot → Type 0
LeavesAll old new before now was kept = AreKept old new before now × (kept ≡ was)

-- a limit is out of its range, or memory was refused, and nothing is written; or an answer with P is handed out or kept
abbrev pub HandsAnswer : GateSettings → (List ℕ → Status → Type 0) → List ℕ → List ℕ → ℕ → ℕ → ReportSlot → ReportSlot → ℕ → Type 0
HandsAnswer s P old new before now was kept answered =
    ((in_range s ≡ false) × (answered ≡ 64) × LeavesAll old new before now was kept)
    ⊎ ((in_range s ≡ true) × (((answered ≡ 70) × LeavesAll old new before now was kept)
    ⊎ ((text : List ℕ) × (status : Status) × P text status × HandsOrKeeps text status old new now was kept answered)))

-- the answer of the definition to a module, calls and limits, and its status
abbrev pub IsAnswerTo : List ℕ → List ℕ → GateSettings → List ℕ → Status → Type 0
IsAnswerTo bytes calls s text status = IsSomeAnswer bytes calls (limits_of s) text × HasStatus bytes calls status

-- that to an accepted module
abbrev pub IsAnswerOf : AcceptedModule → List ℕ → GateSettings → List ℕ → Status → Type 0
IsAnswerOf a calls s text status = IsAnswerOn a calls (limits_of s) text × StatusBy calls Accepted status
