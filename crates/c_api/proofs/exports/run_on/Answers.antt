use Rattle.std.proofs.Common.{◌≡◌, ◌⊎◌, ℕ, List, true, inl, inr, sym, subst, string_bytes}
use Rattle.std.proofs.Math.Logic.{∥∥₁_map}
use Rattle.wsyntax.specs.Validation.Verdict.{Accepted}
use Rattle.wsyntax.specs.Texts.Answer.{Limits}
use Rattle.accepted_module.specs.declared.accepted.Accepted.{Accepted as AcceptedModule}
use Rattle.wstore.specs.CallLimits.{limits_of}
use Rattle.batch.specs.Answers.{IsAnswerOn, StatusBy}
use Rattle.batch.specs.declared.status.Status.{Status}
use Rattle.c_api.specs.Handed.{HandsOrKeeps}
use Rattle.c_api.specs.Handles.{IsOfBytes, IsAnswered}
use Rattle.c_api.specs.Runs.{HandsAnswer, IsAnswerOf, LeavesAll, in_range}
use Rattle.c_api.specs.Runs as runs
use Rattle.c_api.specs.declared.report.ReportSlot.{ReportSlot}
use Rattle.c_api.specs.declared.settings.GateSettings.{GateSettings}
use Rattle.c_api.proofs.Spelled.{spelled}
use Rattle.c_api.proofs.exports.run_on.Goals as goal

-- an answer on a module that is kept of some bytes is an answer to these
answered : (a b : AcceptedModule) (calls : List ℕ) (l : Limits) (text : List ℕ) (status : Status)
    → b ≡ a → ∥ IsOfBytes a ∥₁ → IsAnswerOn b calls l text → StatusBy calls Accepted status → ∥ IsAnswered text status ∥₁
answered a b calls l text status same kept answer by =
    ∥∥₁_map kept (λ (h : IsOfBytes a).
    let on : IsAnswerOn a calls l text = subst (λ (x : AcceptedModule). IsAnswerOn x calls l text) same answer in
    (h.0, calls, l, on h.0 h.1 (spelled h.0 a h.2), (Accepted, h.1, by)))

-- what is handed out is an answer on the module, within these limits
handed : (a b : AcceptedModule) (calls : List ℕ) (s : GateSettings) (l : Limits) (text : List ℕ) (status : Status) (old new : List ℕ) (before now : ℕ) (was kept : ReportSlot) (code : ℕ)
    → b ≡ a → l ≡ runs.limits_of s → in_range s ≡ true → IsAnswerOn b calls l text → StatusBy calls Accepted status
    → ((code ≡ 70) × LeavesAll old new before now was kept) ⊎ HandsOrKeeps text status old new now was kept code
    → HandsAnswer s (IsAnswerOf a calls s) old new before now was kept code
handed a b calls s l text status old new before now was kept code same within range answer by (inl left) = inr (range, inl left)
handed a b calls s l text status old new before now was kept code same within range answer by (inr hands) =
    let on : IsAnswerOn b calls (runs.limits_of s) text = subst (λ (x : Limits). IsAnswerOn b calls x text) within answer in
    inr (range, inr (text, status, (subst (λ (x : AcceptedModule). IsAnswerOn x calls (runs.limits_of s) text) same on, by), hands))

pub hand_out-requires : goal.hand_out-requires
hand_out-requires c =
    answered c.args.held.now.accepted.value c.deref.result.now c.args.calls.now (limits_of c.in-Some.limits) (string_bytes c.in-Ok.answer.text) c.in-Ok.answer.status
    c.deref.ensures c.args.held.now.of_bytes c.in-Ok.ensures.answer c.in-Ok.ensures.status

pub returns-in-Ok : goal.returns-in-Ok
returns-in-Ok c =
    handed c.args.held.now.accepted.value c.deref.result.now c.args.calls.now c.args.settings.now (limits_of c.in-Some.limits) (string_bytes c.in-Ok.answer.text) c.in-Ok.answer.status
    c.args.out.now c.hand_out.new.out c.args.length.now c.hand_out.new.length c.args.kept.now c.hand_out.new.kept c.hand_out.result
    c.deref.ensures c.in-Some.ensures.limits (sym c.in-Some.ensures.range) c.in-Ok.ensures.answer c.in-Ok.ensures.status c.hand_out.ensures
