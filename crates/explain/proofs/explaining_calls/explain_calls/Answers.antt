use Rattle.std.proofs.Common.{◌≡◌, true, rules}
use Rattle.std.specs.Prelude.{string_bytes}
use Rattle.explanation.specs.Told.{verdict_told}
use Rattle.explain.proofs.CallsTold.{both_accepted, refusal_is_told}
use Rattle.explain.proofs.explaining_calls.explain_calls.Goals as goal

pub returns-in-Ok : goal.returns-in-Ok
returns-in-Ok c = both_accepted c.args.bytes.now c.args.calls.now c.explain_on.result c.in-Ok.ensures.verdict c.explain_on.ensures.refused c.explain_on.ensures.explanation c.explain_on.ensures.text

pub returns-then-tells_refusal : goal.returns-then-tells_refusal
returns-then-tells_refusal c =
    let is : c.tells_refusal.result ≡ true = search rules in
    refusal_is_told c.args.bytes.now c.args.calls.now (string_bytes c.in_ok-text.text) (verdict_told c.explain-explanation.result) c.tells_refusal.result
    c.explain-explanation.ensures.verdict c.in_ok-text.ensures c.tells_refusal.ensures.refusal is
