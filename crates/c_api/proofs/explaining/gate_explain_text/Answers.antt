use Rattle.std.proofs.Common.{◌≡◌, ◌∙◌, ℕ, Option, inr, subst}
use Rattle.std.specs.Prelude.{IfSome}
use Rattle.wsyntax.specs.Validation.Verdict.{Verdict}
use Rattle.c_api.specs.Texts.{Hands}
use Rattle.c_api.specs.Verdicts.{status_of}
use Rattle.c_api.proofs.explaining.gate_explain_text.Goals as goal

pub returns : goal.returns
returns c =
    let (v, judged, refused, says, begins) = c.in-Ok.ensures in
    let status : c.status_with.result ≡ status_of v = subst (λ (x : Option Verdict). IfSome x (λ v. c.status_with.result ≡ status_of v)) says c.status_with.ensures in
    let hands = subst (λ (s : ℕ). Hands c.as_bytes.result.now s c.args.out.now c.hand_text.new.out c.hand_text.new.length c.hand_text.result) status c.hand_text.ensures in
    inr (c.as_bytes.result.now, v, judged, (begins.0, c.as_bytes.ensures.value ∙ begins.1), hands)
