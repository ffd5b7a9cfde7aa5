use Rattle.std.proofs.Common.{◌≡◌, string_bytes}
use Rattle.wsyntax.specs.Texts.Lines.{verdict_line}
use Rattle.explanation.specs.Told.{verdict_told}
use Rattle.explain_json.specs.Objects.{IsVerdictObject}
use Rattle.explain_json.proofs.Objects.{told_too}
use Rattle.explain_json.proofs.object.explanation_object.Goals as goal

pub returns : goal.returns
returns c =
    told_too (verdict_told c.args.explanation.now) (λ v. string_bytes c.in_ok-line.line ≡ verdict_line v) (λ v bytes. IsVerdictObject v bytes.items) c.line_object.result c.in_ok-line.ensures c.line_object.ensures
