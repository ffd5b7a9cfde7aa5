use Rattle.std.proofs.Common.{codes, string_bytes}
use Rattle.wsyntax.specs.Texts.Report.{refusal_text}
use Rattle.wsyntax.specs.StartRefusals.{refusal_of}
use Rattle.batch_text.proofs.Joined.{two_parts}
use Rattle.batch_text.proofs.words.push_end.Goals as goal

pub returns-in_ok-push_str-in-NotStarted : goal.returns-in_ok-push_str-in-NotStarted
returns-in_ok-push_str-in-NotStarted c =
    rw c.in-NotStarted.is (two_parts c.push_refusal.result _ _ (string_bytes c.args.text.now) (codes "not-started ") (refusal_text (refusal_of c.in-NotStarted.refusal)) c.in_ok-push_str-in-NotStarted.ensures.bytes c.push_refusal.ensures)
