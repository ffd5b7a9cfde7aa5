use Rattle.std.proofs.Common.{sym}
use Rattle.std.specs.Str.{is_utf8}
use Rattle.std.proofs.lemmas.Str.{IsUtf8-from_is_utf8, is_utf8-from_IsUtf8}
use Rattle.wdecode.proofs.OneToken.{not_it}
use Rattle.explain_bytes.proofs.shell.primitives.is_text.Goals as goal

pub returns-in-Err : goal.returns-in-Err
returns-in-Err c = sym (not_it (is_utf8 c.args.bytes.now) (λ e. c.in-Err.ensures (IsUtf8-from_is_utf8 c.args.bytes.now e)))

pub returns-in-Ok : goal.returns-in-Ok
returns-in-Ok c = sym (is_utf8-from_IsUtf8 c.args.bytes.now c.in-Ok.ensures.1)
