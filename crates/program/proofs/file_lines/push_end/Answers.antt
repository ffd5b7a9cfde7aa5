use Rattle.std.specs.Prelude.{string_bytes}
use Rattle.program.proofs.Rounds.{end_known}
use Rattle.program.proofs.file_lines.push_end.Goals as goal

pub returns-in_ok-extend_from_slice-in-Bytes : goal.returns-in_ok-extend_from_slice-in-Bytes
returns-in_ok-extend_from_slice-in-Bytes c =
    (c.as_bytes.result.now, end_known c.args.taken.now c.in-Bytes.field-0 c.args.judged (string_bytes c.in_ok-verdict_line-in-Bytes.field-0) c.as_bytes.result.now c.of.result c.in-Bytes.is c.as_bytes.ensures.value c.in_ok-verdict_line-in-Bytes.ensures c.of.ensures, c.in_ok-extend_from_slice-in-Bytes.ensures.items)
