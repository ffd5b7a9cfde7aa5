use Rattle.std.proofs.Common.{inl, inr}
use Rattle.std.proofs.KnownBytes.{Keeps-refl}
use Rattle.wstore.specs.CallLimits.{limits_of}
use Rattle.program.specs.Streams.{EndsAfter, StreamsOn}
use Rattle.program.proofs.Streamed.{accepted, after, both, ends_after, ends_before, passed, refused, streamed, unread}
use Rattle.program.proofs.streaming.stream_files.Goals as goal

pub returns-in_err-file-in-Ok-clause-streamed : goal.returns-in_err-file-in-Ok-clause-streamed
returns-in_err-file-in-Ok-clause-streamed g c =
    passed (StreamsOn (g.S.Source.holds c.args.source.now c.args.path.now) (g.S.Source.holds c.args.source.now c.args.calls.now) (limits_of c.args.settings) (g.O.Write.contents c.args.out.now) (g.O.Write.contents c.args.out.now))
    c.from_residual-in_err-file-in-Ok.result c.in_err-file-in-Ok.field-0.0 c.from_residual-in_err-file-in-Ok.ensures.1
    (unread (g.S.Source.holds c.args.source.now c.args.path.now) (g.S.Source.holds c.args.source.now c.args.calls.now) (limits_of c.args.settings) c.args.calls.now (g.O.Write.contents c.args.out.now) (g.O.Write.contents c.args.out.now)
    c.in_err-file-in-Ok.field-0.0 c.in_err-file-in-Ok.ensures.fault (Keeps-refl (g.O.Write.contents c.args.out.now)))

pub returns-in_err-file-in-Ok-clause-order : goal.returns-in_err-file-in-Ok-clause-order
returns-in_err-file-in-Ok-clause-order g c = inr (
  accepted (g.S.Source.holds c.args.source.now c.args.path.now) c.in_ok-bytes.bytes.items c.as_slice.result.now c.in_ok-bytes.ensures.known c.as_slice.ensures.value c.in-Ok.ensures.verdict,
  passed (EndsAfter c.args.calls.now) c.from_residual-in_err-file-in-Ok.result c.in_err-file-in-Ok.field-0.0 c.from_residual-in_err-file-in-Ok.ensures.1 (after c.args.calls.now c.in_err-file-in-Ok.field-0.0 c.in_err-file-in-Ok.ensures.fault),
  both (g.S.Source.asked c.args.source.now) (g.S.Source.asked c.read_file.new.source) (g.S.Source.asked c.open_file.new.source) c.args.path.now c.args.calls.now c.read_file.ensures.logged c.open_file.ensures.logged,
)

pub returns-in-Ok-clause-streamed : goal.returns-in-Ok-clause-streamed
returns-in-Ok-clause-streamed g c =
    streamed (g.S.Source.holds c.args.source.now c.args.path.now) (g.S.Source.holds c.args.source.now c.args.calls.now) (g.S.Source.holds c.read_file.new.source c.args.calls.now) (g.S.File.Read.remaining c.in_ok-file-in-Ok.file)
    (limits_of c.args.settings) c.in_ok-bytes.bytes.items c.as_slice.result.now c.args.calls.now c.in-Ok.accepted
    (g.O.Write.contents c.args.out.now) (g.O.Write.contents c.stream-streamed.new.out) c.stream-streamed.result c.end_of.result
    c.in_ok-bytes.ensures.known c.as_slice.ensures.value c.in-Ok.ensures.verdict c.in-Ok.ensures.parts (c.read_file.ensures.same c.args.calls.now) c.in_ok-file-in-Ok.ensures.known
    c.stream-streamed.ensures.written c.stream-streamed.ensures.answer c.stream-streamed.ensures.status c.end_of.ensures

pub returns-in-Ok-clause-order : goal.returns-in-Ok-clause-order
returns-in-Ok-clause-order g c = inr (
  accepted (g.S.Source.holds c.args.source.now c.args.path.now) c.in_ok-bytes.bytes.items c.as_slice.result.now c.in_ok-bytes.ensures.known c.as_slice.ensures.value c.in-Ok.ensures.verdict,
  ends_after c.args.calls.now c.stream-streamed.result c.end_of.result c.stream-streamed.ensures.status c.end_of.ensures,
  both (g.S.Source.asked c.args.source.now) (g.S.Source.asked c.read_file.new.source) (g.S.Source.asked c.open_file.new.source) c.args.path.now c.args.calls.now c.read_file.ensures.logged c.open_file.ensures.logged,
)

pub returns-clause-streamed : goal.returns-clause-streamed
returns-clause-streamed g c =
    refused (g.S.Source.holds c.args.source.now c.args.path.now) (g.S.Source.holds c.args.source.now c.args.calls.now) (limits_of c.args.settings) c.in_ok-bytes.bytes.items c.as_slice.result.now c.in-Err.refusal c.verdict_line-line.result
    (g.O.Write.contents c.args.out.now) (g.O.Write.contents c.show_text.new.out) c.show_text.result
    c.in_ok-bytes.ensures.known c.as_slice.ensures.value c.in-Err.ensures.verdict c.verdict_line-line.ensures c.show_text.ensures

pub returns-clause-order : goal.returns-clause-order
returns-clause-order g c = inl (
  ends_before c.args.path.now c.verdict_line-line.result (g.O.Write.contents c.args.out.now) (g.O.Write.contents c.show_text.new.out) c.show_text.result c.show_text.ensures,
  c.read_file.ensures.logged,
)
