use Rattle.wstore.specs.CallLimits.{limits_of}
use Rattle.batch.specs.declared.stream_fault.StreamFault.TheVariants.{Memory}
use Rattle.std.proofs.Common.{Err}
use Rattle.batch.proofs.Streamed.{stream_as_run, stream_unbegun}
use Rattle.batch.proofs.streaming.stream.Goals as goal

pub returns : goal.returns
returns g c = record {
  written = c.answer_stream.ensures.written;
  answer = stream_as_run c.args.accepted.now (limits_of c.args.settings) _ _ _ _ c.answer_stream.ensures.written;
  status = c.answer_stream.ensures.status;
}

pub returns-in_default : goal.returns-in_default
returns-in_default g c = record {
  written = stream_unbegun c.args.accepted.now (limits_of c.args.settings) (g.F.Read.remaining c.args.calls.now) (g.O.Write.contents c.args.out.now);
  answer = stream_as_run c.args.accepted.now (limits_of c.args.settings) (g.F.Read.remaining c.args.calls.now) (g.O.Write.contents c.args.out.now) (g.O.Write.contents c.args.out.now) (Err Memory)
      (stream_unbegun c.args.accepted.now (limits_of c.args.settings) (g.F.Read.remaining c.args.calls.now) (g.O.Write.contents c.args.out.now));
  status = tt;
}
