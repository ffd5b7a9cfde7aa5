-- What was read is answered, but for the beginning of a line that is held.
use Rattle.std.proofs.Common.{◌≡◌}
use Rattle.wsyntax.specs.Texts.Report.{none}
use Rattle.batch_text.specs.Totals.{tally as counts}
use Rattle.wstore.specs.CallLimits.{limits_of}
use Rattle.batch.proofs.Streamed.{IsStreaming}
use Rattle.batch.proofs.rounds.Rounds.answer_stream.Given as goal

abbrev pub invariant-loop : goal.invariant-loop
invariant-loop g l = record {
  streaming : IsStreaming l.self.accepted.now (limits_of l.self.settings) l.initial.progress.tally l.progress.tally l.counter l.held.items (g.F.Read.remaining l.initial.calls) (g.F.Read.remaining l.calls) (g.O.Write.contents l.initial.out) (g.O.Write.contents l.out);
  calls : l.initial.progress.tally.calls ≡ 0;
  counts : counts l.initial.progress.tally ≡ none;
}
