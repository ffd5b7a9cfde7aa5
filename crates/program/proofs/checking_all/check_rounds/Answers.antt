use Rattle.std.proofs.Common.{◌-◌, ap, length, drop, take, arith, ◌∙◌}
use Rattle.std.proofs.lemmas.List.{length-drop}
use Rattle.program.proofs.Rounds.{rest_whole, rounds_begun, rounds_printed}
use Rattle.program.proofs.checking_all.check_rounds.Goals as goal

pub returns-in-Err-clause-begun : goal.returns-in-Err-clause-begun
returns-in-Err-clause-begun g c =
    rounds_begun (g.S.Source.holds c.args.source.now) (g.S.Source.holds c.loop-done.source) c.args.names.now c.loop-done.done (take (length c.args.names.now - c.loop-done.done) (drop c.loop-done.done c.args.names.now)) (g.S.Source.asked c.args.source.now) (g.S.Source.asked c.loop-done.source) (g.S.Source.asked c.check_round.new.source)
    (g.O.Write.contents c.args.out.now) (g.O.Write.contents c.loop-done.out) (g.O.Write.contents c.check_round.new.out) c.loop-done.file_outcome c.in-Err.fault
    (rest_whole c.args.names.now c.loop-done.done) c.loop-done.invariant.same c.loop-done.invariant.printed c.in-Err.ensures.begun

pub loop-done-preserved : goal.loop-done-preserved
loop-done-preserved g c = record {
  within = omega (arith, ap length (rest_whole c.args.names.now c.loop-done.done), length-drop c.loop-done.done c.args.names.now, c.in-Ok.ensures.within, c.loop-done.invariant.within);
  same = λ other. c.check_round.ensures.same other ∙ c.loop-done.invariant.same other;
  printed = rounds_printed (g.S.Source.holds c.args.source.now) (g.S.Source.holds c.loop-done.source) c.args.names.now c.loop-done.done c.in-Ok.round.count (take (length c.args.names.now - c.loop-done.done) (drop c.loop-done.done c.args.names.now)) (g.S.Source.asked c.args.source.now) (g.S.Source.asked c.loop-done.source) (g.S.Source.asked c.check_round.new.source)
      (g.O.Write.contents c.args.out.now) (g.O.Write.contents c.loop-done.out) (g.O.Write.contents c.check_round.new.out) c.loop-done.file_outcome c.in-Ok.round.file_outcome c.or-file_outcome.result
      (rest_whole c.args.names.now c.loop-done.done) c.loop-done.invariant.same c.loop-done.invariant.printed c.in-Ok.ensures.printed c.or-file_outcome.ensures;
}
