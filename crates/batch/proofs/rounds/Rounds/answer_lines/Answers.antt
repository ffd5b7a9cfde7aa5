use Rattle.std.proofs.Common.{[], refl, subst}
use Rattle.wstore.specs.CallLimits.{limits_of}
use Rattle.batch.specs.Streams.{IsFront}
use Rattle.batch.proofs.Streamed.{nothing_answered, round_room, round_more, round_stops}
use Rattle.batch.proofs.rounds.Rounds.answer_lines.Goals as goal

pub rounds-init : goal.rounds-init
rounds-init g c = ([], refl, nothing_answered _ _ _ _)

pub answer_round-requires-after_bounds : goal.answer_round-requires-after_bounds
answer_round-requires-after_bounds g c = λ _ _.
    let (done, split, h) = c.rounds.invariant in
    let (first, split', some, said) = subst (IsFront c.rounds.rest.now) c.in-Calls.is c.in_ok-calls.ensures in
    round_room c.args.self.now.accepted.now (limits_of c.args.self.now.settings) c.args.text.now done c.rounds.rest.now first c.in-Calls.behind.now c.args.progress.now.tally c.rounds.progress.tally _ _ c.in-Calls.calls.items c.deref.result.now
    split split' h c.deref.ensures.value said c.requires

pub returns-in-Err : goal.returns-in-Err
returns-in-Err g c =
    let (done, split, h) = c.rounds.invariant in
    let (first, split', some, said) = subst (IsFront c.rounds.rest.now) c.in-Calls.is c.in_ok-calls.ensures in
    round_stops c.args.self.now.accepted.now (limits_of c.args.self.now.settings) c.in-Err.fault c.args.text.now done c.rounds.rest.now first c.in-Calls.behind.now c.args.progress.now.tally c.rounds.progress.tally c.answer_round.new.progress.tally _ _ _
    c.in-Calls.calls.items c.deref.result.now split split' h c.deref.ensures.value said c.in-Err.ensures

pub rounds-preserved : goal.rounds-preserved
rounds-preserved g c =
    let (done, split, h) = c.rounds.invariant in
    let (first, split', some, said) = subst (IsFront c.rounds.rest.now) c.in-Calls.is c.in_ok-calls.ensures in
    round_more c.args.self.now.accepted.now (limits_of c.args.self.now.settings) c.args.text.now done c.rounds.rest.now first c.in-Calls.behind.now c.args.progress.now.tally c.rounds.progress.tally c.answer_round.new.progress.tally _ _ _
    c.in-Calls.calls.items c.deref.result.now split split' h c.deref.ensures.value said c.in_default.ensures
