use Rattle.std.proofs.Common.{◌≡◌, ◌≤◌, true, length, slice_index_or, arith}
use Rattle.std.specs.Prelude.{is_ok}
use Rattle.std.proofs.lemmas.Option.{slice_get-get_or}
use Rattle.batch.specs.Ends.{GivesLine}
use Rattle.batch.proofs.GroupedLines.{give_more, part_given}
use Rattle.batch.proofs.groups.GroupedCallsJob.run.Goals as goal
use Rattle.batch.proofs.groups.GroupedCallsJob.run.Goals.{in-Ok-callee, in-Err}

pub loop-position-preserved : goal.loop-position-preserved
loop-position-preserved g c =
    let runner = c.args.self.now.runner in
    let calls = (slice_index_or c.args.self.now.groups.now c.args.index c.index-self-index.result).calls.now in
    let ok : is_ok c.push.result ≡ true = c.if-is_err.ensures.negation in
    let items = rw ok at c.push.ensures.items in
    let given : GivesLine runner.accepted.now runner.settings c.call-item.result c.match-callee.line = elim c.match-callee.branch [
      | in-Ok-callee w ↦ rw w.line-is w.line-line.ensures
      | in-Err w ↦ rw w.line-is w.in-Err.ensures.refused
    ] in
    rw items (give_more runner.accepted.now runner.settings calls c.loop-position.position c.call-item.result c.loop-position.lines.items c.match-callee.line c.loop-position-test.true c.call-item.is c.loop-position.invariant given)

pub returns-clause-answer : goal.returns-clause-answer
returns-clause-answer g c =
    let runner = c.args.self.now.runner in
    let group = slice_index_or c.args.self.now.groups.now c.args.index c.index-self-index.result in
    let past : length group.calls.now ≤ c.loop-position.position = omega arith in (
      tt,
      (
        group,
        slice_get-get_or c.args.self.now.groups.now c.args.index c.index-self-index.result c.requires.index,
        part_given runner.accepted.now runner.settings group c.loop-position.position c.loop-position.lines.items c.deref.result.now c.in-Ok-of.part past c.loop-position.invariant c.deref.ensures.value c.in-Ok-of.ensures,
      ),
    )
