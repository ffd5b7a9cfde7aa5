use Rattle.std.proofs.Common.{◌≡◌, [], length, List, length-append, take, sym, ap, subst, arith}
use Rattle.std.proofs.lemmas.List.{take_all}
use Rattle.batch_text.specs.Slices.{joined_calls}
use Rattle.batch_text.specs.declared.call.Call.{Call}
use Rattle.batch.specs.Groups.{AddsGroups}
use Rattle.batch.proofs.GroupedLines.{adds_both, few_groups, slice_more, slice_fits}
use Rattle.batch.proofs.groups.groups_of.Goals as goal

pub push_groups-requires-clause-few : goal.push_groups-requires-clause-few
push_groups-requires-clause-few c =
    let fits = slice_fits c.args.slices.now c.loop-calls.calls-index c.calls-item.result c.loop-calls-test.true c.calls-item.is c.requires.few in
    omega (arith, fits, c.loop-calls.invariant.counted, ap length c.deref.ensures.value)

pub overflow_cast-first : goal.overflow_cast-first
overflow_cast-first c =
    let fits = slice_fits c.args.slices.now c.loop-calls.calls-index c.calls-item.result c.loop-calls-test.true c.calls-item.is c.requires.few in
    omega (arith, fits, c.len.ensures)

pub overflow_add-first : goal.overflow_add-first
overflow_add-first c =
    let fits = slice_fits c.args.slices.now c.loop-calls.calls-index c.calls-item.result c.loop-calls-test.true c.calls-item.is c.requires.few in
    omega (arith, fits, c.loop-calls.invariant.counted, c.len.ensures)

pub loop-calls-preserved : goal.loop-calls-preserved
loop-calls-preserved c =
    let slices = c.args.slices.now in
    let i = c.loop-calls.calls-index in
    let more = slice_more slices i c.calls-item.result c.loop-calls-test.true c.calls-item.is in
    let added = subst (λ l. AddsGroups c.loop-calls.first l c.loop-calls.groups.items c.push_groups.new.groups.items) c.deref.ensures.value c.in_ok-push_groups.ensures in
    record {
      added = subst (λ (l : List Call). AddsGroups 0 l [] c.push_groups.new.groups.items) (sym more) (adds_both 0 c.loop-calls.first (joined_calls (take i slices)) c.calls-item.result.items [] c.loop-calls.groups.items c.push_groups.new.groups.items c.loop-calls.invariant.added (omega (arith, c.loop-calls.invariant.counted)) added);
      counted = omega (arith, c.loop-calls.invariant.counted, c.len.ensures, ap length more, length-append (joined_calls (take i slices)) c.calls-item.result.items);
    }

pub returns-clause-few : goal.returns-clause-few
returns-clause-few c =
    let (more, now, are) = c.loop-calls.invariant.added in
    let many : length c.loop-calls.groups.items ≡ length more = ap length now in
    let all = take_all c.loop-calls.calls-index c.args.slices.now c.loop-calls-test.false in
    omega (arith, few_groups 0 (joined_calls (take c.loop-calls.calls-index c.args.slices.now)) more are, many, ap (λ l. length (joined_calls l)) all)
