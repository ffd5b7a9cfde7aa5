use Rattle.std.proofs.Common.{◌≡◌, ◌+◌, ◌≤◌, ◌∙◌, ap, length, length-append, subst, arith, take}
use Rattle.std.proofs.lemmas.List.{take_all}
use Rattle.wsyntax.specs.Texts.Calls.{line_limit}
use Rattle.batch_text.specs.Slices.{joined_calls}
use Rattle.batch_text.proofs.SlicedTexts.{count_more, count_all, calls_said}
use Rattle.batch_text.proofs.slices.count_calls.Goals as goal

pub returns-then-len-count : goal.returns-then-len-count
returns-then-len-count c =
    let read = c.args.read.now in
    let i = c.loop-calls.calls-index in
    let more = ap length (count_more read i c.calls-item.result c.loop-calls-test.true c.calls-item.is) ∙ length-append (joined_calls (take i read)) c.calls-item.result.items in
    omega (arith, more, count_all read (i + 1), c.loop-calls.invariant.counted, c.loop-calls.invariant.few, c.len.ensures, c.if-len-count.true)

pub returns : goal.returns
returns c =
    let read = c.args.read.now in
    let all : take c.loop-calls.calls-index read ≡ read = take_all c.loop-calls.calls-index read (omega (arith, c.loop-calls-test.false)) in
    let counted : c.loop-calls.count ≡ length (joined_calls read) = c.loop-calls.invariant.counted ∙ ap (λ l. length (joined_calls l)) all in
    (counted, c.loop-calls.invariant.few, λ slices each small. calls_said read slices (subst (λ n. n ≤ line_limit) counted c.loop-calls.invariant.few) each small)
