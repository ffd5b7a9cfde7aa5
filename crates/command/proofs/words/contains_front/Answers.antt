use Rattle.std.proofs.Common.{ℕ, List, [], Bor, get_or}
use Rattle.command.proofs.Found.{text_contained}
use Rattle.command.proofs.words.contains_front.Goals as goal

pub returns-then-begins_with : goal.returns-then-begins_with
returns-then-begins_with c =
    let none : Bor (List ℕ) = record { ref_ptr = (0, 0); now = [] } in
    λ _. ((get_or c.args.words.now c.loop-word.word-index none).now, c.begins_with.ensures c.if-begins_with.true, text_contained (λ w. w.now) c.args.words.now c.loop-word.word-index none c.loop-word-test.true)
