use Rattle.std.proofs.Common.{ℕ, List, [], ◌++◌, arith, codes, get_or, map}
use Rattle.std.proofs.lemmas.List.{get_or-map}
use Rattle.command.specs.Options.{LacksOption}
use Rattle.command.proofs.option_values.option_text.Goals as goal
use borrow.Author.Count.{below_more}

pub loop-i-preserved : goal.loop-i-preserved
loop-i-preserved c = λ k d low lt. below_more (λ (k : ℕ). (d : List ℕ) → LacksOption (codes "--" ++ c.args.name.now) (get_or (map (λ w. w.now) c.args.words.now) k d)) c.loop-i.i
    (λ k lt d. c.loop-i.invariant k d (omega arith) lt)
    (λ d. rw (get_or-map (λ w. w.now) c.args.words.now c.loop-i.i record { ref_ptr = (0, 0); now = [] } d c.loop-i-test.true) c.in_default.ensures)
    k lt d
