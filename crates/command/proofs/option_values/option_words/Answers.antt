use Rattle.std.proofs.Common.{◌≡◌, [], ◌∙◌, ap, arith, codes, false, get_or, map, sym, take, take_all}
use Rattle.std.proofs.lemmas.List.{get_or-map}
use Rattle.std.specs.Str.{bytes_eq}
use Rattle.command.proofs.Found.{texts_before_first}
use Rattle.command.proofs.option_values.option_words.Goals as goal
use borrow.Author.Count.{below_more}

pub returns-then-eq : goal.returns-then-eq
returns-then-eq c =
    let here = get_or-map (λ w. w.now) c.args.words.now c.loop-i.i record { ref_ptr = (0, 0); now = [] } [] c.loop-i-test.true in
    texts_before_first (λ w. w.now) (λ word. bytes_eq word (codes "--")) c.args.words.now c.loop-i.i (omega arith) c.loop-i.invariant (λ _. rw here (sym c.eq.ensures ∙ c.if-eq.true))

pub loop-i-preserved : goal.loop-i-preserved
loop-i-preserved c =
    let here = get_or-map (λ w. w.now) c.args.words.now c.loop-i.i record { ref_ptr = (0, 0); now = [] } [] c.loop-i-test.true in
    below_more (λ k. bytes_eq (get_or (map (λ w. w.now) c.args.words.now) k []) (codes "--") ≡ false) c.loop-i.i c.loop-i.invariant (rw here (sym c.eq.ensures ∙ c.if-eq.false))

pub returns : goal.returns
returns c =
    let whole : take c.loop-i.i c.args.words.now ≡ c.args.words.now = take_all c.loop-i.i c.args.words.now (omega arith) in
    ap (map (λ w. w.now)) (sym whole) ∙ texts_before_first (λ w. w.now) (λ word. bytes_eq word (codes "--")) c.args.words.now c.loop-i.i (omega arith) c.loop-i.invariant (λ lt. absurd (omega arith))
