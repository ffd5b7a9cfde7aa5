use Rattle.std.proofs.Common.{[], arith, sym, ◌∙◌}
use Rattle.std.proofs.lemmas.List.{get_or-map, length-map}
use Rattle.std.proofs.lemmas.Slice.Eq.{bytes_eq-Decides}
use Rattle.command.proofs.words.find_word.Goals as goal

pub returns-then-eq-clause-stands : goal.returns-then-eq-clause-stands
returns-then-eq-clause-stands c =
    let here = get_or-map (λ w. w.now) c.args.words.now c.loop-i.i record { ref_ptr = (0, 0); now = [] } [] c.loop-i-test.true in
    (omega (arith, c.loop-i-test.true, length-map c.args.words.now (λ w. w.now)), rw here ((bytes_eq-Decides _ _).0 (sym c.eq.ensures ∙ c.if-eq.true)))
