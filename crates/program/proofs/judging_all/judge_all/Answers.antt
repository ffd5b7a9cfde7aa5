use denote.Ref.{Bor}
use Rattle.std.proofs.Common.{ℕ, List, [], Option, Result, get_or, subst, sym}
use Rattle.std.specs.Prelude.{IfSome}
use Rattle.std.proofs.lemmas.Option.{slice_get-get_or}
use Rattle.refusal.specs.declared.refusal.Refusal.{Refusal}
use Rattle.program.specs.Verdicts.{IsJudged}
use Rattle.program.proofs.Settled.{found_here, one_more}
use Rattle.program.proofs.judging_all.judge_all.Goals as goal

pub settled-judged-requires-after_bounds : goal.settled-judged-requires-after_bounds
settled-judged-requires-after_bounds g c κs within =
    let none : Bor (List ℕ) = record { ref_ptr = (0, 0); now = [] } in
    subst (λ (o : Option (Result (Unit {0}) Refusal)). IfSome o (IsJudged (get_or c.args.modules.now c.loop-position.position none).now)) (sym c.index.ensures)
    (found_here c.args.modules.now c.in_ok-found.found.items c.loop-position.position c.index.result.now none c.loop-position-test.true c.in_ok-found.ensures)

pub loop-position-preserved : goal.loop-position-preserved
loop-position-preserved g c =
    let none : Bor (List ℕ) = record { ref_ptr = (0, 0); now = [] } in
    let items = c.in_ok-push.ensures.items in
    rw items (
    one_more c.args.modules.now c.loop-position.position (get_or c.args.modules.now c.loop-position.position none) c.loop-position.verdicts.items c.settled-judged.result c.loop-position-test.true
    (slice_get-get_or c.args.modules.now c.loop-position.position none c.loop-position-test.true) c.loop-position.invariant
    c.settled-judged.ensures
    )
