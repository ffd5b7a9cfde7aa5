use Rattle.std.proofs.Common.{Bor, ◌≡◌, ◌+◌, ℕ, List, None, map, subst, arith}
use Rattle.std.specs.Prelude.{MatchResult}
use Rattle.std.proofs.lemmas.List.{length-map}
use Rattle.verdict.specs.Judged.{body_refusal_at, IsBodyRefusal}
use Rattle.refusal.specs.Refusals.{AllowsRefusal}
use Rattle.verdict.proofs.Parts.{body_there}
use Rattle.verdict.proofs.jobs.judge_at.Goals as goal

pub returns-clause-verdict : goal.returns-clause-verdict
returns-clause-verdict c =
    let x = c.args.head.now.context in
    let bodies = c.as_slice-bodies.result.now in
    let count = length-map c.args.head.now.front.«module».bodies.items (λ b. b.now) in
    subst (λ (bs : List (Bor (List ℕ))). MatchResult c.judge_body.result
    (λ _. body_refusal_at x.context x.imported (map (λ b. b.now) bs) c.args.position ≡ None)
    (AllowsRefusal (IsBodyRefusal (x.imported + c.args.position) (body_refusal_at x.context x.imported (map (λ b. b.now) bs) c.args.position)))) c.as_slice-bodies.ensures.value
    (body_there _ _ _ _ c.args.position bodies _ _ c.requires.outside c.imported_functions-imported.ensures.count (omega (arith, count, c.as_slice-bodies.ensures.len, c.requires.position)) c.judge_body.ensures.verdict)
