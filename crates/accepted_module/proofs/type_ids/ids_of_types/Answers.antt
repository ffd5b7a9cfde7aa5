use Rattle.std.proofs.Common.{◌≡◌, ◌∙◌, ℕ, ◌+◌, length, set, sym, subst, arith, inl, inr}
use Rattle.accepted_module.proofs.GivenIds.{AreGiven, IsRun, as_many, given_all, given_step, low_at, read, run_more}
use Rattle.accepted_module.proofs.type_ids.ids_of_types.Goals as goal
use Rattle.accepted_module.proofs.type_ids.ids_of_types.Goals.{then-is_ne, else-is_ne}

pub overflow_cast-first : goal.overflow_cast-first
overflow_cast-first c =
    let many = as_many c.args.types.now c.in_ok-indices.indices.items c.in_ok-indices.ensures.each in
    elim c.if-is_ne.branch [
      | then-is_ne w ↦ omega (arith, w.first-is, many)
      | else-is_ne w ↦ omega (arith, w.first-is, many, c.loop-position.invariant.run.low)
    ]

pub index_mut-requires : goal.index_mut-requires
index_mut-requires c =
    let is = read c.in_ok-indices.indices.items c.loop-position.position c.index-in-loop-position-2.result.now (omega arith) c.index-in-loop-position-2.ensures in
    let low = low_at c.args.types.now c.in_ok-indices.indices.items c.loop-position.position c.in_ok-indices.ensures.each (omega arith) in
    omega (arith, is, low, c.loop-position.invariant.count)

pub loop-position-preserved : goal.loop-position-preserved
loop-position-preserved c =
    let types = c.args.types.now in
    let indices = c.in_ok-indices.indices.items in
    let position = c.loop-position.position in
    let next = c.if-is_ne.first in
    let run : IsRun types indices next (position + 1) =
    run_more types indices c.loop-position.first next position c.index.result.now c.index-in-loop-position.result.now c.compare.result c.in_ok-indices.ensures.sorted (omega arith)
    c.index.ensures c.index-in-loop-position.ensures c.compare.ensures c.loop-position.invariant.run
    (elim c.if-is_ne.branch [
      | then-is_ne w ↦ inl (sym c.is_ne.ensures ∙ w.if-is_ne.true, w.first-is)
      | else-is_ne w ↦ inr (sym c.is_ne.ensures ∙ w.if-is_ne.false, w.first-is)
    ])
    in
    let is = read indices position c.index-in-loop-position-2.result.now (omega arith) c.index-in-loop-position-2.ensures in
    subst (λ (y : ℕ). AreGiven types indices next (position + 1) (set c.loop-position.ids.items y next)) (sym is)
    (given_step types indices c.loop-position.first next position c.loop-position.ids.items (omega arith) (low_at types indices position c.in_ok-indices.ensures.each (omega arith)) run c.loop-position.invariant)

pub returns : goal.returns
returns c =
    let types = c.args.types.now in
    let indices = c.in_ok-indices.indices.items in
    let all : c.loop-position.position ≡ length indices = omega arith in
    given_all types indices c.loop-position.first c.loop-position.ids.items c.in_ok-indices.ensures.each
    (subst (λ (k : ℕ). AreGiven types indices c.loop-position.first k c.loop-position.ids.items) all c.loop-position.invariant)
