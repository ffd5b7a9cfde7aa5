use Rattle.std.proofs.Common.{ℕ, sym, subst, All, ◌∙◌}
use Rattle.std.proofs.lemmas.List.Elements.{All-take}
use Rattle.pieces.specs.Shares.{EachShare, IsFresh}
use Rattle.pieces.specs.Bags.{AreSharesOf}
use Rattle.pieces.specs.Gathered.{Gathers}
use Rattle.pieces.proofs.AllWorkers.{all_ready, pairs, crew_after, run_once, gathered}
use Rattle.pieces.proofs.gathering.gather.Goals as goal

pub run_crew-crew-requires-clause-ready : goal.run_crew-crew-requires-clause-ready
run_crew-crew-requires-clause-ready g c κs within =
    let o = c.in_ok-bag.ensures in let m = c.in_ok-crew.ensures in
    let crew = subst (AreSharesOf c.in_ok-bag.bag c.in_ok-bag.mark) (sym m.shares) o.crew in
    all_ready c.in_ok-bag.bag c.in_ok-bag.mark _ c.in_ok-crew.crew.items crew.each_in crew.each_on (subst (EachShare IsFresh) (sym m.shares) o.fresh)
    (subst (All (g.J.Job.belongs c.args.job.now)) (sym (m.locals ∙ c.truncate.ensures.items)) (All-take (g.J.Job.belongs c.args.job.now) _ c.args.locals.items c.requires.locals.1)) m.none

pub settle-settled-requires : goal.settle-settled-requires
settle-settled-requires g c =
    let crew = subst (AreSharesOf c.in_ok-bag.bag c.in_ok-bag.mark) (sym c.in_ok-crew.ensures.shares) c.in_ok-bag.ensures.crew in
    let p = pairs _ c.in_ok-crew.crew.items c.run_crew-crew.result.items (sym c.run_crew-crew.ensures.len) c.run_crew-crew.ensures.each in
    (_, _, _, subst (AreSharesOf c.in_ok-bag.bag c.in_ok-bag.mark) (sym c.in_ok-shares.ensures.shares) (crew_after c.in_ok-bag.bag c.in_ok-bag.mark _ _ _ c.in_ok-crew.crew.items c.run_crew-crew.result.items p crew))

pub sorted-requires : goal.sorted-requires
sorted-requires g c =
    let p = pairs _ c.in_ok-crew.crew.items c.run_crew-crew.result.items (sym c.run_crew-crew.ensures.len) c.run_crew-crew.ensures.each in
    run_once c.in_ok-bag.bag c.in_ok-bag.mark _ _ _ c.in_ok-crew.crew.items c.run_crew-crew.result.items c.in_ok-shares.shares.items _ c.in_ok-shares.answers.items p
    c.in_ok-shares.ensures.whole c.in_ok-shares.ensures.shares c.settle-settled.ensures.logs c.settle-settled.ensures.told c.in_ok-shares.ensures.answers

pub returns : goal.returns
returns g c =
    let crew = subst (AreSharesOf c.in_ok-bag.bag c.in_ok-bag.mark) (sym c.in_ok-crew.ensures.shares) c.in_ok-bag.ensures.crew in
    let p = pairs _ c.in_ok-crew.crew.items c.run_crew-crew.result.items (sym c.run_crew-crew.ensures.len) c.run_crew-crew.ensures.each in
    subst (λ (k : ℕ). Gathers k (g.J.Job.passes c.args.job.now) (g.J.Job.gives c.args.job.now) (g.J.Job.refuses c.args.job.now) c.in_ok-all.all.items) c.in_ok-bag.ensures.bag.0
    (gathered c.in_ok-bag.bag c.in_ok-bag.mark _ _ _ c.in_ok-crew.crew.items c.run_crew-crew.result.items c.in_ok-shares.shares.items _ c.in_ok-shares.answers.items c.in_ok-all.all.items
    c.in_ok-bag.bag.sized crew p c.in_ok-shares.ensures.whole c.in_ok-shares.ensures.shares c.settle-settled.ensures.logs c.settle-settled.ensures.told
    c.in_ok-shares.ensures.answers c.in_ok-all.ensures.same c.in_ok-all.ensures.rises)
