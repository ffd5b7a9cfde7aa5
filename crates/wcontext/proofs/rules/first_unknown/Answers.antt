use Rattle.std.proofs.Common.{◌<◌, refl}
use Rattle.std.proofs.lemmas.List.Elements.{All-more}
use Rattle.wcontext.proofs.Firsts.{each_right}
use Rattle.wcontext.proofs.rules.first_unknown.Goals as goal

pub loop-position-preserved : goal.loop-position-preserved
loop-position-preserved c = All-more (λ y. y < c.args.count) c.args.indices.now c.loop-position.position 0 c.loop-position-test.true c.loop-position.invariant c.if-index-count.false

pub returns : goal.returns
returns c = each_right (λ y. y < c.args.count) c.args.indices.now _ c.loop-position.position refl c.loop-position-test.false c.loop-position.invariant
