use Rattle.std.proofs.Common.{◌≢◌}
use Rattle.std.proofs.lemmas.Result.{IfOk-weaker}
use Rattle.wsyntax.specs.Modules.{export_shape}
use Rattle.wcontext.proofs.Shapes.{pairs_shapes}
use Rattle.wcontext.proofs.rules.exports_distinct.Goals as goal

pub returns : goal.returns
returns c =
    IfOk-weaker c.are_distinct.result _ _
    (λ b test. pairs_shapes export_shape (λ x y. x.item_name ≢ y.item_name) c.args.module.now.exports.items _ b c.deref.ensures.value test)
    c.are_distinct.ensures
