use Rattle.wsyntax.specs.Modules.{global_shape}
use Rattle.wsyntax.specs.Execution.Start.{first_value}
use Rattle.soundness.specs.Slots.{bits}
use Rattle.accepted_module.proofs.Words.{one_more}
use Rattle.accepted_module.proofs.globals.first_words.Goals as goal

pub loop-global-preserved : goal.loop-global-preserved
loop-global-preserved c =
    one_more (λ g. bits (first_value (global_shape g))) c.args.globals.now c.loop-global.global-index c.global-item.result c.loop-global.words.items c.push.new.self.items c.first_word.result c.global-item.is c.loop-global-test.true c.loop-global.invariant c.first_word.ensures c.in_ok-push.ensures.items
