use Rattle.std.proofs.Common.{List, map, sym, ap, ◌∙◌}
use Rattle.wsyntax.specs.declared.module.Global.{Global}
use Rattle.wsyntax.specs.Modules.{module_shape, global_shape}
use Rattle.wsyntax.specs.Execution.Start.{any}
use Rattle.accepted_module.specs.Floats.{global_has_floats}
use Rattle.accepted_module.proofs.Mentions.{second_is}
use Rattle.accepted_module.proofs.Floating.{types_tell}
use Rattle.accepted_module.proofs.floats.declarations_have_floats.Goals as goal

pub returns-else-types_have_floats : goal.returns-else-types_have_floats
returns-else-types_have_floats c =
    second_is _ _ _ (sym c.types_have_floats.ensures ∙ c.if-types_have_floats.false)
    (c.globals_have_floats.ensures ∙ ap (λ (gs : List Global). any global_has_floats (map global_shape gs)) c.deref.ensures.value)
    ∙ types_tell (module_shape c.args.module.now) c.requires.globals c.requires.elements c.requires.segments
