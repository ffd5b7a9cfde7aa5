use Rattle.std.proofs.Common.{◌≡◌, ◌∙◌}
use Rattle.wsyntax.specs.Modules.{module_shape}
use Rattle.wsyntax.specs.Execution.Start.{layout_of}
use Rattle.soundness.specs.Slots.{slots}
use Rattle.wstore.proofs.Globals.{joined}
use Rattle.wstore.proofs.fresh.fresh_parts.Goals as goal

pub returns-clause-fresh : goal.returns-clause-fresh
returns-clause-fresh c =
    let words : c.in-Ok.globals.items ≡ slots (layout_of (module_shape c.args.module.now)).globals = c.in-Ok.ensures.items ∙ c.globals.ensures ∙ c.requires.laid.globals in
    joined c.in_ok-memory.ensures.memory c.in-Ok-module_table.ensures words
