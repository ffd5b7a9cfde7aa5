use Rattle.std.proofs.Common.{◌≡◌, ◌<◌, ◌∙◌, Some, sym, ap, length, get_or, arith}
use Rattle.std.specs.Prelude.{slice_get}
use Rattle.std.proofs.lemmas.Option.{slice_get-get_or}
use Rattle.wsyntax.specs.Modules.{module_shape}
use Rattle.wsyntax.specs.Validation.ModuleContext.{module_context}
use Rattle.interpreter.specs.Seen.{seen}
use Rattle.accepted_module.specs.Judgement.{shapes_of}
use Rattle.wstore.proofs.Held.{as_many, global_there}
use Rattle.wstore.proofs.Globals.{declared_count, declared_at}
use Rattle.wstore.proofs.instance.Instance.global.Goals as goal

pub returns : goal.returns
returns c =
    let i = c.args.self.now in
    let C = module_context (module_shape i.accepted.now.module) in
    let bodies = shapes_of i.accepted.now.bodies.items in
    let words : length i.parts.globals.items ≡ length C.globals = as_many C (seen i.parts) i.held in
    let declared : length C.globals ≡ length i.accepted.now.module.globals.items = declared_count i.accepted.now.module bodies i.runnable in
    let below : c.args.x < length C.globals = c.requires in
    let global : c.index-global.result.now ≡ get_or i.accepted.now.module.globals.items c.args.x c.index-global.result.now = cc (c.index-global.ensures, c.module.ensures) in
    let word : slice_get i.parts.globals.items c.args.x ≡ Some c.index.result.now = slice_get-get_or i.parts.globals.items c.args.x c.index.result.now (omega arith) ∙ ap Some (sym c.index.ensures) in
    global_there C (seen i.parts) c.args.x c.index-global.result.now.global_type.val_type c.index.result.now c.value_in.result i.held
    (declared_at i.accepted.now.module bodies c.args.x c.index-global.result.now i.runnable (omega arith) global) word c.value_in.ensures
