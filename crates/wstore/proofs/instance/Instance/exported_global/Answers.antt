use Rattle.std.proofs.Math.Logic.{∥∥₁_elim}
use Rattle.std.proofs.Props.{props}
use Rattle.wsyntax.specs.declared.module.ExportKind.TheVariants.{Global}
use Rattle.wsyntax.specs.Modules.{ModuleShape}
use Rattle.accepted_module.specs.Exports.{IsExported}
use Rattle.wstore.specs.Views.{module_in, store_in}
use Rattle.wstore.proofs.ExportedItems.{exported_within, global_of, nothing_found, other_found, none_is}
use Rattle.wstore.proofs.instance.Instance.exported_global.Goals as goal

pub global-requires : goal.global-requires
global-requires c =
    let m : ModuleShape = module_in c.args.self.now in
    let exported : IsExported m c.args.name.now Global c.in_ok-kind.x = global_of m _ _ _ c.in-Global.is ((c.export.ensures.some c.in_ok-kind.kind c.in_ok-kind.x).0 c.in_ok-kind.was) in
    ∥∥₁_elim c.accepted_holds.ensures (hlevel props) (λ j. exported_within m c.args.name.now c.in_ok-kind.x j.rules exported)

pub returns-in_err-kind : goal.returns-in_err-kind
returns-in_err-kind c =
    none_is (module_in c.args.self.now) (store_in c.args.self.now) c.args.name.now c.from_residual.result c.from_residual.ensures (λ x e. nothing_found c.export.result (Global, x) c.in_err-kind.was ((c.export.ensures.some Global x).1 e))

pub returns-in_default : goal.returns-in_default
returns-in_default c x e =
    other_found c.export.result c.in_ok-kind.kind c.in_ok-kind.x x c.in_ok-kind.was c.in_default.not-Global ((c.export.ensures.some Global x).1 e)

pub returns : goal.returns
returns c =
    let m : ModuleShape = module_in c.args.self.now in
    (c.in_ok-kind.x, global_of m _ _ _ c.in-Global.is ((c.export.ensures.some c.in_ok-kind.kind c.in_ok-kind.x).0 c.in_ok-kind.was), c.global.ensures)
