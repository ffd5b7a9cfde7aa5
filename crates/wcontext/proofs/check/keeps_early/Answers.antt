use Rattle.std.proofs.Common.{ℕ, ◌≡◌, ◌<◌, length, arith}
use Rattle.wsyntax.specs.Modules.{module_shape, global_shape}
use Rattle.wsyntax.specs.Validation.ModuleContext.{imported_globals}
use Rattle.wsyntax.specs.Validation.Rules.{ConstantOf, InOrder, WithinRange}
use Rattle.wsyntax.specs.declared.types.Limits.{Limits}
use Rattle.wsyntax.specs.declared.module.Table.{Table}
use Rattle.wcontext.proofs.Firsts.{none_found}
use Rattle.wcontext.proofs.check.keeps_early.Goals as goal

pub returns-in-2 : goal.returns-in-2
returns-in-2 c = rw c.in-2.is (none_found (λ (y : ℕ). y) (λ y. y < length (module_shape c.args.module.now).types) _ c.first_untyped_import.result _ c.is_none.ensures c.first_untyped_import.ensures)

pub returns-in-3 : goal.returns-in-3
returns-in-3 c = rw c.in-3.is (none_found (λ (y : ℕ). y) (λ y. y < length (module_shape c.args.module.now).types) _ c.first_untyped_function.result _ c.is_none-in-3.ensures c.first_untyped_function.ensures)

pub returns-in-4 : goal.returns-in-4
returns-in-4 c = rw c.in-4.is (none_found (λ (t : Table). t) (λ t. InOrder t.limits) _ c.first_unordered_table.result _ c.is_none-in-4.ensures c.first_unordered_table.ensures)

pub returns-in-5 : goal.returns-in-5
returns-in-5 c = rw c.in-5.is (none_found (λ (l : Limits). l) (WithinRange 65536) _ c.first_unlimited_memory.result _ c.is_none-in-5.ensures c.first_unlimited_memory.ensures)

pub returns-in_default : goal.returns-in_default
returns-in_default c =
    let last : c.args.rule ≡ 8 = omega arith in
    rw last (none_found global_shape (λ g. ConstantOf (imported_globals (module_shape c.args.module.now)) g.global_type.val_type g.init) _ c.first_inconstant_global.result _ c.is_none-in_default.ensures c.first_inconstant_global.ensures)
