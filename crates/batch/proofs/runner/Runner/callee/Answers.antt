use Rattle.std.proofs.Common.{◌≡◌, ℕ, List, refl, subst}
use Rattle.wsyntax.specs.declared.module.ExportKind.{ExportKind}
use Rattle.wsyntax.specs.declared.module.ExportKind.TheVariants.{Function}
use Rattle.wsyntax.specs.Texts.Answer.{missing, other_kind}
use Rattle.accepted_module.specs.Exports.{IsExported}
use Rattle.wsyntax.specs.Modules.{ModuleShape, module_shape}
use Rattle.wstore.specs.CallLimits.{limits_of}
use Rattle.batch.proofs.CallEnds.{refused_arguments, callee_of, fits_no, fits_yes}
use Rattle.batch.proofs.runner.Runner.callee.Goals as goal

-- an export of that kind is an exported function
function_of : (m : ModuleShape) (name : List ℕ) (kind : ExportKind) (f : ℕ) → kind ≡ Function → IsExported m name kind f → IsExported m name Function f
function_of m name kind f e h = subst (λ (k : ExportKind). IsExported m name k f) e h

pub returns-in_default-clause-refused : goal.returns-in_default-clause-refused
returns-in_default-clause-refused c = missing (c.export.ensures.none.0 (rw c.in_default.is refl))

pub returns-in_default-kind-clause-refused : goal.returns-in_default-kind-clause-refused
returns-in_default-kind-clause-refused c = other_kind ((c.export.ensures.some c.in-Some.kind c.in-Some.function).0 c.in-Some.is) refl c.in_default-kind.not-Function

pub returns-then-not-fits-clause-refused : goal.returns-then-not-fits-clause-refused
returns-then-not-fits-clause-refused c =
    let m = module_shape c.args.self.now.accepted.now.«module» in
    let exported : IsExported m c.args.call.now.name.now Function c.in-Some.function = function_of m _ _ _ c.in-Function.is ((c.export.ensures.some c.in-Some.kind c.in-Some.function).0 c.in-Some.is) in
    refused_arguments m _ _ c.in-Some.function c.accepted_is_judged.ensures exported (fits_no _ _ _ _ _ c.as_slice.ensures c.if-not-fits.true c.fits.ensures.1) (limits_of c.args.self.now.settings)

pub returns-clause-named : goal.returns-clause-named
returns-clause-named c =
    let m = module_shape c.args.self.now.accepted.now.«module» in
    let exported : IsExported m c.args.call.now.name.now Function c.in-Some.function = function_of m _ _ _ c.in-Function.is ((c.export.ensures.some c.in-Some.kind c.in-Some.function).0 c.in-Some.is) in
    callee_of m _ c.in-Some.function exported (fits_yes _ _ _ _ _ c.as_slice.ensures c.if-not-fits.false c.fits.ensures.0)
