use Rattle.std.proofs.Common.{Some, refl, ap, ◌∙◌}
use Rattle.wsyntax.specs.Modules.{module_shape}
use Rattle.wsyntax.specs.StartRefusals.{refusal_of}
use Rattle.wsyntax.specs.declared.module.Module.{Module}
use Rattle.accepted_module.specs.Judgement.{shapes_of}
use Rattle.explain_run.proofs.FirstImports.{never_none}
use Rattle.explain_run.proofs.starting.reason_of.Goals as goal

pub unreachable-requires : goal.unreachable-requires
unreachable-requires c =
    let a = c.args.accepted.now in
    never_none c.requires.0 (module_shape a.«module») (shapes_of a.bodies.items) a.«module».imports.items c.deref.result.now c.first.result refl
    (c.deref.ensures.value ∙ ap (λ (m : Module). m.imports.items) c.module-module.ensures) c.first.ensures.value c.in-None.is
    (c.requires.1 ∙ ap (λ r. Some (refusal_of r)) c.in-HasImports.is)
