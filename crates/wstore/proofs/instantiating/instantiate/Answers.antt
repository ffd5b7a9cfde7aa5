use Rattle.std.proofs.Common.{rules, ◌≡◌, ◌≤◌, sym, ap, ◌∙◌, subst, None, arith}
use Rattle.std.proofs.Math.Logic.{∥∥₁_map, ∥∥₁_elim}
use Rattle.std.proofs.Props.{props}
use Rattle.wsyntax.specs.Modules.{module_shape}
use Rattle.wsyntax.specs.Validation.ModuleContext.{module_context}
use Rattle.wsyntax.specs.Execution.Start.{start_refusal, fresh_store}
use Rattle.soundness.specs.Slots.{slot_store}
use Rattle.soundness.specs.Instances.{Judged}
use Rattle.interpreter.specs.Seen.{seen}
use Rattle.accepted_module.specs.Judgement.{shapes_of}
use Rattle.wstore.specs.Held.{IsHeld, store_of}
use Rattle.wstore.specs.LaidOut.{IsLaidOut}
use Rattle.wstore.proofs.Held.{is_held, tagged_again}
use Rattle.wstore.proofs.Judging.{judged_of}
use Rattle.wstore.proofs.LaidOut.{laid_out}
use Rattle.wstore.proofs.instantiating.instantiate.Goals as goal

pub fresh_parts-requires : goal.fresh_parts-requires
fresh_parts-requires c =
    let allowed : start_refusal c.pages-pages.result (module_shape c.args.accepted.now.module) (shapes_of c.args.accepted.now.bodies.items) ≡ None = search rules in
    let limit : c.pages-pages.result ≤ 1024 = omega (arith, c.pages-pages.ensures, c.in_range.ensures.pages') in
    record {
      allowed = subst (λ x. IsLaidOut c.pages-pages.result (module_shape x)) (sym c.module-module.ensures)
          (laid_out c.pages-pages.result (module_shape c.args.accepted.now.module) (shapes_of c.args.accepted.now.bodies.items) (∥∥₁_map c.accepted_holds.ensures (λ j. j.rules)) (sym allowed) limit);
      laid = search rules;
    }

pub invariant_of-result : goal.invariant_of-result
invariant_of-result c =
    let m = module_shape c.args.accepted.now.module in
    let bodies = shapes_of c.args.accepted.now.bodies.items in
    let allowed : start_refusal c.args.settings.pages m bodies ≡ None = search rules in
    let judged : ∥ Judged m bodies ∥₁ = ∥∥₁_map c.accepted_holds.ensures (λ j. judged_of m c.args.accepted.now.context c.args.accepted.now.bodies.items j) in
    let fresh : seen c.in-Ok.parts ≡ slot_store (fresh_store c.args.settings.pages m) = search rules in
    record {
      held = ∥∥₁_map judged (λ j. subst (IsHeld (module_context m)) (sym fresh) (is_held (module_context m) (fresh_store c.args.settings.pages m) (c.starts_typed.ensures.store m bodies c.args.settings.pages j c.segments_are_bytes.ensures allowed)));
      runnable = ∥∥₁_map judged (λ j. c.starts_typed.ensures.runnable m bodies c.args.settings.pages j allowed);
    }

pub returns-in-Ok-clause-fresh : goal.returns-in-Ok-clause-fresh
returns-in-Ok-clause-fresh c =
    let m = module_shape c.args.accepted.now.module in
    let bodies = shapes_of c.args.accepted.now.bodies.items in
    let allowed : start_refusal c.args.settings.pages m bodies ≡ None = search rules in
    let judged : ∥ Judged m bodies ∥₁ = ∥∥₁_map c.accepted_holds.ensures (λ j. judged_of m c.args.accepted.now.context c.args.accepted.now.bodies.items j) in
    let fresh : seen c.in-Ok.parts ≡ slot_store (fresh_store c.args.settings.pages m) = search rules in
    ap (store_of (module_context m)) fresh
    ∙ ∥∥₁_elim judged (hlevel props) (λ j. tagged_again (module_context m) (fresh_store c.args.settings.pages m) (c.starts_typed.ensures.store m bodies c.args.settings.pages j c.segments_are_bytes.ensures allowed))
