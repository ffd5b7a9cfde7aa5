-- Turns of an if.
use Rattle.std.proofs.Common.{◌≡◌, ℕ, ◌+◌, ◌≤◌, cond, List, [], ◌∷◌, ◌++◌, length, take, Some, refl, sym, ap, ◌∙◌, arith, inl, inr}
use Rattle.std.specs.Prelude.{nat_eq}
use Rattle.wsyntax.specs.Types.{FuncType}
use Rattle.wsyntax.specs.Instructions.{Code, Stop}
use Rattle.wsyntax.specs.declared.instructions.BlockType.{BlockType}
use Rattle.wsyntax.specs.Validation.Context.{block_sig}
use Rattle.wsyntax.specs.declared.value.Value.{Value}
use Rattle.wsyntax.specs.declared.value.Value.TheVariants.{I32 as V32}
use Rattle.wsyntax.specs.Execution.Store.{Module, Store}
use Rattle.wsyntax.specs.Execution.Step.{Source, Quiet, Steps, on_some, opens, source, next, step}
use Rattle.wsyntax.specs.Execution.Chain.{Within}
use Rattle.wsyntax.specs.Execution.Layers.{label_around, in_labels}
use Rattle.soundness.specs.State.{config_of, belows, frames_around}
use Rattle.soundness.specs.Slots.{slots}
use Rattle.checked_body.specs.declared.branch.Branch.{Branch}
use Rattle.refinement.specs.Machine.{Program, module_of, goes, on_found, moves_here, takes}
use Rattle.refinement.specs.Joint.{Joint, activation, state_of, machine_of}
use Rattle.refinement.specs.Reduction.{ReductionLaws}
use Rattle.refinement.specs.Turns.{opened, block_label, holding, IsIf, ThenTurn, ElseTurn}
use Rattle.refinement.proofs.OneTurn.Stacks.{split_again}
use Rattle.refinement.proofs.OneTurn.Labels.{others, opens_is}

if_next : (m : Module) (s : Store) (l vs : List Value) (n : ℕ) (code : Code) (b : BlockType) (body other rest : Code) → IsIf code b body other rest → next m s l (Source (V32 n ∷ vs) code) ≡ on_some (block_sig m.types b) (λ sig. opens Quiet sig (length sig.results) Stop (cond (nat_eq n 0) other body) s l vs rest)
unfolding next source
if_next m s l vs n code b body other rest h =
    elim h [
      | inl e ↦ ap (λ code. next m s l (Source (V32 n ∷ vs) code)) e
      | inr e ↦ ap (λ code. next m s l (Source (V32 n ∷ vs) code)) e.0 ∙ ap (λ o. on_some (block_sig m.types b) (λ sig. opens Quiet sig (length sig.results) Stop (cond (nat_eq n 0) o body) s l vs rest)) (sym e.1)
    ]

module _ (laws : ReductionLaws) where
  if_step : (p : Program) (j : Joint) (n : ℕ) (b : BlockType) (body other rest chosen : Code) (t : FuncType) → cond (nat_eq n 0) other body ≡ chosen → IsIf (j.running).code b body other rest → block_sig p.types b ≡ Some t → length t.params ≤ length (j.running).held → step (module_of p) (config_of (state_of (holding j n))) ≡ Steps Quiet j.store [] (frames_around (activation j.running).arity (j.running).locals (in_labels (j.running).levels (label_around (block_label t (j.running).held rest) (Source (take (length t.params) (j.running).held) chosen))) (others j))
  if_step p j n b body other rest chosen t en ei eb le =
      laws.steps_there (module_of p) j.store j.store (activation j.running) (others j) (Source (V32 n ∷ (j.running).held) (j.running).code) _ (j.running).locals Quiet
      (if_next (module_of p) j.store (j.running).locals (j.running).held n (j.running).code b body other rest ei
      ∙ ap (λ c. on_some (block_sig p.types b) (λ sig. opens Quiet sig (length sig.results) Stop c j.store (j.running).locals (j.running).held rest)) en
      ∙ opens_is (module_of p) Quiet t (length t.results) Stop chosen j.store (j.running).locals (j.running).held rest b eb le (λ sig. length sig.results) refl)

  pub then_turn : ThenTurn
  then_turn p frames n j b body other rest t en ei et eb le =
      let ns = slots ((j.running).held ++ belows (j.running).levels) in
      let m = machine_of (holding j n) in
      record {
        kinds = Quiet ∷ [];
        machine = ap (takes p frames m) et ∙ ap (λ c. cond c (moves_here m ns) (goes m ((j.running).pc + 1) ns)) en ∙ ap (λ ns. goes (machine_of j) ((j.running).pc + 1) ns) (split_again (length t.params) (j.running).held (belows (j.running).levels));
        chain = Within.after {d = config_of (state_of (opened j (block_label t (j.running).held rest) ((j.running).pc + 1) (take (length t.params) (j.running).held) body))} (if_step p j n b body other rest body t (ap (λ c. cond c other body) en) ei eb le) (omega arith) (λ q. absurd cc) Within.ends;
        few = omega arith;
      }

  pub else_turn : ElseTurn
  else_turn p frames n j b body other rest t to en ei et ej eb le =
      let ns = slots ((j.running).held ++ belows (j.running).levels) in
      let m = machine_of (holding j n) in
      record {
        kinds = Quiet ∷ [];
        machine = ap (takes p frames m) et ∙ ap (λ c. cond c (moves_here m ns) (goes m ((j.running).pc + 1) ns)) en ∙ ap (λ o. on_found o (λ (e : Branch). goes m e.target ns)) ej ∙ ap (λ ns. goes (machine_of j) to.target ns) (split_again (length t.params) (j.running).held (belows (j.running).levels));
        chain = Within.after {d = config_of (state_of (opened j (block_label t (j.running).held rest) to.target (take (length t.params) (j.running).held) other))} (if_step p j n b body other rest other t (ap (λ c. cond c other body) en) ei eb le) (omega arith) (λ q. absurd cc) Within.ends;
        few = omega arith;
      }
