-- Turns that open and close labels.
use Rattle.std.proofs.Common.{◌≡◌, ℕ, ◌+◌, ◌≤◌, List, [], ◌∷◌, ◌++◌, length, map, take, drop, Some, refl, sym, ap, ◌∙◌, arith, append_assoc}
use Rattle.wsyntax.specs.Types.{FuncType}
use Rattle.wsyntax.specs.Instructions.{Code, Stop, Block, Loop}
use Rattle.wsyntax.specs.declared.instructions.BlockType.{BlockType}
use Rattle.wsyntax.specs.Validation.Context.{block_sig}
use Rattle.wsyntax.specs.declared.value.Value.{Value}
use Rattle.wsyntax.specs.Execution.Store.{Module, Store}
use Rattle.wsyntax.specs.Execution.Step.{Source, Label, Kind, Looping, Quiet, Steps, on_some, opens, source, next, step}
use Rattle.wsyntax.specs.Execution.Chain.{Within}
use Rattle.wsyntax.specs.Execution.Ends.{EndsAs}
use Rattle.wsyntax.specs.Execution.Layers.{LabelLayer, label_around, in_labels}
use Rattle.soundness.specs.State.{Activation, config_of, belows, frames_around}
use Rattle.soundness.specs.Slots.{slots}
use Rattle.checked_body.specs.declared.branch.Branch.{Branch}
use Rattle.refinement.specs.Machine.{Program, module_of, NoFuel, Going, Over, goes, paid, on_found, takes}
use Rattle.refinement.specs.Joint.{Joint, activation, state_of, machine_of}
use Rattle.refinement.specs.Reduction.{ReductionLaws}
use Rattle.refinement.specs.Turns.{opened, block_label, loop_label, BlockTurn, LoopTurn, EndTurn, LeaveTurn, NoFuelAtLoop}
use Rattle.refinement.proofs.OneTurn.Stacks.{top_is, split_again}

abbrev pub others : Joint → List Activation
others j = map activation j.waiting

pub opens_is : (m : Module) (kind : Kind) (t : FuncType) (n : ℕ) (cont body : Code) (s : Store) (l vs : List Value) (rest : Code) (b : BlockType) → block_sig m.types b ≡ Some t → length t.params ≤ length vs → (ar : FuncType → ℕ) → ar t ≡ n → on_some (block_sig m.types b) (λ sig. opens kind sig (ar sig) cont body s l vs rest) ≡ Steps kind s l (Label (drop (length t.params) vs) n cont (Source (take (length t.params) vs) body) rest)
opens_is m kind t n cont body s l vs rest b e le ar en =
    ap (λ o. on_some o (λ sig. opens kind sig (ar sig) cont body s l vs rest)) e
    ∙ top_is (length t.params) vs (λ args below. Steps kind s l (Label below (ar t) cont (Source args body) rest)) le
    ∙ ap (λ n. Steps kind s l (Label (drop (length t.params) vs) n cont (Source (take (length t.params) vs) body) rest)) en

module _ (laws : ReductionLaws) where
  block_step : (p : Program) (j : Joint) (b : BlockType) (body rest : Code) (t : FuncType) → (j.running).code ≡ Block b body rest → block_sig p.types b ≡ Some t → length t.params ≤ length (j.running).held → step (module_of p) (config_of (state_of j)) ≡ Steps Quiet j.store [] (frames_around (activation j.running).arity (j.running).locals (in_labels (j.running).levels (label_around (block_label t (j.running).held rest) (Source (take (length t.params) (j.running).held) body))) (others j))
  unfolding next source
  block_step p j b body rest t ec eb le =
      laws.steps_there (module_of p) j.store j.store (activation j.running) (others j) (Source (j.running).held (j.running).code) _ (j.running).locals Quiet
      (ap (λ code. next (module_of p) j.store (j.running).locals (Source (j.running).held code)) ec
      ∙ opens_is (module_of p) Quiet t (length t.results) Stop body j.store (j.running).locals (j.running).held rest b eb le (λ sig. length sig.results) refl)

  pub block_turn : BlockTurn
  block_turn p frames j b body rest t ec et eb le = record {
    kinds = Quiet ∷ [];
    machine = ap (takes p frames (machine_of j)) et ∙ ap (λ ns. goes (machine_of j) ((j.running).pc + 1) ns) (split_again (length t.params) (j.running).held (belows (j.running).levels));
    chain = Within.after {d = config_of (state_of (opened j (block_label t (j.running).held rest) ((j.running).pc + 1) (take (length t.params) (j.running).held) body))} (block_step p j b body rest t ec eb le) (omega arith) (λ q. absurd cc) Within.ends;
    few = omega arith;
  }

  loop_step : (p : Program) (j : Joint) (b : BlockType) (body rest : Code) (t : FuncType) → (j.running).code ≡ Loop b body rest → block_sig p.types b ≡ Some t → length t.params ≤ length (j.running).held → step (module_of p) (config_of (state_of j)) ≡ Steps Looping j.store [] (frames_around (activation j.running).arity (j.running).locals (in_labels (j.running).levels (label_around (loop_label t b body (j.running).held rest) (Source (take (length t.params) (j.running).held) body))) (others j))
  unfolding next source
  loop_step p j b body rest t ec eb le =
      laws.steps_there (module_of p) j.store j.store (activation j.running) (others j) (Source (j.running).held (j.running).code) _ (j.running).locals Looping
      (ap (λ code. next (module_of p) j.store (j.running).locals (Source (j.running).held code)) ec
      ∙ opens_is (module_of p) Looping t (length t.params) (Loop b body Stop) body j.store (j.running).locals (j.running).held rest b eb le (λ sig. length sig.params) refl)

  pub loop_turn : LoopTurn
  loop_turn p frames left j b body rest t ef ec et eb le = record {
    kinds = Looping ∷ [];
    machine = ap (takes p frames (machine_of j)) et ∙ ap (λ n. paid (machine_of j) n (λ left. Going (record (machine_of j) { pc = (j.running).pc + 1; fuel = left }))) ef ∙ ap (λ ns. Going (record (machine_of j) { pc = (j.running).pc + 1; operands = ns; fuel = left })) (split_again (length t.params) (j.running).held (belows (j.running).levels));
    chain = Within.after {spare = left} {d = config_of (state_of (opened j (loop_label t b body (j.running).held rest) ((j.running).pc + 1) (take (length t.params) (j.running).held) body))} (loop_step p j b body rest t ec eb le) (omega (arith, ef)) (λ q. absurd cc) Within.ends;
    few = omega arith;
  }

  -- the loop that cannot be paid is the step that would be charged
  pub no_fuel_at_loop : NoFuelAtLoop
  no_fuel_at_loop p frames j b body rest t ef ec et eb le = record {
    kinds = [];
    last = config_of (state_of j);
    machine = ap (takes p frames (machine_of j)) et ∙ ap (λ n. paid (machine_of j) n (λ left. Going (record (machine_of j) { pc = (j.running).pc + 1; fuel = left }))) ef ∙ ap (λ n. Over NoFuel (machine_of j).store n) (sym ef);
    chain = Within.ends;
    end = EndsAs.out_of_fuel {d = config_of (state_of (opened j (loop_label t b body (j.running).held rest) ((j.running).pc + 1) (take (length t.params) (j.running).held) body))} (loop_step p j b body rest t ec eb le) refl ef;
    kept = refl;
    few = omega arith;
  }

  -- what closes a label, without its position
  leave_step : (p : Program) (j : Joint) (lv : LabelLayer) → step (module_of p) (config_of (state_of (opened j lv (j.running).pc (j.running).held Stop))) ≡ Steps Quiet j.store [] (frames_around (activation j.running).arity (j.running).locals (in_labels (j.running).levels (Source ((j.running).held ++ lv.below) lv.rest)) (others j))
  unfolding next source
  leave_step p j lv =
      laws.steps_there (module_of p) j.store j.store (activation j.running) (others j) (label_around lv (Source (j.running).held Stop)) (Source ((j.running).held ++ lv.below) lv.rest) (j.running).locals Quiet refl

  pub end_turn : EndTurn
  end_turn p frames j lv et = record {
    kinds = Quiet ∷ [];
    machine = ap (takes p frames (machine_of (opened j lv (j.running).pc (j.running).held Stop))) et ∙ ap (λ vs. goes (machine_of j) ((j.running).pc + 1) (slots vs)) (sym (append_assoc (j.running).held lv.below (belows (j.running).levels)));
    chain = Within.after {d = config_of (state_of (record j { running = record (j.running) { pc = (j.running).pc + 1; held = (j.running).held ++ lv.below; code = lv.rest } }))} (leave_step p j lv) (omega arith) (λ q. absurd cc) Within.ends;
    few = omega arith;
  }

  pub leave_turn : LeaveTurn
  leave_turn p frames j lv to et ej =
      let vs = (j.running).held ++ (lv.below ++ belows (j.running).levels) in
      record {
        kinds = Quiet ∷ [];
        machine = ap (takes p frames (machine_of (opened j lv (j.running).pc (j.running).held Stop))) et
            ∙ ap (λ o. on_found o (λ (e : Branch). goes (machine_of j) e.target (slots vs))) ej
            ∙ ap (λ vs. goes (machine_of j) to.target (slots vs)) (sym (append_assoc (j.running).held lv.below (belows (j.running).levels)));
        chain = Within.after {d = config_of (state_of (record j { running = record (j.running) { pc = to.target; held = (j.running).held ++ lv.below; code = lv.rest } }))} (leave_step p j lv) (omega arith) (λ q. absurd cc) Within.ends;
        few = omega arith;
      }
