-- Turns that branch: the machine lands where the configuration does.
use Rattle.std.proofs.Common.{◌≡◌, ℕ, zero, suc, ◌+◌, ◌-◌, ◌≤◌, Bool, true, false, cond, List, [], ◌∷◌, ◌++◌, length, take, drop, min, Some, refl, sym, ap, ap₂, ◌∙◌, subst, arith, append_assoc}
use Rattle.std.specs.Prelude.{slice_get, slice_index_or, nat_eq}
use Rattle.std.proofs.lemmas.List.{map-append}
use Rattle.wsyntax.specs.Instructions.{Br, BrIf, BrTable, Code, Plain}
use Rattle.wsyntax.specs.declared.value.Value.{Value}
use Rattle.wsyntax.specs.declared.value.Value.TheVariants.{I32 as V32}
use Rattle.wsyntax.specs.Execution.Step.{Source, Quiet, Steps, leaves, act, source, next, step}
use Rattle.wsyntax.specs.Execution.Chain.{Within}
use Rattle.wsyntax.specs.Execution.Layers.{LabelLayer, in_labels}
use Rattle.soundness.specs.State.{config_of, belows, frames_around}
use Rattle.soundness.specs.Slots.{bits, slots}
use Rattle.checked_body.specs.declared.branch.Branch.{Branch}
use Rattle.checked_body.specs.SideTable.{chosen_label}
use Rattle.refinement.specs.Machine.{Program, module_of, Going, goes, lands, on_found, jumps_here, case_of, takes}
use Rattle.refinement.specs.Joint.{Joint, activation, state_of, machine_of}
use Rattle.refinement.specs.Reduction.{ReductionLaws}
use Rattle.refinement.specs.Turns.{EntryFits, holding, branched, BranchTurn, PassTurn, BranchIfTurn, BranchTableTurn}
use Rattle.refinement.proofs.OneTurn.Stacks.{take_slots, bottom_slots}
use Rattle.refinement.proofs.OneTurn.Labels.{others}

-- the operands above a label, and those below it
record Splits (xs : List LabelLayer) (x : ℕ) (lv : LabelLayer) : Type 0 where
  above : List Value
  is : belows xs ≡ above ++ (lv.below ++ belows (drop (suc x) xs))

splits : (xs : List LabelLayer) (x : ℕ) (lv : LabelLayer) → slice_get xs x ≡ Some lv → Splits xs x lv
splits [] x lv e = absurd cc
splits (y ∷ ys) zero lv e =
    let h : y ≡ lv = cc in
    subst (Splits (y ∷ ys) 0) h (record { above = []; is = refl })
splits (y ∷ ys) (suc x) lv e =
    let t = splits ys x lv e in
    record { above = y.below ++ t.above; is = ap (λ l. y.below ++ l) t.is ∙ sym (append_assoc y.below t.above (lv.below ++ belows (drop (suc x) ys))) }

-- the machine lands where the configuration does
pub lands_there : (j : Joint) (x : ℕ) (lv : LabelLayer) (to : Branch) → slice_get (j.running).levels x ≡ Some lv → EntryFits j x lv to → lv.arity ≤ length (j.running).held → lands (machine_of j) (slots ((j.running).held ++ belows (j.running).levels)) to ≡ Going (machine_of (branched j x lv to.target))
lands_there j x lv to el ef le =
    let vs = (j.running).held in
    let lower = belows (j.running).levels in
    let t = splits (j.running).levels x lv el in
    let deep = lv.below ++ belows (drop (suc x) (j.running).levels) in
    let whole : vs ++ lower ≡ (vs ++ t.above) ++ deep = ap (λ l. vs ++ l) t.is ∙ sym (append_assoc vs t.above deep) in
    let top : take to.arity (slots (vs ++ lower)) ≡ slots (take lv.arity vs) = ap (λ n. take n (slots (vs ++ lower))) ef.arity ∙ take_slots lv.arity vs lower le in
    let bottom : drop (length (slots (vs ++ lower)) - to.height) (slots (vs ++ lower)) ≡ slots deep = ap (λ ws. drop (length (slots ws) - to.height) (slots ws)) whole ∙ bottom_slots (vs ++ t.above) deep to.height ef.height in
    let ops : take to.arity (slots (vs ++ lower)) ++ drop (length (slots (vs ++ lower)) - to.height) (slots (vs ++ lower)) ≡ slots ((take lv.arity vs ++ lv.below) ++ belows (drop (suc x) (j.running).levels)) = ap₂ (λ a b. a ++ b) top bottom ∙ sym (map-append bits (take lv.arity vs) deep) ∙ ap slots (sym (append_assoc (take lv.arity vs) lv.below (belows (drop (suc x) (j.running).levels)))) in
    ap (λ ns. goes (machine_of j) to.target ns) ops

-- the default is chosen by every number that is not that of a case
chosen_is : (ls : List ℕ) (d i : ℕ) → slice_index_or ls i d ≡ chosen_label ls d (min i (length ls))
chosen_is [] d i = refl
chosen_is (l ∷ ls) d zero =
    let e : 0 ≡ min 0 (suc (length ls)) = omega arith in
    ap (chosen_label (l ∷ ls) d) e
chosen_is (l ∷ ls) d (suc i) =
    let e : min (suc i) (suc (length ls)) ≡ suc (min i (length ls)) = omega arith in
    chosen_is ls d i ∙ ap (chosen_label (l ∷ ls) d) (sym e)

module _ (laws : ReductionLaws) where
  pub branch_step : (p : Program) (j : Joint) (x : ℕ) (rest : Code) (lv : LabelLayer) (target : ℕ) → (j.running).code ≡ Plain (Br x) rest → slice_get (j.running).levels x ≡ Some lv → lv.arity ≤ length (j.running).held → step (module_of p) (config_of (state_of j)) ≡ Steps Quiet j.store [] ((config_of (state_of (branched j x lv target))).work)
  unfolding next source act
  branch_step p j x rest lv target ec el le =
      laws.branch_lands (module_of p) j.store (activation j.running) (others j) x lv el le
      (ap (λ code. next (module_of p) j.store (j.running).locals (Source (j.running).held code)) ec)

  pub branch_turn : BranchTurn
  branch_turn p frames j x rest lv to ec et ej el ef le = record {
    kinds = Quiet ∷ [];
    machine = ap (takes p frames (machine_of j)) et ∙ ap (λ o. on_found o (lands (machine_of j) (slots ((j.running).held ++ belows (j.running).levels)))) ej ∙ lands_there j x lv to el ef le;
    chain = Within.after {d = config_of (state_of (branched j x lv to.target))} (branch_step p j x rest lv to.target ec el le) (omega arith) (λ q. absurd cc) Within.ends;
    few = omega arith;
  }

  -- br_if becomes what follows, or a br
  test_step : (p : Program) (j : Joint) (n x : ℕ) (rest chosen : Code) → cond (nat_eq n 0) rest (Plain (Br x) rest) ≡ chosen → (j.running).code ≡ Plain (BrIf x) rest → step (module_of p) (config_of (state_of (holding j n))) ≡ Steps Quiet j.store [] (frames_around (activation j.running).arity (j.running).locals (in_labels (j.running).levels (Source (j.running).held chosen)) (others j))
  unfolding next source act
  test_step p j n x rest chosen en ec =
      laws.steps_there (module_of p) j.store j.store (activation j.running) (others j) (Source (V32 n ∷ (j.running).held) (j.running).code) (Source (j.running).held chosen) (j.running).locals Quiet
      (ap (λ code. next (module_of p) j.store (j.running).locals (Source (V32 n ∷ (j.running).held) code)) ec ∙ leads (nat_eq n 0) chosen en)
    where
      leads : (c : Bool) (chosen : Code) → cond c rest (Plain (Br x) rest) ≡ chosen → cond c (leaves Quiet j.store (j.running).locals (j.running).held rest) (leaves Quiet j.store (j.running).locals (j.running).held (Plain (Br x) rest)) ≡ Steps Quiet j.store (j.running).locals (Source (j.running).held chosen)
      leads true chosen e = ap (λ c. Steps Quiet j.store (j.running).locals (Source (j.running).held c)) e
      leads false chosen e = ap (λ c. Steps Quiet j.store (j.running).locals (Source (j.running).held c)) e

  pub pass_turn : PassTurn
  pass_turn p frames n j x rest en ec et =
      let ns = slots ((j.running).held ++ belows (j.running).levels) in
      let m = machine_of (holding j n) in
      record {
        kinds = Quiet ∷ [];
        machine = ap (takes p frames m) et ∙ ap (λ c. cond c (goes m ((j.running).pc + 1) ns) (jumps_here m ns)) en;
        chain = Within.after {d = config_of (state_of (record j { running = record (j.running) { pc = (j.running).pc + 1; code = rest } }))} (test_step p j n x rest rest (ap (λ c. cond c rest (Plain (Br x) rest)) en) ec) (omega arith) (λ q. absurd cc) Within.ends;
        few = omega arith;
      }

  pub branch_if_turn : BranchIfTurn
  branch_if_turn p frames n j x rest lv to en ec et ej el ef le =
      let ns = slots ((j.running).held ++ belows (j.running).levels) in
      let m = machine_of (holding j n) in
      let mid : Joint = record j { running = record (j.running) { code = Plain (Br x) rest } } in
      record {
        kinds = Quiet ∷ Quiet ∷ [];
        machine = ap (takes p frames m) et ∙ ap (λ c. cond c (goes m ((j.running).pc + 1) ns) (jumps_here m ns)) en ∙ ap (λ o. on_found o (lands m ns)) ej ∙ lands_there j x lv to el ef le;
        chain = Within.after {spare = j.fuel} {d = config_of (state_of mid)} (test_step p j n x rest (Plain (Br x) rest) (ap (λ c. cond c rest (Plain (Br x) rest)) en) ec) (omega arith) (λ q. absurd cc)
            (Within.after {spare = j.fuel} {d = config_of (state_of (branched j x lv to.target))} (branch_step p mid x rest lv to.target refl el le) (omega arith) (λ q. absurd cc) Within.ends);
        few = omega arith;
      }

  -- br_table becomes the br that it chooses
  choice_step : (p : Program) (j : Joint) (n : ℕ) (ls : List ℕ) (d : ℕ) (rest : Code) → (j.running).code ≡ Plain (BrTable ls d) rest → step (module_of p) (config_of (state_of (holding j n))) ≡ Steps Quiet j.store [] (frames_around (activation j.running).arity (j.running).locals (in_labels (j.running).levels (Source (j.running).held (Plain (Br (chosen_label ls d (min n (length ls)))) rest))) (others j))
  unfolding next source act
  choice_step p j n ls d rest ec =
      laws.steps_there (module_of p) j.store j.store (activation j.running) (others j) (Source (V32 n ∷ (j.running).held) (j.running).code) (Source (j.running).held (Plain (Br (chosen_label ls d (min n (length ls)))) rest)) (j.running).locals Quiet
      (ap (λ code. next (module_of p) j.store (j.running).locals (Source (V32 n ∷ (j.running).held) code)) ec
      ∙ ap (λ x. Steps Quiet j.store (j.running).locals (Source (j.running).held (Plain (Br x) rest))) (chosen_is ls d n))

  pub branch_table_turn : BranchTableTurn
  branch_table_turn p frames n j ls d rest lv e to ec et ee ea ek el ef le =
      let x = chosen_label ls d (min n (length ls)) in
      let ns = slots ((j.running).held ++ belows (j.running).levels) in
      let m = machine_of (holding j n) in
      let mid : Joint = record j { running = record (j.running) { code = Plain (Br x) rest } } in
      record {
        kinds = Quiet ∷ Quiet ∷ [];
        machine = ap (takes p frames m) et
            ∙ ap (λ o. on_found o (λ e. on_found (case_of m e n) (lands m ns))) ee
            ∙ ap (λ a. on_found (slice_get (((j.running).body).filled).cases (e.height + min n a)) (lands m ns)) ea
            ∙ ap (λ o. on_found o (lands m ns)) ek
            ∙ lands_there j x lv to el ef le;
        chain = Within.after {spare = j.fuel} {d = config_of (state_of mid)} (choice_step p j n ls d rest ec) (omega arith) (λ q. absurd cc)
            (Within.after {spare = j.fuel} {d = config_of (state_of (branched j x lv to.target))} (branch_step p mid x rest lv to.target refl el le) (omega arith) (λ q. absurd cc) Within.ends);
        few = omega arith;
      }
