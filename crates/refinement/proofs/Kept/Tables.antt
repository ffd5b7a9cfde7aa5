-- The turn at a branch table keeps the invariant.
use Rattle.std.proofs.Common.{◌≡◌, ℕ, ◌+◌, List, [], ◌∷◌, length, min, Some, refl, sym, ap, ◌∙◌, subst, arith}
use Rattle.std.specs.Prelude.{slice_get}
use Rattle.wsyntax.specs.declared.types.ValType.TheVariants.{I32}
use Rattle.wsyntax.specs.declared.value.Value.{Value}
use Rattle.wsyntax.specs.declared.value.Value.TheVariants.{I32 as V32, I64 as V64}
use Rattle.wsyntax.specs.Instructions.{BrTable, Code, Plain, Do}
use Rattle.wsyntax.specs.Validation.Context.{Stack}
use Rattle.wsyntax.specs.Validation.Algorithm.{Rule, Ends, when, all_take, rule}
use Rattle.wsyntax.specs.Execution.Values.{types}
use Rattle.wsyntax.specs.Execution.Layers.{LabelLayer}
use Rattle.checked_body.specs.SideTable.{Lab, Sequence, Begins, Needs, Jumps, chosen_label, kepts}
use Rattle.refinement.specs.Machine.{turn}
use Rattle.refinement.specs.Joint.{machine_of}
use Rattle.refinement.specs.Turns.{holding, branched}
use Rattle.refinement.proofs.Kept.Stacks.{some_same, image_at}
use Rattle.refinement.proofs.Kept.Rules.{on_is, when_is}
use Rattle.refinement.proofs.Kept.Matched.{World, Spot, at_, Fit, Levels, Stands, Right, moved}
use Rattle.refinement.proofs.Kept.Onward.{context_at}
use Rattle.refinement.proofs.Kept.Branching.{no_number, not_long, below_number, chosen, landing}

module _ (w : World) (sp : Spot) (labels : List Lab) (ls : List ℕ) (d : ℕ) (r : Stack) where
  -- each of its labels keeps the same
  pub same_kept : slice_get (kepts labels) d ≡ Some r → rule (context_at w sp labels) (BrTable ls d) ≡ Some (Ends (I32 ∷ r)) → (i : ℕ) (lab : Lab) → slice_get labels (chosen_label ls d i) ≡ Some lab → lab.kept ≡ r
  same_kept e is i lab at_label =
      let o = (((w.sound).rule_back).ends) (context_at w sp labels) (BrTable ls d) (I32 ∷ r) is [] [] in
      let first : o.0 ≡ r = some_same o.0 r (sym (o.2 0 d (omega arith)) ∙ e) in
      let there : slice_get (kepts labels) (chosen_label ls d i) ≡ Some o.0 = chosen (λ l. slice_get (kepts labels) l ≡ Some o.0) ls d i o.2 in
      some_same lab.kept o.0 (sym (image_at (λ (x : Lab). x.kept) labels (chosen_label ls d i) lab at_label) ∙ there) ∙ first

module _ (w : World) (sp : Spot) (s : Stands w sp) (levels : List LabelLayer) (here : Sequence) (lf : Levels w sp levels here) where
  -- the labels of a table, and what each of them keeps
  pub record Chooses (ls : List ℕ) (d : ℕ) (held : List Value) : Type 0 where
    pub kept : Stack
    pub default : slice_get (kepts here.labels) d ≡ Some kept
    pub rule_is : rule (context_at w sp here.labels) (BrTable ls d) ≡ Some (Ends (I32 ∷ kept))
    pub begins : Begins (I32 ∷ kept) (types held)

  pub chooses : (ls : List ℕ) (d : ℕ) (held : List Value) (rest : Code) → Fit w sp (Plain (BrTable ls d) rest) here sp.pc (types held) → Chooses ls d held
  chooses ls d held rest (r, token, is, jumps, needs, low) =
      let k = λ (us : Stack). Fit w sp rest here (sp.pc + 1) us in
      let f = on_is (slice_get (kepts here.labels) d) (λ r. when (all_take (kepts here.labels) r ls) (Some (Ends (I32 ∷ r)))) r is in
      let g = when_is (all_take (kepts here.labels) f.value ls) (Some (Ends (I32 ∷ f.value))) r f.gives in
      let same : r ≡ Ends (I32 ∷ f.value) = some_same r (Ends (I32 ∷ f.value)) (sym g.1) in
      record { kept = f.value; default = f.there; rule_is = is ∙ ap Some same; begins = subst (λ (r : Rule). Needs r (types held) k) same needs }

  -- the case that a number below or at their number chooses
  pub case_begins : (ls : List ℕ) (d n i : ℕ) (held : List Value) (lab : Lab) → Chooses ls d (V32 n ∷ held) → slice_get here.labels (chosen_label ls d i) ≡ Some lab → Begins lab.kept (types held)
  case_begins ls d n i held lab c at_label =
      subst (λ ps. Begins ps (types held)) (sym (same_kept w sp here.labels ls d c.kept c.default c.rule_is i lab at_label)) (below_number c.kept (types held) c.begins)

  br_table_held : (ls : List ℕ) (d : ℕ) (held : List Value) (rest : Code) → slice_get ((sp.body).filled).tokens sp.pc ≡ Some (Do (BrTable ls d)) → Jumps (sp.body).filled here.labels sp.pc (BrTable ls d) → Chooses ls d held → Right w (at_ sp levels held (Plain (BrTable ls d) rest)) (turn w.p w.frames (machine_of (at_ sp levels held (Plain (BrTable ls d) rest))))
  br_table_held ls d [] rest token jumps q = absurd (no_number q.kept q.begins)
  br_table_held ls d (V64 n ∷ held) rest token jumps q = absurd (not_long n q.kept held q.begins)
  br_table_held ls d (V32 n ∷ held) rest token (en, at_entry, many, cases) q =
      let j = at_ sp levels held (Plain (BrTable ls d) rest) in
      let i = min n (length ls) in
      let c = cases i (omega arith) in
      let l = landing w sp s levels here lf held (Plain (BrTable ls d) rest) (chosen_label ls d i) c.0 c.1 c.2 c.4 (case_begins ls d n i held c.0 q c.2) in
      moved w.C w.p w.frames (holding j n) (branched j (chosen_label ls d i) l.lv (c.1).target) _ ((w.turning).branch_table w.p w.frames n j ls d rest l.lv en c.1 refl token at_entry many c.3 l.found l.fits l.enough) l.sites

  pub br_table_right : (ls : List ℕ) (d : ℕ) (held : List Value) (rest : Code) → Fit w sp (Plain (BrTable ls d) rest) here sp.pc (types held) → Right w (at_ sp levels held (Plain (BrTable ls d) rest)) (turn w.p w.frames (machine_of (at_ sp levels held (Plain (BrTable ls d) rest))))
  br_table_right ls d held rest f = br_table_held ls d held rest f.1 f.3 (chooses ls d held rest f)
