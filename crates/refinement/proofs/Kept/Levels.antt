-- The open label that a branch names, and what the invariant says of it.
use Rattle.std.proofs.Common.{◌≡◌, ℕ, zero, suc, List, [], ◌∷◌, ◌++◌, length, drop, Some, refl, sym, ap, ◌∙◌, subst, arith, append_assoc, length-append}
use Rattle.std.specs.Prelude.{slice_get}
use Rattle.wsyntax.specs.Instructions.{follow}
use Rattle.wsyntax.specs.Validation.Context.{Stack, Context}
use Rattle.wsyntax.specs.declared.value.Value.{Value}
use Rattle.wsyntax.specs.Execution.Values.{types}
use Rattle.wsyntax.specs.Execution.Layers.{LabelLayer}
use Rattle.checked_body.specs.SideTable.{Filled, Lab, Sequence, Fits}
use Rattle.soundness.specs.State.{belows}
use Rattle.refinement.specs.Invariant.{LevelsFit}
use Rattle.refinement.proofs.Kept.Stacks.{some_same}

module _ (D : Context) (fn : Filled) (results : Stack) where
  pub base_is : (lvs : List LabelLayer) (here : Sequence) → LevelsFit D fn results lvs here → here.base ≡ length (belows lvs)
  base_is [] here h = h.3
  base_is (lv ∷ lvs) here h =
      let r = base_is lvs h.1 h.5 in
      omega (arith, h.4.deep, r, length-append lv.below (belows lvs))

  -- the label that is named: where a branch to it lands
  pub record Target (lvs : List LabelLayer) (n : ℕ) (lab : Lab) : Type 0 where
    pub lv : LabelLayer
    pub out : Sequence
    pub found : slice_get lvs n ≡ Some lv
    pub arity : length lab.kept ≡ lv.arity
    pub lands : Fits D fn (follow lv.cont lv.rest) out lab.target (lab.kept ++ types lv.below)
    pub levels : LevelsFit D fn results (drop (suc n) lvs) out
    pub height : lab.height ≡ length (lv.below ++ belows (drop (suc n) lvs))
    pub above : List Value
    pub split : belows lvs ≡ above ++ (lv.below ++ belows (drop (suc n) lvs))

  pub target_of : (lvs : List LabelLayer) (n : ℕ) (lab : Lab) (here : Sequence) → LevelsFit D fn results lvs here → slice_get here.labels n ≡ Some lab → Target lvs n lab
  target_of [] n lab here h e =
      let q : slice_get [] n ≡ Some lab = subst (λ l. slice_get l n ≡ Some lab) h.0 e in absurd (cc q)
  target_of (lv ∷ lvs) zero lab here h e =
      let q : h.0 ≡ lab = some_same h.0 lab (sym (ap (λ l. slice_get l 0) h.3) ∙ e) in
      let first : Target (lv ∷ lvs) zero h.0 = record {
        lv = lv;
        out = h.1;
        found = refl;
        arity = h.4.arity;
        lands = h.4.lands;
        levels = h.5;
        height = h.4.height ∙ base_is (lv ∷ lvs) here h;
        above = [];
        split = refl;
      } in
      subst (λ x. Target (lv ∷ lvs) zero x) q first
  target_of (lv ∷ lvs) (suc n) lab here h e =
      let t = target_of lvs n lab h.1 h.5 (sym (ap (λ l. slice_get l (suc n)) h.3) ∙ e) in
      record {
        lv = t.lv;
        out = t.out;
        found = t.found;
        arity = t.arity;
        lands = t.lands;
        levels = t.levels;
        height = t.height;
        above = lv.below ++ t.above;
        split = ap (λ l. lv.below ++ l) t.split ∙ sym (append_assoc lv.below t.above _);
      }
