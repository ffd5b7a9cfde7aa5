-- A register never rises: after a longer history of calls it holds no greater index.
use Rattle.std.proofs.Common.{◌≡◌, ℕ, ◌≤◌, List, [], ◌∷◌, ◌++◌, sym, refl, ap, ◌∙◌, subst, arith, append_assoc}
use Rattle.std.specs.Prelude.{Option, Some, None, ◌<◌}
use Rattle.std.proofs.lemmas.Bool.Decides.{nat_tests}
use Rattle.pieces.specs.declared.history.MarkCall.{MarkCall}
use Rattle.pieces.specs.declared.history.MarkCall.TheVariants.{Lowered, Found}
use Rattle.pieces.specs.declared.views.MarkView.{MarkView}
use Rattle.pieces.specs.History.{lower, register, IsLegal, IsAtMost, NeverRises, Extends}
use Rattle.pieces.specs.MarkRule.{reading}

pub register-append : (m : Option ℕ) (xs ys : List MarkCall) → register m (xs ++ ys) ≡ register (register m xs) ys
register-append m [] ys = refl
register-append m (Lowered i ∷ xs) ys = register-append (lower m i) xs ys
register-append m (Found r ∷ xs) ys = register-append m xs ys

at_most_same : (r : Option ℕ) → IsAtMost r r
at_most_same None = tt
at_most_same (Some n) = omega arith

at_most_both : (r s t : Option ℕ) → IsAtMost r s → IsAtMost s t → IsAtMost r t
at_most_both None None None a b = tt
at_most_both None None (Some n) a b = b
at_most_both None (Some m) t a b = absurd a
at_most_both (Some k) None None a b = tt
at_most_both (Some k) None (Some n) a b = absurd b
at_most_both (Some k) (Some m) None a b = tt
at_most_both (Some k) (Some m) (Some n) a b = omega arith

lower_falls : (m : Option ℕ) (i : ℕ) → IsAtMost (lower m i) m
lower_falls None i = tt
lower_falls (Some n) i = omega arith

lower_low : (m : Option ℕ) (i : ℕ) → IsAtMost (lower m i) (Some i)
lower_low None i = omega arith
lower_low (Some n) i = omega arith

-- more calls leave the register no greater
pub register_falls : (m : Option ℕ) (calls : List MarkCall) → IsAtMost (register m calls) m
register_falls m [] = at_most_same m
register_falls m (Lowered i ∷ ds) = at_most_both (register (lower m i) ds) (lower m i) m (register_falls (lower m i) ds) (lower_falls m i)
register_falls m (Found r ∷ ds) = register_falls m ds

-- in a legal history a read gives what the register has there
pub legal_at : (m : Option ℕ) (before : List MarkCall) (r : Option ℕ) (after : List MarkCall) → IsLegal m (before ++ Found r ∷ after) → r ≡ register m before
legal_at m [] r after h = h.0
legal_at m (Lowered i ∷ ds) r after h = legal_at (lower m i) ds r after h
legal_at m (Found s ∷ ds) r after h = legal_at m ds r after h.1

longer_falls : (before more : List MarkCall) → IsAtMost (register None (before ++ more)) (register None before)
longer_falls before more = subst (λ (r : Option ℕ). IsAtMost r (register None before)) (sym (register-append None before more)) (register_falls (register None before) more)

pub never_rises : (history : List MarkCall) → IsLegal None history → NeverRises history
never_rises history legal before between after first second is =
    let here : IsLegal None (before ++ Found first ∷ (between ++ Found second ∷ after)) = subst (IsLegal None) is legal in
    let there : IsLegal None ((before ++ Found first ∷ between) ++ Found second ∷ after) = subst (IsLegal None) (sym (append_assoc before (Found first ∷ between) (Found second ∷ after))) here in
    let low : IsAtMost (register None (before ++ Found first ∷ between)) (register None before) = longer_falls before (Found first ∷ between) in
    subst (λ (r : Option ℕ). IsAtMost r first) (sym (legal_at None (before ++ Found first ∷ between) second after there))
    (subst (IsAtMost (register None (before ++ Found first ∷ between))) (sym (legal_at None before first (between ++ Found second ∷ after) here)) low)

-- what a read gives is what the register then has, and no more than it had when the share last saw it
pub read_is : (v w : MarkView) (r : Option ℕ) → Extends v (Found r) w → r ≡ register None w.seen
read_is v w r h =
    legal_at None (v.seen ++ h.between) r [] (subst (IsLegal None) h.seen h.legal) ∙ sym (register-append None (v.seen ++ h.between) (Found r ∷ [])) ∙ ap (register None) (sym h.seen)

pub read_falls : (v w : MarkView) (r : Option ℕ) → Extends v (Found r) w → IsAtMost r (register None v.seen)
read_falls v w r h =
    subst (λ (s : Option ℕ). IsAtMost s (register None v.seen)) (sym (legal_at None (v.seen ++ h.between) r [] (subst (IsLegal None) h.seen h.legal))) (longer_falls v.seen h.between)

-- after an index is lowered the register is no greater than it, and no greater than when the share last saw it
lowered_is : (v w : MarkView) (i : ℕ) (h : Extends v (Lowered i) w) → lower (register None (v.seen ++ h.between)) i ≡ register None w.seen
lowered_is v w i h = sym (register-append None (v.seen ++ h.between) (Lowered i ∷ [])) ∙ ap (register None) (sym h.seen)

pub lowered_low : (v w : MarkView) (i : ℕ) → Extends v (Lowered i) w → IsAtMost (register None w.seen) (Some i)
lowered_low v w i h = subst (λ (s : Option ℕ). IsAtMost s (Some i)) (lowered_is v w i h) (lower_low (register None (v.seen ++ h.between)) i)

pub lowered_falls : (v w : MarkView) (i : ℕ) → Extends v (Lowered i) w → IsAtMost (register None w.seen) (register None v.seen)
lowered_falls v w i h =
    subst (λ (l : List MarkCall). IsAtMost (register None l) (register None v.seen)) (sym (h.seen ∙ append_assoc v.seen h.between (Lowered i ∷ []))) (longer_falls v.seen (h.between ++ Lowered i ∷ []))

-- what a read makes of the word
pub reading_some : (n : ℕ) → n < 4294967296 → reading n ≡ Some n
reading_some n small = grind (arith, nat_tests)

pub reading_none : (n : ℕ) → 4294967296 ≤ n → reading n ≡ None
reading_none n large = grind (arith, nat_tests)
