-- One of a list passes a test, as far as the list has been tested.
use Rattle.std.proofs.Common.{◌≡◌, ◌≤◌, ◌<◌, ℕ, ◌+◌, Bool, true, false, ◌||◌, List, length, get_or, drop, map, refl, sym, ap, ◌∙◌}
use Rattle.std.proofs.lemmas.List.{at_drop_more}
use Rattle.wsyntax.specs.Execution.Start.{any}
use Rattle.wcheck.proofs.PassOutcomes.{drop_past}

or_false : (t : Bool) → t ≡ (t || false)
or_false true = refl
or_false false = refl

or_both : (t u v : Bool) → ((t || u) || v) ≡ (t || (u || v))
or_both true u v = refl
or_both false u v = refl

-- none is left to be tested
pub all_tested : {A B : Type 0} (shows : A → B) (p : B → Bool) (xs : List A) (i : ℕ) (t v : Bool) → length xs ≤ i → (t || any p (map shows (drop i xs))) ≡ v → t ≡ v
all_tested {A} shows p xs i t v le e = or_false t ∙ ap (λ (ys : List A). t || any p (map shows ys)) (sym (drop_past xs i le)) ∙ e

-- one more is tested
pub one_tested : {A B : Type 0} (shows : A → B) (p : B → Bool) (xs : List A) (i : ℕ) (x : A) (t s v : Bool) → i < length xs → x ≡ get_or xs i x → s ≡ p (shows x) → (t || any p (map shows (drop i xs))) ≡ v → ((t || s) || any p (map shows (drop (i + 1) xs))) ≡ v
one_tested {A} shows p xs i x t s v lt is tested e =
    let rest = any p (map shows (drop (i + 1) xs)) in
    ap (λ (u : Bool). (t || u) || rest) (tested ∙ ap (λ (y : A). p (shows y)) is)
    ∙ or_both t (p (shows (get_or xs i x))) rest
    ∙ sym (at_drop_more (λ (ys : List A). t || any p (map shows ys)) xs i x lt)
    ∙ e
