-- What holds of the bodies that were checked.
use Rattle.std.proofs.Common.{Bor, ◌≡◌, ℕ, zero, suc, ◌+◌, ◌<◌, ◌⊎◌, inl, inr, List, [], ◌∷◌, ◌++◌, length, map, get_or, Some, refl, sym, ap, subst, ◌∙◌}
use Rattle.std.specs.Prelude.{slice_get}
use Rattle.std.proofs.lemmas.List.{length_push}
use Rattle.wsyntax.specs.Validation.Context.{Context}
use Rattle.checked_body.specs.declared.body.CheckedBody.{CheckedBody}
use Rattle.accepted_module.specs.Judgement.{IsCheckedFrom, IsCheckedAt, AreChecked}
use Rattle.verdict.proofs.Groups.{bytes_there}

-- ---- one body more

-- what stands at a position of a list with one more at its end
pub last_or_before : {A : Type 0} (xs : List A) (x y : A) (k : ℕ) → slice_get (xs ++ x ∷ []) k ≡ Some y → (slice_get xs k ≡ Some y) ⊎ ((k ≡ length xs) × (x ≡ y))
last_or_before [] x y zero e = inr (refl, cc)
last_or_before [] x y (suc k) e = absurd cc
last_or_before (z ∷ xs) x y zero e = inl e
last_or_before (z ∷ xs) x y (suc k) e = elim (last_or_before xs x y k e) [ inl h ↦ inl h | inr h ↦ inr (ap suc h.0, h.1) ]

-- those before a position are checked, and so is the one there
pub checked_more : (C D : Context) (i j position : ℕ) (bodies : List (Bor (List ℕ))) (d : Bor (List ℕ)) (all : List CheckedBody) (checked : CheckedBody) → D ≡ C → j ≡ i → position < length bodies → IsCheckedFrom D (j + position) (get_or bodies position d).now checked
    → AreChecked C i (map (λ b. b.now) bodies) position all → AreChecked C i (map (λ b. b.now) bodies) (position + 1) (all ++ checked ∷ [])
checked_more C D i j position bodies d all checked same is lt from before =
    let bytes = (get_or bodies position d).now in
    record {
      count = let n : length all ≡ position = before.count in length_push all checked ∙ ap (λ (k : ℕ). k + 1) n;
      each = λ k x e.
          elim (last_or_before all checked x k e) [
            | inl h ↦ before.each k x h
            | inr h ↦ subst (λ (y : CheckedBody). IsCheckedAt C i (map (λ b. b.now) bodies) k y) h.1
                (subst (λ (p : ℕ). IsCheckedAt C i (map (λ b. b.now) bodies) p checked) (sym (h.0 ∙ before.count))
                (bytes, bytes_there bodies position d lt, subst (λ (n : ℕ). IsCheckedFrom C (n + position) bytes checked) is (subst (λ (x : Context). IsCheckedFrom x (j + position) bytes checked) same from)))
          ];
    }
