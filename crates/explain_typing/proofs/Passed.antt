-- The tokens right before an ill-typed one, token by token.
use Rattle.std.proofs.Common.{◌≡◌, ℕ, ◌+◌, ◌-◌, ◌<◌, ◌≤◌, List, [], ◌∷◌, ◌++◌, length, Some, refl, sym, ◌∙◌, subst, arith}
use Rattle.explanation.specs.declared.typing.PassedToken.{PassedToken}
use Rattle.explain_bytes.specs.Locations.{IsFirstOf, IsLeft, IsTokenAt, left_after}
use Rattle.explain_typing.specs.Typed.{ArePassed}
use Rattle.explain_typing.proofs.Openings.{each_more, one_longer}

-- none yet
pub none_passed_yet : (body : List ℕ) (start count : ℕ) (passed : List PassedToken) → passed ≡ [] → ArePassed body start count 0 passed
none_passed_yet body start count passed e =
    subst (λ (ps : List PassedToken). ArePassed body start count 0 ps) (sym e) (record { number = omega arith; tokens = λ k p g. let no : ⊥ = cc in absurd no })

-- one that is too far in front
pub not_kept : (body : List ℕ) (start count n : ℕ) (passed : List PassedToken) → n < count - 4 → ArePassed body start count n passed → ArePassed body start count (n + 1) passed
not_kept body start count n passed l a = record { number = omega (arith, l, a.number); tokens = a.tokens }

-- one more
pub one_kept : (body rest : List ℕ) (start count n : ℕ) (passed new : List PassedToken) (p : PassedToken) → count - 4 ≤ n → new ≡ passed ++ p ∷ [] → p.position ≡ n
    → IsLeft body n rest → IsFirstOf body start rest p.found → ArePassed body start count n passed → ArePassed body start count (n + 1) new
one_kept body rest start count n passed new p l e at left first a =
    let told : ℕ → PassedToken → Type 0 = λ k (q : PassedToken). (q.position ≡ (count - 4) + k) × IsTokenAt body start q.position q.found in
    let stands : IsTokenAt body start p.position p.found = subst (λ i. IsTokenAt body start i p.found) (sym at) (rest, left, first) in
    let here : told (length passed) p = (at ∙ omega (arith, l, a.number), stands) in
    subst (λ (ps : List PassedToken). ArePassed body start count (n + 1) ps) (sym e) (record {
      number = omega (arith, l, a.number, one_longer passed (passed ++ p ∷ []) p (length passed) refl refl);
      tokens = each_more told passed p a.tokens here;
    })

-- what is left of the code is left of the body
pub left_of_body : (body code rest : List ℕ) (n : ℕ) → IsLeft body 0 code → left_after n code ≡ Some rest → IsLeft body n rest
left_of_body body code rest n (runs, all, declared, same) l =
    let is : all ≡ code = cc in
    (runs, all, declared, subst (λ (c : List ℕ). left_after n c ≡ Some rest) (sym is) l)
