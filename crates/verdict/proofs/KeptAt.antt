-- The body at a position, judged and kept.
use Rattle.std.proofs.Common.{Bor, ◌≡◌, ℕ, ◌+◌, ◌<◌, List, length, map, get_or, Option, Some, None, refl, sym, subst}
use Rattle.std.specs.Prelude.{Result, MatchResult}
use Rattle.std.proofs.lemmas.Result.{MatchResult-weaker}
use Rattle.wsyntax.specs.Validation.Context.{Context}
use Rattle.checked_body.specs.declared.body.CheckedBody.{CheckedBody}
use Rattle.accepted_module.specs.Judgement.{IsCheckedFrom, IsCheckedAt}
use Rattle.refusal.specs.declared.refusal.Refusal.{Refusal}
use Rattle.verdict.specs.Judged.{body_refusal_of, given_refusal, body_refusal_at, IsBodyRefusal}
use Rattle.refusal.specs.Refusals.{AllowsRefusal}
use Rattle.verdict.proofs.Groups.{bytes_there}

-- what was found of the bytes of a body is found of the body
pub kept_at : (C D : Context) (i position : ℕ) (bodies : List (Bor (List ℕ))) (d : Bor (List ℕ)) (r : Result CheckedBody Refusal) → D ≡ C → position < length bodies
    → MatchResult r (λ checked. (body_refusal_of D (i + position) (get_or bodies position d).now ≡ None) × IsCheckedFrom D (i + position) (get_or bodies position d).now checked) (AllowsRefusal (IsBodyRefusal (i + position) (body_refusal_of D (i + position) (get_or bodies position d).now)))
    → MatchResult r (λ checked. (body_refusal_at C i (map (λ b. b.now) bodies) position ≡ None) × IsCheckedAt C i (map (λ b. b.now) bodies) position checked) (AllowsRefusal (IsBodyRefusal (i + position) (body_refusal_at C i (map (λ b. b.now) bodies) position)))
kept_at C D i position bodies d r same lt h =
    let bytes = (get_or bodies position d).now in
    let f = i + position in
    let P : Option (List ℕ) → Type 0 = λ o. MatchResult r (λ checked. (given_refusal C f o ≡ None) × ((b : List ℕ) × (o ≡ Some b) × IsCheckedFrom C f b checked)) (AllowsRefusal (IsBodyRefusal f (given_refusal C f o))) in
    let Q : Context → Type 0 = λ x. MatchResult r (λ checked. (body_refusal_of x f bytes ≡ None) × IsCheckedFrom x f bytes checked) (AllowsRefusal (IsBodyRefusal f (body_refusal_of x f bytes))) in
    let here : P (Some bytes) = MatchResult-weaker r (subst Q same h) (λ x p. (p.0, (bytes, refl, p.1))) (λ e q. q) in
    subst P (sym (bytes_there bodies position d lt)) here
