-- The groups of consecutive bodies that are judged in one go: all have the same size, but that the last may be shorter.
use Rattle.std.specs.Prelude.{◌≡◌, ◌<◌, ◌≤◌, ◌+◌, ◌*◌, ◌-◌, ℕ, min, List, Some, None, length, slice_get}
use Rattle.std.proofs.Common.{ap, sym, ◌∙◌}
use Rattle.std.proofs.Math.Nat.{le_antisymm, lt_of_not-le}
use mathlib.Core.Logic.{dite}
use native.Mathlib.Decide.{dec_le}
use Rattle.wsyntax.specs.Validation.Context.{Context}
use Rattle.checked_body.specs.declared.body.CheckedBody.{CheckedBody}
use Rattle.accepted_module.specs.Judgement.{IsCheckedAt}
use Rattle.refusal.specs.declared.refusal.BodyRefusal.{BodyRefusal}
use Rattle.refusal.specs.declared.refusal.Refusal.{Refusal}
use Rattle.refusal.specs.declared.refusal.Refusal.TheVariants.{TooLarge, Malformed, Rule, Body, Memory}
use Rattle.verdict.specs.Judged.{body_refusal_at, none_and_some, one_body_refusal}

-- of `count` bodies the one at `position` is one of the group
pub record IsInGroup (size count group position : ℕ) : Type 0 where
  pub from : group * size ≤ position
  pub to : position < group * size + size
  pub there : position < count

-- the bodies of the group are accepted
abbrev pub GroupPasses : Context → ℕ → List (List ℕ) → ℕ → ℕ → Type 0
GroupPasses C imported bodies size group = (position : ℕ) → IsInGroup size (length bodies) group position → body_refusal_at C imported bodies position ≡ None

-- the body of function f is the first of the group that is refused, for that reason
pub record IsFirstOfGroup (C : Context) (imported : ℕ) (bodies : List (List ℕ)) (size group f : ℕ) (c : BodyRefusal) : Type 0 where
  pub position : ℕ
  pub index : f ≡ imported + position
  pub inside : IsInGroup size (length bodies) group position
  pub refused : body_refusal_at C imported bodies position ≡ Some c
  pub before : (k : ℕ) → IsInGroup size (length bodies) group k → k < position → body_refusal_at C imported bodies k ≡ None

-- the refusal of the group is that of its first body that is refused
abbrev pub GroupRefused : Context → ℕ → List (List ℕ) → ℕ → ℕ → Refusal → Type 0
GroupRefused C imported bodies size group (Body f c) = IsFirstOfGroup C imported bodies size group f c
GroupRefused C imported bodies size group TooLarge = ⊥
GroupRefused C imported bodies size group Malformed = ⊥
GroupRefused C imported bodies size group (Rule k) = ⊥
GroupRefused C imported bodies size group Memory = ⊥

-- from that position on these are the checked bodies
abbrev pub StandFrom : Context → ℕ → List (List ℕ) → ℕ → List CheckedBody → Type 0
StandFrom C imported bodies first kept = (k : ℕ) (checked : CheckedBody) → slice_get kept k ≡ Some checked → IsCheckedAt C imported bodies (first + k) checked

-- these are the checked bodies of the group, in their order
pub record AreOfGroup (C : Context) (imported : ℕ) (bodies : List (List ℕ)) (size group : ℕ) (kept : List CheckedBody) : Type 0 where
  pub count : length kept ≡ min size (length bodies - group * size)
  pub each : StandFrom C imported bodies (group * size) kept

-- ---- no group passes and is refused, nor is refused for two reasons

pub passes_or_refused : (C : Context) (imported : ℕ) (bodies : List (List ℕ)) (size group : ℕ) (r : Refusal) → GroupPasses C imported bodies size group → GroupRefused C imported bodies size group r → ⊥
passes_or_refused C imported bodies size group (Body f c) all first = none_and_some (body_refusal_at C imported bodies first.position) c (all first.position first.inside) first.refused
passes_or_refused C imported bodies size group TooLarge all x = x
passes_or_refused C imported bodies size group Malformed all x = x
passes_or_refused C imported bodies size group (Rule k) all x = x
passes_or_refused C imported bodies size group Memory all x = x

-- no first one comes before another
not_before : (C : Context) (imported : ℕ) (bodies : List (List ℕ)) (size group f g : ℕ) (c d : BodyRefusal) (a : IsFirstOfGroup C imported bodies size group f c) (b : IsFirstOfGroup C imported bodies size group g d) → a.position < b.position → ⊥
not_before C imported bodies size group f g c d a b lt = none_and_some (body_refusal_at C imported bodies a.position) c (b.before a.position a.inside lt) a.refused

same_position : (C : Context) (imported : ℕ) (bodies : List (List ℕ)) (size group f g : ℕ) (c d : BodyRefusal) (a : IsFirstOfGroup C imported bodies size group f c) (b : IsFirstOfGroup C imported bodies size group g d) → a.position ≡ b.position
same_position C imported bodies size group f g c d a b =
    dite (dec_le a.position b.position)
    (λ up. dite (dec_le b.position a.position) (λ down. le_antisymm up down) (λ no. absurd (not_before C imported bodies size group f g c d a b (lt_of_not-le no))))
    (λ no. absurd (not_before C imported bodies size group g f d c b a (lt_of_not-le no)))

same_body : (C : Context) (imported : ℕ) (bodies : List (List ℕ)) (size group f g : ℕ) (c d : BodyRefusal) → IsFirstOfGroup C imported bodies size group f c → IsFirstOfGroup C imported bodies size group g d → Body f c ≡ Body g d
same_body C imported bodies size group f g c d a b =
    let p : a.position ≡ b.position = same_position C imported bodies size group f g c d a b in
    let index : f ≡ g = a.index ∙ ap (λ (k : ℕ). imported + k) p ∙ sym b.index in
    let reason : c ≡ d = one_body_refusal (body_refusal_at C imported bodies a.position) c d a.refused (ap (λ (k : ℕ). body_refusal_at C imported bodies k) p ∙ b.refused) in
    ap (λ (k : ℕ). Body k c) index ∙ ap (Body g) reason

pub one_first : (C : Context) (imported : ℕ) (bodies : List (List ℕ)) (size group : ℕ) (r s : Refusal) → GroupRefused C imported bodies size group r → GroupRefused C imported bodies size group s → r ≡ s
one_first C imported bodies size group (Body f c) (Body g d) a b = same_body C imported bodies size group f g c d a b
one_first C imported bodies size group (Body f c) TooLarge a b = absurd b
one_first C imported bodies size group (Body f c) Malformed a b = absurd b
one_first C imported bodies size group (Body f c) (Rule k) a b = absurd b
one_first C imported bodies size group (Body f c) Memory a b = absurd b
one_first C imported bodies size group TooLarge s a b = absurd a
one_first C imported bodies size group Malformed s a b = absurd a
one_first C imported bodies size group (Rule k) s a b = absurd a
one_first C imported bodies size group Memory s a b = absurd a
