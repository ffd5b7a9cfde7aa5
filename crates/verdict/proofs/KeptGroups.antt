-- From what is known of each group of kept bodies to what is known of all of them.
use Rattle.std.proofs.Common.{Bor, map, get_or, ◌≡◌, ℕ, zero, suc, ◌+◌, ◌-◌, ◌*◌, ◌<◌, min, ◌⊎◌, inl, inr, List, [], ◌∷◌, ◌++◌, length, Some, None, refl, sym, ap, subst, ◌∙◌, arith}
use Rattle.std.specs.Prelude.{slice_get}
use Rattle.std.specs.List.{flat_map}
use Rattle.std.specs.Int.{div_ceil}
use Rattle.std.proofs.lemmas.Grind.{div_ceil_times}
use Rattle.std.proofs.lemmas.List.{length-append, length-map}
use Rattle.std.proofs.lemmas.Option.{slice_get_within}
use Rattle.std.proofs.Math.Nat.{min-eq_left, min-eq_right}
use mathlib.Core.Logic.{dite}
use native.Mathlib.Decide.{dec_le}
use Rattle.pieces.specs.TryAll.{AllPass, StopsAt}
use Rattle.pieces.specs.declared.trying.TryFault.{TryFault}
use Rattle.pieces.specs.declared.trying.TryFault.TheVariants.{Stopped}
use Rattle.pieces.specs.declared.trying.TryFault.TheVariants as run
use Rattle.wsyntax.specs.Validation.Context.{Context}
use Rattle.checked_body.specs.declared.body.CheckedBody.{CheckedBody}
use Rattle.accepted_module.specs.Judgement.{IsCheckedAt, AreChecked}
use Rattle.refusal.specs.declared.refusal.Refusal.{Refusal}
use Rattle.refusal.specs.declared.refusal.Refusal.TheVariants.{TooLarge, Malformed, Rule, Body, Memory}
use Rattle.verdict.specs.Judged.{body_refusal_of, body_refusal_at, IsBodyRefusal, PassBefore, IsFirstBody}
use Rattle.verdict.specs.Groups.{IsInGroup, GroupPasses, IsFirstOfGroup, GroupRefused, StandFrom, AreOfGroup}
use Rattle.refusal.specs.Refusals.{AllowsRefusal, of_run}
use Rattle.verdict.proofs.CheckedBodies.{last_or_before}
use Rattle.verdict.proofs.Firsts.{each_passes}
use Rattle.verdict.proofs.Groups.{groups_pass, pass_before, refusal_there}

-- ---- one body more

pub stand_more : (C : Context) (imported : ℕ) (bodies : List (List ℕ)) (first position : ℕ) (kept : List CheckedBody) (checked : CheckedBody) → StandFrom C imported bodies first kept
    → first + length kept ≡ position → IsCheckedAt C imported bodies position checked
    → StandFrom C imported bodies first (kept ++ checked ∷ [])
stand_more C imported bodies first position kept checked before at here k x e =
    elim (last_or_before kept checked x k e) [
      | inl h ↦ before k x h
      | inr h ↦ subst (λ (y : CheckedBody). IsCheckedAt C imported bodies (first + k) y) h.1
          (subst (λ (p : ℕ). IsCheckedAt C imported bodies p checked) (let same : k ≡ length kept = h.0 in omega (arith, same, at)) here)
    ]

-- ---- the end of a group

-- a position of the group lies before its end
before_end : (size n start position : ℕ) → position < start + size → position < n → position < start + min size (n - start)
before_end size n start position to there =
    dite (dec_le size (n - start))
    (λ le. let e : min size (n - start) ≡ size = min-eq_left le in omega (arith, e, to))
    (λ no. let e : min size (n - start) ≡ n - start = min-eq_right (omega (arith, no)) in omega (arith, e, there, no))

-- all of the group were judged
pub whole_group : (C : Context) (imported : ℕ) (bodies : List (List ℕ)) (size group n position : ℕ) (kept : List CheckedBody) → length bodies ≡ n → position ≡ group * size + min size (n - group * size)
    → ((k : ℕ) → IsInGroup size (length bodies) group k → k < position → body_refusal_at C imported bodies k ≡ None)
    → group * size + length kept ≡ position → StandFrom C imported bodies (group * size) kept
    → GroupPasses C imported bodies size group × AreOfGroup C imported bodies size group kept
whole_group C imported bodies size group n position kept same end before count each = (
  λ k inside. before k inside (let to = inside.to in let there = inside.there in let e = before_end size n (group * size) k to (omega (arith, there, same)) in omega (arith, e, end)),
  record { count = subst (λ (m : ℕ). length kept ≡ min size (m - group * size)) (sym same) (omega (arith, count, end)); each = each },
)

-- ---- the groups one after the other

-- what stands at a position of two lists
first_or_second : {A : Type 0} (xs ys : List A) (y : A) (k : ℕ) → slice_get (xs ++ ys) k ≡ Some y → (slice_get xs k ≡ Some y) ⊎ ((m : ℕ) × (k ≡ length xs + m) × (slice_get ys m ≡ Some y))
first_or_second [] ys y k e = inr (k, omega arith, e)
first_or_second (x ∷ xs) ys y zero e = inl e
first_or_second (x ∷ xs) ys y (suc k) e = elim (first_or_second xs ys y k e) [ inl h ↦ inl h | inr h ↦ inr (h.0, let at : k ≡ length xs + h.0 = h.1 in omega (arith, at), h.2) ]

module _ (C : Context) (imported : ℕ) (bodies : List (List ℕ)) (size : ℕ) {X : Type 0} (items : X → List CheckedBody) where
  -- each is that of its group, from the group `first` on
  abbrev AreGroups : ℕ → List X → Type 0
  AreGroups first groups = (i : ℕ) (g : X) → slice_get groups i ≡ Some g → AreOfGroup C imported bodies size (first + i) (items g)

  record Joined (first : ℕ) (groups : List X) : Type 0 where
    count : length (flat_map items groups) ≡ min (length groups * size) (length bodies - first * size)
    each : StandFrom C imported bodies (first * size) (flat_map items groups)

  next : (first : ℕ) (g : X) (groups : List X) → AreGroups first (g ∷ groups) → AreGroups (suc first) groups
  next first g groups all i x e = subst (λ (p : ℕ). AreOfGroup C imported bodies size p (items x)) (omega arith) (all (suc i) x e)

  both : (first : ℕ) (g : X) (groups : List X) → AreOfGroup C imported bodies size first (items g) → Joined (suc first) groups → StandFrom C imported bodies (first * size) (items g ++ flat_map items groups)
  both first g groups here after k x e =
      elim (first_or_second (items g) (flat_map items groups) x k e) [
        | inl h ↦ here.each k x h
        | inr h ↦
            let within : h.0 < length (flat_map items groups) = slice_get_within (flat_map items groups) h.0 x h.2 in
            let at : k ≡ length (items g) + h.0 = h.1 in
            let whole = here.count in
            let rest = after.count in
            subst (λ (p : ℕ). IsCheckedAt C imported bodies p x) (omega (arith, within, at, whole, rest)) (after.each h.0 x h.2)
      ]

  joined : (first : ℕ) (groups : List X) → AreGroups first groups → Joined first groups
  joined first [] all = record { count = omega arith; each = λ k x e. absurd cc }
  joined first (g ∷ groups) all =
      let here : AreOfGroup C imported bodies size first (items g) = subst (λ (p : ℕ). AreOfGroup C imported bodies size p (items g)) (omega arith) (all 0 g refl) in
      let after = joined (suc first) groups (next first g groups all) in
      let whole = here.count in
      let rest = after.count in
      let long = length-append (items g) (flat_map items groups) in
      record { count = omega (arith, whole, rest, long); each = both first g groups here after }

  -- the bodies of all groups are the checked ones
  pub groups_checked : (passes : ℕ → Type 0) (n : ℕ) (groups : List X) → 0 < size → n ≡ div_ceil (length bodies) size → AllPass n passes (λ i g. AreOfGroup C imported bodies size i (items g)) groups
      → AreChecked C imported bodies (length bodies) (flat_map items groups)
  groups_checked passes n groups some count all =
      let whole = joined 0 groups (λ i g e. subst (λ (p : ℕ). AreOfGroup C imported bodies size p (items g)) (omega arith) (all.each i g e).1) in
      let long = whole.count in
      let many = all.len in
      let enough = div_ceil_times (length bodies) size some in
      record {
        count = let product : length groups * size ≡ div_ceil (length bodies) size * size = ap (λ (m : ℕ). m * size) (many ∙ count) in omega (arith, long, product, enough);
        each = λ k x e. subst (λ (p : ℕ). IsCheckedAt C imported bodies p x) (omega arith) (whole.each k x e);
      }

-- ---- the run over all groups, where j functions are imported

-- each group passes
pub groups_passed : {O : Type 0} (C : Context) (i j size n : ℕ) (bodies : List (Bor (List ℕ))) (gives : ℕ → O → Type 0) (outs : List O) → j ≡ i → 0 < size → n ≡ div_ceil (length bodies) size
    → AllPass n (GroupPasses C j (map (λ b. b.now) bodies) size) gives outs → PassBefore C i (map (λ b. b.now) bodies) (length bodies)
groups_passed C i j size n bodies gives outs is some count all =
    let same = length-map bodies (λ (b : Bor (List ℕ)). b.now) in
    subst (λ (x : ℕ). PassBefore C x (map (λ b. b.now) bodies) (length bodies)) is
    (subst (λ (m : ℕ). PassBefore C j (map (λ b. b.now) bodies) m) same
    (groups_pass C j (map (λ b. b.now) bodies) size some
    (λ k lt. each_passes (GroupPasses C j (map (λ b. b.now) bodies) size) gives n outs all k (let below : k < div_ceil (length bodies) size = subst (λ (m : ℕ). k < div_ceil m size) same lt in omega (arith, count, below)))))

-- so all bodies are the checked ones
pub groups_kept : {X : Type 0} (items : X → List CheckedBody) (C : Context) (i j size n : ℕ) (bodies : List (Bor (List ℕ))) (passes : ℕ → Type 0) (groups : List X) (all : List CheckedBody) → j ≡ i → 0 < size → n ≡ div_ceil (length bodies) size
    → AllPass n passes (λ k g. AreOfGroup C j (map (λ b. b.now) bodies) size k (items g)) groups → all ≡ flat_map items groups → AreChecked C i (map (λ b. b.now) bodies) (length bodies) all
groups_kept items C i j size n bodies passes groups all is some count passed whole =
    let same = length-map bodies (λ (b : Bor (List ℕ)). b.now) in
    subst (λ (x : ℕ). AreChecked C x (map (λ b. b.now) bodies) (length bodies) all) is
    (subst (λ (m : ℕ). AreChecked C j (map (λ b. b.now) bodies) m all) same
    (subst (λ (xs : List CheckedBody). AreChecked C j (map (λ b. b.now) bodies) (length (map (λ b. b.now) bodies)) xs) (sym whole)
    (groups_checked C j (map (λ b. b.now) bodies) size items passes n groups some (count ∙ ap (λ (m : ℕ). div_ceil m size) (sym same)) passed)))

first_group : (C : Context) (imported : ℕ) (bodies : List (List ℕ)) (size n : ℕ) (e : TryFault Refusal) → 0 < size
    → StopsAt n (GroupPasses C imported bodies size) (GroupRefused C imported bodies size) e → IsFirstBody C imported bodies (of_run e)
first_group C imported bodies size n (Stopped i (Body f c)) some stop =
    let first : IsFirstOfGroup C imported bodies size i f c = stop.1 in
    let inside = first.inside in
    (first.position, inside.there, first.index, first.refused, pass_before C imported bodies size i f c some first stop.2)
first_group C imported bodies size n (Stopped i TooLarge) some stop = absurd stop.1
first_group C imported bodies size n (Stopped i Malformed) some stop = absurd stop.1
first_group C imported bodies size n (Stopped i (Rule k)) some stop = absurd stop.1
first_group C imported bodies size n (Stopped i Memory) some stop = tt
first_group C imported bodies size n run.Memory some stop = tt

-- a group is refused, and all before it pass
pub group_stopped : (C : Context) (i j size n : ℕ) (bodies : List (Bor (List ℕ))) (e : TryFault Refusal) → j ≡ i → 0 < size
    → StopsAt n (GroupPasses C j (map (λ b. b.now) bodies) size) (GroupRefused C j (map (λ b. b.now) bodies) size) e → IsFirstBody C i (map (λ b. b.now) bodies) (of_run e)
group_stopped C i j size n bodies e is some stop =
    subst (λ (x : ℕ). IsFirstBody C x (map (λ b. b.now) bodies) (of_run e)) is (first_group C j (map (λ b. b.now) bodies) size n e some stop)

-- ---- one body after the other

-- the body at a position is refused, and those before it pass
pub first_body : (C D : Context) (i j position : ℕ) (bodies : List (Bor (List ℕ))) (d : Bor (List ℕ)) (x : Refusal) → D ≡ C → j ≡ i → position < length bodies
    → PassBefore C i (map (λ b. b.now) bodies) position → AllowsRefusal (IsBodyRefusal (j + position) (body_refusal_of D (j + position) (get_or bodies position d).now)) x
    → IsFirstBody C i (map (λ b. b.now) bodies) x
first_body C D i j position bodies d (Body f c) same is lt before a =
    let n = length-map bodies (λ (b : Bor (List ℕ)). b.now) in (
      position,
      omega (arith, n, lt),
      a.0 ∙ ap (λ (k : ℕ). k + position) is,
      sym (refusal_there C D i j position bodies d same is lt) ∙ a.1,
      before,
    )
first_body C D i j position bodies d TooLarge same is lt before a = absurd a
first_body C D i j position bodies d Malformed same is lt before a = absurd a
first_body C D i j position bodies d (Rule k) same is lt before a = absurd a
first_body C D i j position bodies d Memory same is lt before a = tt
