-- From what is known of each group of bodies to what is known of the bodies.
use Rattle.std.proofs.Common.{Bor, ◌≡◌, ℕ, ◌+◌, ◌*◌, ◌/◌, ◌<◌, ◌≤◌, List, length, map, get_or, Some, None, sym, ap, subst, ◌∙◌, arith}
use Rattle.std.specs.Prelude.{option_map, slice_get}
use Rattle.std.specs.Int.{div_ceil}
use Rattle.std.proofs.Math.Nat.{div-mul-le_self, mul-le-mul_right, lt-div-mul-add, div-lt_iff_lt-mul}
use Rattle.std.proofs.lemmas.Grind.{div_ceil_times}
use Rattle.std.proofs.lemmas.Option.{slice_get-map, slice_get-get_or}
use mathlib.Core.Logic.{dite}
use native.Mathlib.Decide.{dec_lt}
use Rattle.wsyntax.specs.Validation.Context.{Context}
use Rattle.refusal.specs.declared.refusal.BodyRefusal.{BodyRefusal}
use Rattle.refusal.specs.declared.refusal.Refusal.{Refusal}
use Rattle.refusal.specs.declared.refusal.Refusal.TheVariants.{TooLarge, Malformed, Rule, Body, Memory}
use Rattle.verdict.specs.Judged.{body_refusal_of, given_refusal, body_refusal_at, IsBodyRefusal, PassBefore}
use Rattle.verdict.specs.Groups.{IsInGroup, GroupPasses, IsFirstOfGroup, GroupRefused}
use Rattle.refusal.specs.Refusals.{AllowsRefusal}

-- ---- each position is one of a group

group_below : (n size k : ℕ) → 0 < size → k < n → k / size < div_ceil n size
group_below n size k some below =
    let a = div-mul-le_self k size in
    let t = div_ceil_times n size some in
    dite (dec_lt (k / size) (div_ceil n size)) (λ y. y)
    (λ no. absurd (let c : div_ceil n size * size ≤ k / size * size = mul-le-mul_right size (omega arith) in omega arith))

in_group : (n size k : ℕ) → 0 < size → k < n → IsInGroup size n (k / size) k
in_group n size k some below = record { from = div-mul-le_self k size; to = lt-div-mul-add {a = k} {b = size} some; there = below }

-- ---- the run over all groups

-- each group passes, so each body does
pub groups_pass : (C : Context) (imported : ℕ) (bodies : List (List ℕ)) (size : ℕ) → 0 < size → ((i : ℕ) → i < div_ceil (length bodies) size → GroupPasses C imported bodies size i) → PassBefore C imported bodies (length bodies)
groups_pass C imported bodies size some all k lt = all (k / size) (group_below (length bodies) size k some lt) k (in_group (length bodies) size k some lt)

-- the bodies before the first refused one of a group, where all groups before it pass
pub pass_before : (C : Context) (imported : ℕ) (bodies : List (List ℕ)) (size group f : ℕ) (c : BodyRefusal) → 0 < size → (first : IsFirstOfGroup C imported bodies size group f c) → ((i : ℕ) → i < group → GroupPasses C imported bodies size i) → PassBefore C imported bodies first.position
pass_before C imported bodies size group f c some first earlier k lt =
    let inside = first.inside in
    let to = inside.to in
    let there = inside.there in
    dite (dec_lt k (group * size))
    (λ y. let sooner : k / size < group = (div-lt_iff_lt-mul {k = size} {x = k} {y = group} some).1 y in
    earlier (k / size) sooner k (in_group (length bodies) size k some (omega (arith, lt, there))))
    (λ late. first.before k record { from = omega (arith, late); to = omega (arith, to, lt); there = omega (arith, lt, there) } lt)

-- ---- one body more

-- the bytes of the body at a position
pub bytes_there : (bodies : List (Bor (List ℕ))) (position : ℕ) (d : Bor (List ℕ)) → position < length bodies → slice_get (map (λ b. b.now) bodies) position ≡ Some (get_or bodies position d).now
bytes_there bodies position d lt = slice_get-map (λ (b : Bor (List ℕ)). b.now) bodies position ∙ ap (option_map (λ (b : Bor (List ℕ)). b.now)) (slice_get-get_or bodies position d lt)

-- the refusal of the body at a position
pub refusal_there : (C D : Context) (i j position : ℕ) (bodies : List (Bor (List ℕ))) (d : Bor (List ℕ)) → D ≡ C → j ≡ i → position < length bodies → body_refusal_of D (j + position) (get_or bodies position d).now ≡ body_refusal_at C i (map (λ b. b.now) bodies) position
refusal_there C D i j position bodies d same is lt =
    ap (λ (x : Context). body_refusal_of x (j + position) (get_or bodies position d).now) same
    ∙ ap (λ (x : ℕ). body_refusal_of C (x + position) (get_or bodies position d).now) is
    ∙ sym (ap (given_refusal C (i + position)) (bytes_there bodies position d lt))

-- the bodies before a position pass, and so the one there
pub pass_more : (C : Context) (imported : ℕ) (bodies : List (List ℕ)) (position : ℕ) → PassBefore C imported bodies position → body_refusal_at C imported bodies position ≡ None → PassBefore C imported bodies (position + 1)
pass_more C imported bodies position before here k lt =
    dite (dec_lt k position) (λ y. before k y)
    (λ no. let same : position ≡ k = omega (arith, no, lt) in subst (λ (x : ℕ). body_refusal_at C imported bodies x ≡ None) same here)

-- the same of the bodies of a group
pub one_more : (C : Context) (imported : ℕ) (bodies : List (List ℕ)) (size group position : ℕ) → ((k : ℕ) → IsInGroup size (length bodies) group k → k < position → body_refusal_at C imported bodies k ≡ None) → body_refusal_at C imported bodies position ≡ None → (k : ℕ) → IsInGroup size (length bodies) group k → k < position + 1 → body_refusal_at C imported bodies k ≡ None
one_more C imported bodies size group position before here k inside lt =
    dite (dec_lt k position) (λ y. before k inside y)
    (λ no. let same : position ≡ k = omega (arith, no, lt) in subst (λ (x : ℕ). body_refusal_at C imported bodies x ≡ None) same here)

-- a body of a group is refused, and those of the group before it pass: so the group is refused
pub group_refused : (C : Context) (imported : ℕ) (bodies : List (List ℕ)) (size group position : ℕ) (x : Refusal) → IsInGroup size (length bodies) group position
    → ((k : ℕ) → IsInGroup size (length bodies) group k → k < position → body_refusal_at C imported bodies k ≡ None)
    → AllowsRefusal (IsBodyRefusal (imported + position) (body_refusal_at C imported bodies position)) x → AllowsRefusal (GroupRefused C imported bodies size group) x
group_refused C imported bodies size group position (Body f c) inside before a = record { position = position; index = a.0; inside = inside; refused = a.1; before = before }
group_refused C imported bodies size group position TooLarge inside before a = absurd a
group_refused C imported bodies size group position Malformed inside before a = absurd a
group_refused C imported bodies size group position (Rule k) inside before a = absurd a
group_refused C imported bodies size group position Memory inside before a = tt
