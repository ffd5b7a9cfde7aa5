-- A declared local is found by halving the runs.
use Rattle.std.proofs.Common.{◌≡◌, ℕ, zero, suc, ◌+◌, ◌-◌, ◌^◌, ◌/◌, ◌<◌, ◌≤◌, true, false, cond, List, [], ◌∷◌, ◌++◌, length, drop, take, map, get_or, slice_get, Option, Some, None, refl, sym, ap, ◌∙◌, subst, arith}
use Rattle.std.specs.Prelude.{replicate, min, nat_lt}
use Rattle.std.proofs.lemmas.List.{drop_more, map-append, take_more}
use Rattle.std.proofs.lemmas.Option.{slice_get_within, get_or_from_slice_get, slice_get-get_or}
use Rattle.wsyntax.specs.declared.ValType.{ValType}
use Rattle.wsyntax.specs.declared.LocalRun.{LocalRun}
use Rattle.wsyntax.specs.Validation.ModuleContext.{declared}
use Rattle.wcheck.specs.declared.locals.EndedRun.{EndedRun}
use Rattle.wcheck.specs.LocalRuns.{run_of, AreEnds}
use Rattle.wcheck.proofs.Declared.{in_run, past_run}

-- the first run that ends past x
unfoldable pub look : ℕ → List EndedRun → Option ValType
look x [] = None
look x (r ∷ rs) = cond (nat_lt x r.end) (Some r.run.val_type) (look x rs)

is_in : (x e : ℕ) → x < e → nat_lt x e ≡ true
is_in x e lt = grind (arith, lt)

is_past : (x e : ℕ) → e ≤ x → nat_lt x e ≡ false
is_past x e le = grind (arith, le)

min_in : (b c x e m : ℕ) → e ≡ min (b + c) m → x < e → x < b + c
min_in b c x e m q lt = grind (arith, q, lt)

min_past : (b c x e m : ℕ) → e ≡ min (b + c) m → e ≤ x → x < m → e ≡ b + c
min_past b c x e m q le lt = grind (arith, q, le, lt)

min_rises : (b c e m : ℕ) → e ≡ min (b + c) m → b ≤ m → b ≤ e
min_rises b c e m q le = grind (arith, q, le)

min_small : (b c e m : ℕ) → e ≡ min (b + c) m → e ≤ m
min_small b c e m q = grind (arith, q)

-- the first run that ends past a declared local is its run
looked : (b x k : ℕ) (rs : List EndedRun) → AreEnds b rs → x ≡ b + k → x < 2 ^ 64 - 1 → slice_get (declared (map run_of rs)) k ≡ look x rs
unfolding look
looked b x k [] h e lt = refl
looked b x k (r ∷ rs) h e lt =
    (elim (nat_lt x r.end) as (λ v. nat_lt x r.end ≡ v → slice_get (replicate r.run.count r.run.val_type ++ declared (map run_of rs)) k ≡ cond v (Some r.run.val_type) (look x rs)) [
      | true ↦ λ q. in_run r.run.count r.run.val_type (declared (map run_of rs)) k (below b r.run.count x k e (min_in b r.run.count x r.end (2 ^ 64 - 1) h.0 (lt_of x r.end q)))
      | false ↦ λ q. (let le = le_of x r.end q in
          let same = min_past b r.run.count x r.end (2 ^ 64 - 1) h.0 le lt in
          past_run r.run.count r.run.val_type (declared (map run_of rs)) k (x - r.end) (rest_is b r.run.count x k r.end e same le) ∙ looked r.end x (x - r.end) rs h.1 (back x r.end le) lt)
    ]) refl
  where
    lt_of : (y n : ℕ) → nat_lt y n ≡ true → y < n
    lt_of y n q = grind (arith, q)

    le_of : (y n : ℕ) → nat_lt y n ≡ false → n ≤ y
    le_of y n q = grind (arith, q)

    below : (a c y j : ℕ) → y ≡ a + j → y < a + c → j < c
    below a c y j q l = omega (arith, q, l)

    rest_is : (a c y j n : ℕ) → y ≡ a + j → n ≡ a + c → n ≤ y → j ≡ c + (y - n)
    rest_is a c y j n q s l = omega (arith, q, s, l)

    back : (y n : ℕ) → n ≤ y → y ≡ n + (y - n)
    back y n l = omega (arith, l)

-- the ends do not fall
rises : (b j : ℕ) (rs : List EndedRun) (d : EndedRun) → AreEnds b rs → j < length rs → b ≤ 2 ^ 64 - 1 → b ≤ (get_or rs j d).end
rises b j [] d h lt le = absurd (omega (arith, lt))
rises b zero (r ∷ rs) d h lt le = min_rises b r.run.count r.end (2 ^ 64 - 1) h.0 le
rises b (suc j) (r ∷ rs) d h lt le =
    let a = min_rises b r.run.count r.end (2 ^ 64 - 1) h.0 le in
    let c = rises r.end j rs d h.1 (omega (arith, lt)) (min_small b r.run.count r.end (2 ^ 64 - 1) h.0) in
    through b r.end (get_or rs j d).end a c
  where
    through : (m n o : ℕ) → m ≤ n → n ≤ o → m ≤ o
    through m n o p q = omega (arith, p, q)

-- runs that end at x or before it may be passed
past : (b x i : ℕ) (rs : List EndedRun) (d : EndedRun) → AreEnds b rs → b ≤ 2 ^ 64 - 1 → i < length rs → (get_or rs i d).end ≤ x → look x rs ≡ look x (drop (suc i) rs)
unfolding look
past b x i [] d h le lt e = absurd (omega (arith, lt))
past b x zero (r ∷ rs) d h le lt e = ap (λ v. cond v (Some r.run.val_type) (look x rs)) (is_past x r.end e)
past b x (suc i) (r ∷ rs) d h le lt e =
    let small = min_small b r.run.count r.end (2 ^ 64 - 1) h.0 in
    let lower = rises r.end i rs d h.1 (omega (arith, lt)) small in
    ap (λ v. cond v (Some r.run.val_type) (look x rs)) (is_past x r.end (through r.end (get_or rs i d).end x lower e)) ∙ past r.end x i rs d h.1 small (omega (arith, lt)) e
  where
    through : (m n o : ℕ) → m ≤ n → n ≤ o → m ≤ o
    through m n o p q = omega (arith, p, q)

unfoldable pub looks_from : ℕ → ℕ → List EndedRun → Type 0
looks_from x i rs = look x (drop i rs) ≡ look x rs

pub looks_first : (x : ℕ) (rs : List EndedRun) → looks_from x 0 rs
unfolding looks_from
looks_first x rs = refl

-- a run that ends at x or before it stands in the middle
pub looks_past : (x middle : ℕ) (rs : List EndedRun) (d : EndedRun) → AreEnds 0 rs → middle < length rs → (get_or rs middle d).end ≤ x → looks_from x (middle + 1) rs
unfolding looks_from
looks_past x middle rs d h lt le =
    let n : suc middle ≡ middle + 1 = omega arith in
    ap (λ m. look x (drop m rs)) (sym n) ∙ sym (past 0 x middle rs d h zero_le lt le)
  where
    zero_le : 0 ≤ 2 ^ 64 - 1
    zero_le = omega arith

-- a run is left
pub found_at : (x low : ℕ) (rs : List EndedRun) (d : EndedRun) → AreEnds 0 rs → x < 2 ^ 64 - 1 → looks_from x low rs → low < length rs → x < (get_or rs low d).end → Some (get_or rs low d).run.val_type ≡ slice_get (declared (map run_of rs)) x
unfolding looks_from look
found_at x low rs d h lt e within le =
    let here : look x (drop low rs) ≡ Some (get_or rs low d).run.val_type =
    ap (look x) (drop_more rs low d within) ∙ ap (λ v. cond v (Some (get_or rs low d).run.val_type) (look x (drop (low + 1) rs))) (is_in x (get_or rs low d).end le) in
    sym (looked 0 x x rs h (omega arith) lt ∙ sym e ∙ here)

nothing_left : {A : Type 0} (xs : List A) (i : ℕ) → length xs ≤ i → drop i xs ≡ []
nothing_left [] zero le = refl
nothing_left [] (suc i) le = refl
nothing_left (x ∷ xs) zero le = absurd (omega (arith, le))
nothing_left (x ∷ xs) (suc i) le = nothing_left xs i (omega (arith, le))

-- no run is left
pub none_at : (x low : ℕ) (rs : List EndedRun) → AreEnds 0 rs → x < 2 ^ 64 - 1 → looks_from x low rs → length rs ≤ low → None ≡ slice_get (declared (map run_of rs)) x
unfolding looks_from look
none_at x low rs h lt e g =
    sym (looked 0 x x rs h (omega arith) lt ∙ sym e ∙ ap (look x) (nothing_left rs low g))

-- where the halving ends
pub at_low : (x low high : ℕ) (rs : List EndedRun) (d : EndedRun) → low ≤ high → high ≤ low → low < length rs → ((r : EndedRun) → slice_get rs high ≡ Some r → x < r.end) → x < (get_or rs low d).end
at_low x low high rs d a b lt f =
    let same : high ≡ low = omega (arith, a, b) in
    f (get_or rs low d) (ap (slice_get rs) same ∙ slice_get-get_or rs low d lt)

-- the run that stands there ends past x
pub ends_past : (rs : List EndedRun) (i x : ℕ) (d r : EndedRun) → x < (get_or rs i d).end → slice_get rs i ≡ Some r → x < r.end
ends_past rs i x d r lt e = subst (λ q. x < q.end) (get_or_from_slice_get rs i r d e) lt

-- ---- one run more

abbrev pub last_end : ℕ → List EndedRun → ℕ
last_end b [] = b
last_end b (r ∷ rs) = last_end r.end rs

pub more_ends : (b : ℕ) (rs : List EndedRun) (r : EndedRun) → AreEnds b rs → r.end ≡ min (last_end b rs + r.run.count) (2 ^ 64 - 1) → AreEnds b (rs ++ r ∷ [])
more_ends b [] r h e = (e, tt)
more_ends b (q ∷ rs) r h e = (h.0, more_ends q.end rs r h.1 e)

pub more_last : (b : ℕ) (rs : List EndedRun) (r : EndedRun) → last_end b (rs ++ r ∷ []) ≡ r.end
more_last b [] r = refl
more_last b (q ∷ rs) r = more_last q.end rs r

-- ---- the positions

pub before_end : (rs : List EndedRun) (r : EndedRun) (x : ℕ) → slice_get rs (length rs) ≡ Some r → x < r.end
before_end rs r x e = absurd (omega (arith, slice_get_within rs (length rs) r e))

pub middle_up : (a b n : ℕ) → a < b → b ≤ n → (a + (b - a) / 2 + 1 ≤ b) × (a + (b - a) / 2 < n)
middle_up a b n lt le =
    let h : (b - a) / 2 < b - a = half (b - a) (omega (arith, lt)) in
    (up a b ((b - a) / 2) lt h, within a b n ((b - a) / 2) lt le h)
  where
    half : (m : ℕ) → 0 < m → m / 2 < m
    half m p = grind (arith, p)

    up : (i j k : ℕ) → i < j → k < j - i → i + k + 1 ≤ j
    up i j k p q = omega (arith, p, q)

    within : (i j m k : ℕ) → i < j → j ≤ m → k < j - i → i + k < m
    within i j m k p o q = omega (arith, p, o, q)

pub middle_down : (a b n : ℕ) → a < b → b ≤ n → (a ≤ a + (b - a) / 2) × (a + (b - a) / 2 ≤ n)
middle_down a b n lt le =
    let m = (middle_up a b n lt le).1 in (omega arith, less (a + (b - a) / 2) n m)
  where
    less : (i j : ℕ) → i < j → i ≤ j
    less i j p = omega (arith, p)

-- a run is added
pub one_more : (old new : List EndedRun) (r : EndedRun) (e i : ℕ) (runs : List LocalRun) (d : LocalRun) → AreEnds 0 old → last_end 0 old ≡ e → map run_of old ≡ take i runs → i < length runs → new ≡ old ++ r ∷ [] → r.run ≡ get_or runs i d → r.end ≡ min (e + r.run.count) (2 ^ 64 - 1) → AreEnds 0 new × (last_end 0 new ≡ r.end) × (map run_of new ≡ take (i + 1) runs)
one_more old new r e i runs d h l m lt q same end_is =
    let same_end : r.end ≡ min (last_end 0 old + r.run.count) (2 ^ 64 - 1) = end_is ∙ ap (λ n. min (n + r.run.count) (2 ^ 64 - 1)) (sym l) in (
      subst (AreEnds 0) (sym q) (more_ends 0 old r h same_end),
      ap (last_end 0) q ∙ more_last 0 old r,
      ap (map run_of) q ∙ map-append run_of old (r ∷ []) ∙ ap (λ xs. xs ++ r.run ∷ []) m ∙ ap (λ x. take i runs ++ x ∷ []) same ∙ sym (take_more runs i d lt),
    )
