-- Each move of a share keeps the rule of the deque, `IsInOrder` of specs/Deque.
-- It goes by the moves, with one lemma for each: `begins`, `adds`, `adds_end`, `takes`, `forks`, `merges` and `learns`.
-- Functions of src/opening.rt, bag.rt and settling.rt cite the lemma of their move.
-- AllWorkers.antt, Absorbing.antt and Settles.antt cite `times-both`, and OneWorker.antt cites `times_more`.
use Rattle.std.proofs.Common.{◌≡◌, ◌≢◌, ℕ, zero, suc, ◌+◌, ◌-◌, ◌<◌, ◌≤◌, ◌==◌, ◌||◌, Bool, true, false, true≢false, List, [], ◌∷◌, ◌++◌, length, set, sym, refl, ap, ◌∙◌, subst, arith, ⊎_elim, ◌⊎◌, inl, inr}
use Rattle.std.specs.Prelude.{if◌then◌else◌}
use Rattle.std.proofs.lemmas.Bool.Decides.{nat_tests}
use mathlib.Core.Option.{some, some-injective, some-ne-none}
use lib.ListN.{get_elem?}
use Rattle.crossbeam_deque.specs.Tasks.{Pushes, Takes, Forks, Merges, Learns}
use Rattle.crossbeam_deque.proofs.Lists.{at_set, at_snoc}
use Rattle.pieces.specs.declared.task.Task.{Task}
use Rattle.pieces.specs.declared.task.Task.TheVariants.{Piece, End}
use Rattle.pieces.specs.declared.views.BagView.{BagView}
use Rattle.pieces.specs.Counting.{total, times, once_below}
use Rattle.pieces.specs.Deque.{bag_view, ends, tasks, FitsDeque, IsInOrder, Adds, AddsEnd, Took, kept_bag_view, given_bag_view, joined_bag_view, KnowsPieces}
use Rattle.pieces.proofs.Totals.{total-append, total-set, le-total, total-one}

-- a fact of each view stays when one view changes
all_set : (F : ℕ → BagView → Type 0) (views : List BagView) (port : ℕ) (w : BagView) → F port w → ((j : ℕ) (u : BagView) → j ≢ port → get_elem? views j ≡ some u → F j u) → (j : ℕ) (u : BagView) → get_elem? (set views port w) j ≡ some u → F j u
all_set F views port w mine others j u e =
    ⊎_elim (λ (x : (j ≡ port) × (w ≡ u)). subst (λ (y : ℕ × BagView). F y.0 y.1) (λ i. (sym x.0 i, x.1 i)) mine)
    (λ (x : (j ≢ port) × (get_elem? views j ≡ some u)). others j u x.0 x.1) (at_set views port j w u e)

-- a push of an end mark, and of a piece where no end mark stands yet
tasks-end : (k n e : ℕ) → tasks k n e ++ End ∷ [] ≡ tasks k n (suc e)
tasks-end k zero zero = refl
tasks-end k zero (suc e) = ap (λ (l : List Task). End ∷ l) (tasks-end k zero e)
tasks-end k (suc n) e = ap (λ (l : List Task). Piece k ∷ l) (tasks-end (suc k) n e)

tasks-piece : (k n m : ℕ) → m ≡ k + n → tasks k n 0 ++ Piece m ∷ [] ≡ tasks k (suc n) 0
tasks-piece k zero m is = ap (λ (j : ℕ). Piece j ∷ []) (omega arith)
tasks-piece k (suc n) m is = ap (λ (l : List Task). Piece k ∷ l) (tasks-piece (suc k) n m (omega arith))

-- the first task of such a list
data First (t : Task) (items : List Task) (k n e : ℕ) : Type 0 where
  a_piece : (m : ℕ) → n ≡ suc m → t ≡ Piece k → items ≡ tasks (suc k) m e → First t items k n e
  an_end : (m : ℕ) → n ≡ 0 → e ≡ suc m → t ≡ End → items ≡ ends m → First t items k n e

first_of_tasks : (t : Task) (items : List Task) (k n e : ℕ) → t ∷ items ≡ tasks k n e → First t items k n e
first_of_tasks t items k (suc n) e is = a_piece n refl (cc) (cc)
first_of_tasks t items k zero zero is = absurd (cc)
first_of_tasks t items k zero (suc e) is = an_end e refl refl (cc) (cc)

pub times_more : (x y : ℕ) (xs : List ℕ) → times x (xs ++ y ∷ []) ≡ times x xs + (if y == x then 1 else 0)
times_more x y xs = let h = total-append (λ (z : ℕ). if z == x then 1 else 0) xs (y ∷ []) in omega arith

once_more : (k x : ℕ) → once_below (suc k) x ≡ once_below k x + (if k == x then 1 else 0)
once_more k x = grind (arith, nat_tests)

none_below : (x : ℕ) → 0 ≡ once_below 0 x
none_below x = grind (arith, nat_tests)

only : (v : BagView) → FitsDeque 0 0 v → (port : ℕ) (u : BagView) → get_elem? (v ∷ []) port ≡ some u → FitsDeque 0 0 u
only v fits zero u at = subst (FitsDeque 0 0) (some-injective v u at) fits
only v fits (suc port) u at = absurd (some-ne-none u (sym at))

pub begins : IsInOrder [] (bag_view 64 0 0 false [] ∷ [])
begins = record {
  next = 0;
  left = 0;
  holds = refl;
  parts = refl;
  once = λ x. none_below x;
  fits = only (bag_view 64 0 0 false []) record { made = λ _. refl; met = λ _. refl; idle = λ none. absurd (omega arith) };
}

-- where one pass has all parts, the others have none
others_idle : (views : List BagView) (port : ℕ) (v : BagView) → get_elem? views port ≡ some v → total (λ u. u.parts) views ≡ v.parts → (j : ℕ) (u : BagView) → j ≢ port → get_elem? views j ≡ some u → u.parts ≡ 0
others_idle [] port v at all j u apart there = absurd (some-ne-none v (sym at))
others_idle (x ∷ xs) zero v at all zero u apart there = absurd (apart refl)
others_idle (x ∷ xs) zero v at all (suc j) u apart there =
    let e : x.parts ≡ v.parts = ap (λ (y : BagView). y.parts) (some-injective x v at) in let le = le-total (λ (y : BagView). y.parts) xs j u there in omega arith
others_idle (x ∷ xs) (suc port) v at all zero u apart there =
    let e : x.parts ≡ u.parts = ap (λ (y : BagView). y.parts) (some-injective x u there) in let le = le-total (λ (y : BagView). y.parts) xs port v at in omega arith
others_idle (x ∷ xs) (suc port) v at all (suc j) u apart there =
    let le = le-total (λ (y : BagView). y.parts) xs port v at in others_idle xs port v at (omega arith) j u (λ e. apart (ap suc e)) there

-- the owner pushes the next piece
pub adds : (port : ℕ) (v : BagView) (x : ℕ) → v.parts ≡ 64 → v.owed ≡ 0 → v.met ≡ false → x ≡ v.made → Pushes IsInOrder port v (Piece x ∷ []) (Adds v (Piece x ∷ []))
adds port v x all none unmet is items views h at =
    let w : BagView = bag_view v.parts v.owed (v.made + 1) v.met v.taken in
    let mine = h.fits port v at in
    let idle = others_idle views port v at (h.parts ∙ sym all) in
    let owed : total (λ u. u.owed) views ≡ 0 = total-one (λ (u : BagView). u.owed) (λ (u : BagView). u.parts) views port v at (h.parts ∙ sym all) (λ j u e z. ((h.fits j u e).idle z).0) ∙ none in
    let owed' : total (λ u. u.owed) (set views port w) ≡ 0 = let s = total-set (λ (u : BagView). u.owed) views port v w at in omega arith in
    let made : v.made ≡ h.next + h.left = mine.made (omega arith) in (
      w,
      record {
        next = h.next;
        left = suc h.left;
        holds = subst (λ (e : ℕ). items ++ Piece x ∷ [] ≡ tasks h.next (suc h.left) e) (sym owed')
            (ap (λ (l : List Task). l ++ Piece x ∷ []) (h.holds ∙ ap (λ (e : ℕ). tasks h.next h.left e) owed) ∙ tasks-piece h.next h.left x (omega arith));
        parts = let s = total-set (λ (u : BagView). u.parts) views port v w at in let p = h.parts in omega arith;
        once = λ y. let s = total-set (λ (u : BagView). times y u.taken) views port v w at in let p = h.once y in omega arith;
        fits = all_set (λ _ u. FitsDeque h.next (suc h.left) u) views port w
            record { made = λ _. omega arith; met = λ p. absurd (true≢false (sym p ∙ unmet)); idle = λ z. absurd (omega arith) }
            (λ j u apart e. let f = h.fits j u e in let z = idle j u apart e in
            record { made = λ p. absurd (omega arith); met = λ p. absurd (true≢false (sym p ∙ (f.idle z).1)); idle = f.idle });
      },
      refl,
    )

-- a push of an end mark
pub adds_end : (port : ℕ) (v : BagView) → 0 < v.parts → Pushes IsInOrder port v (End ∷ []) (AddsEnd v (End ∷ []))
adds_end port v some_part items views h at =
    let w : BagView = bag_view v.parts (v.owed + 1) v.made v.met v.taken in
    let mine = h.fits port v at in
    let owed' : suc (total (λ u. u.owed) views) ≡ total (λ u. u.owed) (set views port w) = let s = total-set (λ (u : BagView). u.owed) views port v w at in omega arith in (
      w,
      record {
        next = h.next;
        left = h.left;
        holds = subst (λ (e : ℕ). items ++ End ∷ [] ≡ tasks h.next h.left e) owed'
            (ap (λ (l : List Task). l ++ End ∷ []) h.holds ∙ tasks-end h.next h.left (total (λ u. u.owed) views));
        parts = let s = total-set (λ (u : BagView). u.parts) views port v w at in let p = h.parts in omega arith;
        once = λ y. let s = total-set (λ (u : BagView). times y u.taken) views port v w at in let p = h.once y in omega arith;
        fits = all_set (λ _ u. FitsDeque h.next h.left u) views port w record { made = mine.made; met = mine.met; idle = λ z. absurd (omega arith) } (λ j u _ e. h.fits j u e);
      },
      refl,
    )

-- a share that has taken an end mark less than it may finds the deque not empty
pub never_empty : (port : ℕ) (v : BagView) → 0 < v.owed → (items : List Task) (views : List BagView) → length items ≤ 0 → IsInOrder items views → get_elem? views port ≡ some v → ⊥
never_empty port v owed items views few h at = let le = le-total (λ (u : BagView). u.owed) views port v at in
    not_none items h.next h.left (total (λ u. u.owed) views) h.holds few (omega arith) where
      not_none : (items : List Task) (k n e : ℕ) → items ≡ tasks k n e → length items ≤ 0 → 0 < e → ⊥
      not_none (t ∷ ts) k n e is few more = omega arith
      not_none [] k (suc n) e is few more = cc
      not_none [] k zero zero is few more = omega arith
      not_none [] k zero (suc e) is few more = cc

Taking : ℕ → BagView → List Task → List BagView → Task → Type 0
Taking port v items views t = (w : BagView) × IsInOrder items (set views port w) × Took v (t ∷ []) w

takes_at : (port : ℕ) (v : BagView) (t : Task) (items : List Task) (views : List BagView) (h : IsInOrder (t ∷ items) views) → 0 < v.parts → 0 < v.owed → get_elem? views port ≡ some v
    → First t items h.next h.left (total (λ u. u.owed) views) → Taking port v items views t
unfolding Taking
takes_at port v t items views h part owed at (a_piece m n is rest) =
    let w : BagView = bag_view v.parts v.owed v.made v.met (v.taken ++ h.next ∷ []) in
    let mine = h.fits port v at in
    let made : v.made ≡ h.next + h.left = mine.made part in
    let owed' : total (λ u. u.owed) views ≡ total (λ u. u.owed) (set views port w) = let s = total-set (λ (u : BagView). u.owed) views port v w at in omega arith in
    subst (Taking port v items views) (sym is) (
      w,
      record {
        next = suc h.next;
        left = m;
        holds = rest ∙ ap (λ (e : ℕ). tasks (suc h.next) m e) owed';
        parts = let s = total-set (λ (u : BagView). u.parts) views port v w at in let p = h.parts in omega arith;
        once = λ y. let s = total-set (λ (u : BagView). times y u.taken) views port v w at in let p = h.once y in let q = times_more y h.next v.taken in let r = once_more h.next y in omega arith;
        fits = all_set (λ _ u. FitsDeque (suc h.next) m u) views port w
            record { made = λ _. omega arith; met = λ p. absurd (let z = mine.met p in omega arith); idle = λ z. absurd (omega arith) }
            (λ j u apart e. let f = h.fits j u e in record { made = λ p. let q = f.made p in omega arith; met = λ p. absurd (let z = f.met p in omega arith); idle = f.idle });
      },
      (refl, omega arith),
    )
takes_at port v t items views h part owed at (an_end m n e is rest) =
    let w : BagView = bag_view v.parts (v.owed - 1) v.made true v.taken in
    let mine = h.fits port v at in
    let owed' : m ≡ total (λ u. u.owed) (set views port w) = let s = total-set (λ (u : BagView). u.owed) views port v w at in omega arith in
    subst (Taking port v items views) (sym is) (
      w,
      record {
        next = h.next;
        left = 0;
        holds = rest ∙ ap ends owed';
        parts = let s = total-set (λ (u : BagView). u.parts) views port v w at in let p = h.parts in omega arith;
        once = λ y. let s = total-set (λ (u : BagView). times y u.taken) views port v w at in let p = h.once y in omega arith;
        fits = all_set (λ _ u. FitsDeque h.next 0 u) views port w
            record { made = λ p. let q = mine.made p in omega arith; met = λ _. refl; idle = λ z. absurd (omega arith) }
            (λ j u apart e. let f = h.fits j u e in record { made = λ p. let q = f.made p in omega arith; met = λ _. refl; idle = f.idle });
      },
      refl,
    )

-- a share takes the task at the front
pub takes : (port : ℕ) (v : BagView) → 0 < v.parts → 0 < v.owed → Takes IsInOrder port v 1 (Took v)
unfolding Taking
takes port v part owed [] items views some_of few h at = absurd (omega arith)
takes port v part owed (t ∷ []) items views some_of few h at = takes_at port v t items views h part owed at (first_of_tasks t items h.next h.left (total (λ u. u.owed) views) h.holds)
takes port v part owed (t ∷ s ∷ ts) items views some_of few h at = absurd (omega arith)

-- the owner makes a share
pub forks : (port : ℕ) (v : BagView) → 1 < v.parts → 1 < v.owed → Forks IsInOrder port v (kept_bag_view v) (given_bag_view v)
forks port v parts owed items views h at =
    let k : BagView = kept_bag_view v in let g : BagView = given_bag_view v in let mine = h.fits port v at in let vs : List BagView = set views port k in
    let kept : (j : ℕ) (u : BagView) → get_elem? vs j ≡ some u → FitsDeque h.next h.left u =
    all_set (λ _ u. FitsDeque h.next h.left u) views port k record { made = λ _. mine.made (omega arith); met = mine.met; idle = λ z. absurd (omega arith) } (λ j u _ e. h.fits j u e) in
    let given : FitsDeque h.next h.left g = record { made = λ _. mine.made (omega arith); met = λ p. absurd (true≢false (sym p)); idle = λ z. absurd (omega arith) } in
    let all_owed : total (λ u. u.owed) views ≡ total (λ u. u.owed) (vs ++ g ∷ []) =
    let s = total-set (λ (u : BagView). u.owed) views port v k in let a = total-append (λ (u : BagView). u.owed) vs (g ∷ []) in omega arith in
    record {
      next = h.next;
      left = h.left;
      holds = h.holds ∙ ap (λ (e : ℕ). tasks h.next h.left e) all_owed;
      parts = let s = total-set (λ (u : BagView). u.parts) views port v k in let a = total-append (λ (u : BagView). u.parts) vs (g ∷ []) in let p = h.parts in omega arith;
      once = λ y. let s = total-set (λ (u : BagView). times y u.taken) views port v k in let a = total-append (λ (u : BagView). times y u.taken) vs (g ∷ []) in let p = h.once y in omega arith;
      fits = λ j u e. ⊎_elim (λ x. kept j u x) (λ (is : g ≡ u). subst (FitsDeque h.next h.left) is given) (at_snoc vs g u j e);
    }

or_true : (a b : Bool) → (a || b) ≡ true → (a ≡ true) ⊎ (b ≡ true)
or_true true b p = inl refl
or_true false b p = inr p

pub times-both : (x : ℕ) (xs ys : List ℕ) → times x (xs ++ ys) ≡ times x xs + times x ys
times-both x xs ys = total-append (λ (z : ℕ). if z == x then 1 else 0) xs ys

-- the owner takes a share's pass into its own
pub merges : (port : ℕ) (v : BagView) (other : ℕ) (u : BagView) → 0 < v.parts → Merges IsInOrder port v other u (joined_bag_view v u) (bag_view 0 0 0 false [])
merges port v other u parts items views h at two at' =
    let both : BagView = joined_bag_view v u in let spent : BagView = bag_view 0 0 0 false [] in let vs : List BagView = set views port both in let mine = h.fits port v at in
    let was : get_elem? views other ≡ some u = ⊎_elim (λ x. absurd (two x.0)) (λ x. x.1) (at_set views port other both u at') in
    let theirs = h.fits other u was in
    let all_owed : total (λ w. w.owed) views ≡ total (λ w. w.owed) (set vs other spent) =
    let s = total-set (λ (w : BagView). w.owed) views port v both in let t = total-set (λ (w : BagView). w.owed) vs other u spent in omega arith in
    record {
      next = h.next;
      left = h.left;
      holds = h.holds ∙ ap (λ (e : ℕ). tasks h.next h.left e) all_owed;
      parts = let s = total-set (λ (w : BagView). w.parts) views port v both in let t = total-set (λ (w : BagView). w.parts) vs other u spent in let p = h.parts in omega arith;
      once = λ y. let s = total-set (λ (w : BagView). times y w.taken) views port v both in let t = total-set (λ (w : BagView). times y w.taken) vs other u spent in
          let p = h.once y in let q = times-both y v.taken u.taken in omega arith;
      fits = all_set (λ _ w. FitsDeque h.next h.left w) vs other spent
          record { made = λ p. absurd (omega arith); met = λ p. absurd (true≢false (sym p)); idle = λ _. (refl, refl, refl) }
          (λ j w _ e. all_set (λ _ x. FitsDeque h.next h.left x) views port both
          record { made = λ _. mine.made parts; met = λ p. ⊎_elim mine.met theirs.met (or_true v.met u.met p); idle = λ z. absurd (omega arith) }
          (λ i x _ there. h.fits i x there) j w e);
    }

-- what the pass with all parts learns
pub learns : (port : ℕ) (v : BagView) → v.parts ≡ 64 → Learns IsInOrder port v (λ items. KnowsPieces v)
learns port v all items views h at =
    let mine = h.fits port v at in let made : v.made ≡ h.next + h.left = mine.made (omega arith) in (
      h.next,
      omega arith,
      λ y. sym (total-one (λ (w : BagView). times y w.taken) (λ (w : BagView). w.parts) views port v at (h.parts ∙ sym all) (λ j w e z. ap (times y) ((h.fits j w e).idle z).2)) ∙ h.once y,
      λ p. let z = mine.met p in omega arith,
    )
