-- Each step of a ticket keeps the rule of the pool.
use Rattle.std.proofs.Common.{◌≡◌, ◌≢◌, ℕ, zero, suc, ◌+◌, ◌<◌, List, [], ◌∷◌, ◌++◌, length, set, sym, refl, ap, ◌∙◌, subst, arith, ⊎_elim, ◌⊎◌, inl, inr, append_assoc, append-nil, length-append, length-set}
use Rattle.std.specs.Prelude.{true, false, nat_eq}
use Rattle.std.proofs.lemmas.Bool.{eq-eqb, ne_eqb}
use mathlib.Core.Option.{some, some-injective, some-ne-none}
use lib.ListN.{get_elem?}
use Rattle.crossbeam_queue.specs.Fifo.{Pushes, Pops, Learns, Forks}
use Rattle.crossbeam_queue.proofs.Lists.{at_set}
use Rattle.memory.specs.declared.history.PoolStep.{PoolStep}
use Rattle.memory.specs.declared.history.PoolStep.TheVariants.{Gave, Lent}
use Rattle.memory.specs.declared.history.PoolEntry.{PoolEntry}
use Rattle.memory.specs.declared.history.TicketView.{TicketView}
use Rattle.memory.specs.PoolHistory.{entry, ticket_view, after_step, after, CanMake, IsLegal, if_same, made_by, Begins, Knows, IsInOrder, Extends, Finds}

-- one more step at the end of a history
after-snoc : (kept : List ℕ) (log : List PoolEntry) (e : PoolEntry) → after kept (log ++ e ∷ []) ≡ after_step (after kept log) e.step
after-snoc kept [] e = refl
after-snoc kept (d ∷ ds) e = after-snoc (after_step kept d.step) ds e

legal-snoc : (kept : List ℕ) (log : List PoolEntry) (e : PoolEntry) → IsLegal kept log → CanMake (after kept log) e.step → IsLegal kept (log ++ e ∷ [])
legal-snoc kept [] e is can = (can, tt)
legal-snoc kept (d ∷ ds) e is can = (is.0, legal-snoc (after_step kept d.step) ds e is.1 can)

made_by-append : (index : ℕ) (log more : List PoolEntry) → made_by index (log ++ more) ≡ made_by index log ++ made_by index more
made_by-append index [] more = refl
made_by-append index (d ∷ ds) more =
    ap (λ ss. if_same (nat_eq d.ticket index) d.step ++ ss) (made_by-append index ds more)
    ∙ sym (append_assoc (if_same (nat_eq d.ticket index) d.step) (made_by index ds) (made_by index more))

-- a step of one's own, and of another
made_by-own : (index : ℕ) (log : List PoolEntry) (step : PoolStep) → made_by index (log ++ entry index step ∷ []) ≡ made_by index log ++ step ∷ []
made_by-own index log step =
    made_by-append index log (entry index step ∷ [])
    ∙ ap (λ b. made_by index log ++ (if_same b step ++ [])) (eq-eqb index index refl)

made_by-other : (index other : ℕ) (log : List PoolEntry) (step : PoolStep) → other ≢ index → made_by index (log ++ entry other step ∷ []) ≡ made_by index log
made_by-other index other log step ne =
    made_by-append index log (entry other step ∷ [])
    ∙ ap (λ b. made_by index log ++ (if_same b step ++ [])) (ne_eqb other index ne)
    ∙ append-nil (made_by index log)

-- a longer history begins with what a shorter one begins with
longer : (log seen : List PoolEntry) (e : PoolEntry) → Begins seen log → Begins seen (log ++ e ∷ [])
longer log seen e p = (p.0 ++ e ∷ [], ap (λ (l : List PoolEntry). l ++ e ∷ []) p.1 ∙ append_assoc seen p.0 (e ∷ []))

-- what is there lies below the length
below : (views : List TicketView) (index : ℕ) (v : TicketView) → get_elem? views index ≡ some v → index < length views
below [] index v at = absurd (some-ne-none v (sym at))
below (u ∷ us) zero v at = omega arith
below (u ∷ us) (suc index) v at = let h = below us index v at in omega arith

-- what a list with one more at its end has at an index
at_end : (views : List TicketView) (last : TicketView) (index : ℕ) (v : TicketView) → get_elem? (views ++ last ∷ []) index ≡ some v
    → (get_elem? views index ≡ some v) ⊎ ((index ≡ length views) × (last ≡ v))
at_end [] last zero v at = inr (refl, some-injective last v at)
at_end [] last (suc index) v at = absurd (some-ne-none v (sym at))
at_end (u ∷ us) last zero v at = inl at
at_end (u ∷ us) last (suc index) v at =
    ⊎_elim inl (λ (x : (index ≡ length us) × (last ≡ v)). inr (ap suc x.0, x.1)) (at_end us last index v at)

-- what the others know of a history with one more step
knows_longer : (log : List PoolEntry) (count index other : ℕ) (step : PoolStep) (u : TicketView) → other ≢ index → Knows log count index u
    → Knows (log ++ entry other step ∷ []) count index u
knows_longer log count index other step u ne k = record {
  index' = k.index';
  newest = k.newest;
  begins = longer log u.seen (entry other step) k.begins;
  own = made_by-other index other log step ne ∙ k.own;
}

-- one step
goes_on : (kept : List ℕ) (views : List TicketView) (index : ℕ) (v : TicketView) (step : PoolStep) (h : IsInOrder kept views) → get_elem? views index ≡ some v → CanMake kept step
    → (w : TicketView) × IsInOrder (after_step kept step) (set views index w) × Extends v step w
goes_on kept views index v step h at can =
    let mine = h.fits index v at in
    let e : PoolEntry = entry v.ticket step in
    let log : List PoolEntry = h.log ++ e ∷ [] in
    let w : TicketView = ticket_view v.ticket v.newest log (v.made ++ step ∷ []) in
    let here : index < length views = below views index v at in
    let same : v.ticket ≡ index = mine.index' in
    let as_long : length (set views index w) ≡ length views = length-set views index w in
    let legal : IsLegal [] log = legal-snoc [] h.log e h.legal (subst (λ ks. CanMake ks step) (sym h.leaves) can) in
    let own : made_by v.ticket log ≡ v.made ++ step ∷ [] =
    made_by-own v.ticket h.log step ∙ ap (λ ss. ss ++ step ∷ []) (ap (λ n. made_by n h.log) same ∙ mine.own) in
    let known : Knows log (length views) index w = record {
      index' = same;
      newest = mine.newest;
      begins = ([], sym (append-nil log));
      own = ap (λ n. made_by n log) (sym same) ∙ own;
    } in (
      w,
      record {
        log = log;
        legal = legal;
        leaves = after-snoc [] h.log e ∙ ap (λ ks. after_step ks step) h.leaves;
        fits = λ j u there. subst (λ n. Knows log n j u) (sym as_long) (⊎_elim
            (λ (x : (j ≡ index) × (w ≡ u)). subst (λ (y : ℕ × TicketView). Knows log (length views) y.0 y.1) (λ i. (sym x.0 i, x.1 i)) known)
            (λ (x : (j ≢ index) × (get_elem? views j ≡ some u)).
            knows_longer h.log (length views) j v.ticket step u (λ is. x.0 (sym is ∙ same)) (h.fits j u x.1))
            (at_set views index j w u there));
        none = λ j above. made_by-other j v.ticket h.log step (λ is. absurd (omega arith)) ∙ h.none j (omega arith);
      },
      record {
        between = mine.begins.0;
        seen = ap (λ (l : List PoolEntry). l ++ e ∷ []) mine.begins.1;
        legal = legal;
        made = refl;
        own = own;
        ticket = refl;
        newest = refl;
      },
    )

-- a memory is given
pub pushes : (capacity index : ℕ) (v : TicketView) (n : ℕ) → Pushes IsInOrder capacity index v n (λ w. Extends v (Gave n) w)
pushes capacity index v n kept views room h at = goes_on kept views index v (Gave n) h at tt

-- a memory is lent
pub pops : (index : ℕ) (v : TicketView) → Pops IsInOrder index v (λ n w. Extends v (Lent n) w)
pops index v n kept views h at = goes_on (n ∷ kept) views index v (Lent n) h at refl

-- what a ticket learns of one moment
pub learns : (index : ℕ) (v : TicketView) → Learns IsInOrder index v (Finds v)
learns index v kept views h at =
    let mine = h.fits index v at in
    let same : v.ticket ≡ index = mine.index' in
    record {
      log = h.log;
      begins = mine.begins;
      legal = h.legal;
      leaves = h.leaves;
      own = ap (λ n. made_by n h.log) same ∙ mine.own;
      above = λ new other more. let count : suc index ≡ length views = mine.newest new in h.none other (omega arith);
    }

-- the newest ticket makes the next
pub forks : (index : ℕ) (v : TicketView) → v.newest ≡ true → Forks IsInOrder index v (ticket_view v.ticket false v.seen v.made) (ticket_view (v.ticket + 1) true [] [])
forks index v new kept views h at =
    let mine = h.fits index v at in
    let left : TicketView = ticket_view v.ticket false v.seen v.made in
    let right : TicketView = ticket_view (v.ticket + 1) true [] [] in
    let same : v.ticket ≡ index = mine.index' in
    let count : suc index ≡ length views = mine.newest new in
    let vs : List TicketView = set views index left in
    let as_long : length vs ≡ length views = length-set views index left in
    let longer' : length (vs ++ right ∷ []) ≡ suc (length views) = length-append vs (right ∷ []) ∙ omega arith in
    let known : Knows h.log (suc (length views)) index left = record {
      index' = same;
      newest = λ no. cc;
      begins = mine.begins;
      own = mine.own;
    } in
    let others : (j : ℕ) (u : TicketView) → j ≢ index → get_elem? views j ≡ some u → Knows h.log (suc (length views)) j u = λ j u ne there.
    let k = h.fits j u there in record {
      index' = k.index';
      newest = λ yes. let c : suc j ≡ length views = k.newest yes in absurd (ne (omega arith));
      begins = k.begins;
      own = k.own;
    } in
    let first : (j : ℕ) (u : TicketView) → get_elem? vs j ≡ some u → Knows h.log (suc (length views)) j u = λ j u there. ⊎_elim
    (λ (x : (j ≡ index) × (left ≡ u)). subst (λ (y : ℕ × TicketView). Knows h.log (suc (length views)) y.0 y.1) (λ i. (sym x.0 i, x.1 i)) known)
    (λ (x : (j ≢ index) × (get_elem? views j ≡ some u)). others j u x.0 x.1)
    (at_set views index j left u there) in
    let last : Knows h.log (suc (length views)) (length views) right = record {
      index' = omega arith;
      newest = λ yes. refl;
      begins = (h.log, refl);
      own = h.none (length views) (omega arith);
    } in
    record {
      log = h.log;
      legal = h.legal;
      leaves = h.leaves;
      fits = λ j u there. subst (λ n. Knows h.log n j u) (sym longer') (⊎_elim
          (λ x. first j u x)
          (λ (x : (j ≡ length vs) × (right ≡ u)).
          subst (λ (y : ℕ × TicketView). Knows h.log (suc (length views)) y.0 y.1) (λ i. ((sym as_long ∙ sym x.0) i, x.1 i)) last)
          (at_end vs right j u there));
      none = λ j above. h.none j (omega arith);
    }
