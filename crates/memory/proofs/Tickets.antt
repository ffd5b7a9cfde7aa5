-- One more ticket of a new pool.
use Rattle.std.proofs.Common.{◌≡◌, ℕ, zero, suc, List, [], ◌∷◌, ◌++◌, length, refl, sym, ap, ◌∙◌, arith, length-append}
use Rattle.std.specs.Prelude.{Bool, true, All, map}
use Rattle.crossbeam_queue.specs.Passes.{IsSamePass}
use Rattle.memory.specs.PoolHistory.{ticket_view}
use Rattle.std.proofs.lemmas.List.Elements.{All-append}
use Rattle.memory.specs.declared.pool.Pool.{Pool}
use Rattle.memory.specs.declared.pool.Ticket.{Ticket}
use Rattle.memory.specs.Pools.{view_of, IsTicketOf, indices_below, IsNew, AreIssued}

only : (P : Ticket → Type 0) (t : Ticket) → P t → All P (t ∷ [])
only P t p zero d within = p
only P t p (suc k) d within = absurd (omega arith)

indexed_push : (tickets : List Ticket) (t : Ticket) → map (λ (u : Ticket). (view_of u).ticket) (tickets ++ t ∷ []) ≡ map (λ (u : Ticket). (view_of u).ticket) tickets ++ (view_of t).ticket ∷ []
indexed_push [] t = refl
indexed_push (u ∷ us) t = ap (λ ns. (view_of u).ticket ∷ ns) (indexed_push us t)

pub issued_push : (p : Pool) (tickets more : List Ticket) (t : Ticket) → more ≡ tickets ++ t ∷ [] → AreIssued p tickets → IsTicketOf p t
    → (view_of t).seen ≡ [] → (view_of t).made ≡ [] → (view_of t).ticket ≡ length tickets → AreIssued p more
issued_push p tickets more t is i of seen made index =
    let l : length (tickets ++ t ∷ []) ≡ suc (length tickets) = length-append tickets (t ∷ []) ∙ omega arith in
    rw is (record {
      each = All-append (IsNew p) tickets (t ∷ []) i.each (only (IsNew p) t record { of = of; seen = seen; made = made });
      indexed = indexed_push tickets t ∙ ap (λ ns. ns ++ (view_of t).ticket ∷ []) i.indexed ∙ ap (λ n. indices_below (length tickets) ++ n ∷ []) index ∙ ap indices_below (sym l);
    })

-- the newest ticket is issued, and the next one takes its place
pub issued_next : (p : Pool) (tickets more : List Ticket) (old t : Ticket) (count : ℕ) (newest : Bool) → more ≡ tickets ++ t ∷ [] → AreIssued p tickets
    → IsTicketOf p old → IsSamePass old.pass t.pass → view_of old ≡ ticket_view count true [] [] → count ≡ length tickets
    → view_of t ≡ ticket_view (view_of old).ticket newest (view_of old).seen (view_of old).made → AreIssued p more
issued_next p tickets more old t count newest is i of same view index after =
    issued_push p tickets more t is i (same.0 ∙ of.0, same.2 ∙ of.1)
    (ap (λ v. v.seen) after ∙ ap (λ v. v.seen) view) (ap (λ v. v.made) after ∙ ap (λ v. v.made) view)
    (ap (λ v. v.ticket) after ∙ ap (λ v. v.ticket) view ∙ index)
