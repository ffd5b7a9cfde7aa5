-- Lists of shares: those that `open` hands out make a crew, and a share keeps its kind and its deque while its worker uses it.
use Rattle.std.proofs.Common.{◌≡◌, ℕ, ◌+◌, ◌-◌, ◌<◌, ◌≤◌, false, List, [], ◌∷◌, ◌++◌, length, sym, refl, ap, ◌∙◌, subst, arith}
use Rattle.atomic_table.specs.Seated.{TableId}
use Rattle.pieces.specs.declared.share.Access.{Access}
use Rattle.pieces.specs.declared.share.Access.TheVariants.{Pops, Steals}
use Rattle.pieces.specs.declared.share.Share.{Share}
use Rattle.pieces.specs.Counting.{total}
use Rattle.pieces.specs.Deque.{bag_view}
use Rattle.pieces.specs.MarkRule.{mark_view}
use Rattle.pieces.specs.Shares.{DequeId, bag_view_of, IsAccessTo, IsFirst, IsStealing, SameKind, IsIn, IsOn, IsNew, IsFresh, EachShare, IsCrew, bag_parts, mark_parts}

pub EachShare-snoc : (P : Share → Type 0) (ss : List Share) (s : Share) → EachShare P ss → P s → EachShare P (ss ++ s ∷ [])
EachShare-snoc P [] s h p = (p, tt)
EachShare-snoc P (x ∷ xs) s h p = (h.0, EachShare-snoc P xs s h.1 p)

pub EachShare-map : (P Q : Share → Type 0) → ((s : Share) → P s → Q s) → (ss : List Share) → EachShare P ss → EachShare Q ss
EachShare-map P Q f [] h = tt
EachShare-map P Q f (x ∷ xs) h = (f x h.0, EachShare-map P Q f xs h.1)

pub new_in : (deque : DequeId) (count : ℕ) (mark : TableId) (s : Share) → IsNew deque count mark s → IsIn deque count s
new_in deque count mark s h = let p = ap (λ v. v.parts) h.bag_view_is in let o = ap (λ v. v.owed) h.bag_view_is in
    record { access = h.access; part = omega arith; owed = λ _. omega arith; made = ap (λ v. v.made) h.bag_view_is; met = h.met ∙ sym (ap (λ v. v.met) h.bag_view_is) }

pub new_on : (deque : DequeId) (count : ℕ) (mark : TableId) (s : Share) → IsNew deque count mark s → IsOn mark s
new_on deque count mark s h = let p = ap (λ m. m.0.parts) h.me in record { seat = h.seat; free = ap (λ m. m.1) h.me; part = omega arith }

new_bag_parts : (deque : DequeId) (count : ℕ) (mark : TableId) (ss : List Share) → EachShare (IsNew deque count mark) ss → total bag_parts ss ≡ length ss
new_bag_parts deque count mark [] h = refl
new_bag_parts deque count mark (s ∷ ss) h = let a = new_bag_parts deque count mark ss h.1 in let p = ap (λ v. v.parts) h.0.bag_view_is in omega arith

new_mark_parts : (deque : DequeId) (count : ℕ) (mark : TableId) (ss : List Share) → EachShare (IsNew deque count mark) ss → total mark_parts ss ≡ length ss
new_mark_parts deque count mark [] h = refl
new_mark_parts deque count mark (s ∷ ss) h = let a = new_mark_parts deque count mark ss h.1 in let p = ap (λ m. m.0.parts) h.0.me in omega arith

-- the shares of `open`
pub crew_of : (deque : DequeId) (count : ℕ) (mark : TableId) (s : Share) (rest : List Share) (n : ℕ) → IsAccessTo deque s.access → IsFirst mark s.access
    → bag_view_of s.access ≡ bag_view (65 - n) 1 count false [] → s.seat.table_id ≡ mark → s.seat.me ≡ (mark_view (65 - n) [] [] [], []) → s.met ≡ false
    → n ≤ 64 → length rest + 1 ≡ n → EachShare (IsNew deque count mark) rest → IsCrew deque count mark (s ∷ rest)
crew_of deque count mark s rest n access first bag_view_is seat me met most len new =
    let p = ap (λ v. v.parts) bag_view_is in let o = ap (λ v. v.owed) bag_view_is in let q = ap (λ m. m.0.parts) me in
    let a = new_bag_parts deque count mark rest new in let b = new_mark_parts deque count mark rest new in
    record {
      led = (first, EachShare-map (IsNew deque count mark) (λ t. IsStealing t.access) (λ t h. h.stealing) rest new);
      each_in = (record { access = access; part = omega arith; owed = λ _. omega arith; made = ap (λ v. v.made) bag_view_is; met = met ∙ sym (ap (λ v. v.met) bag_view_is) }, EachShare-map (IsNew deque count mark) (IsIn deque count) (new_in deque count mark) rest new);
      each_on = (record { seat = seat; free = ap (λ m. m.1) me; part = omega arith }, EachShare-map (IsNew deque count mark) (IsOn mark) (new_on deque count mark) rest new);
      bag_parts_are = omega arith;
      mark_parts_are = omega arith;
    }

pub new_fresh : (deque : DequeId) (count : ℕ) (mark : TableId) (ss : List Share) → EachShare (IsNew deque count mark) ss → EachShare IsFresh ss
new_fresh deque count mark ss h = EachShare-map (IsNew deque count mark) IsFresh (λ t h. record { taken = ap (λ v. v.taken) h.bag_view_is; calls = ap (λ m. m.0.made) h.me; met = h.met }) ss h

pub first_fresh : (parts count : ℕ) (s : Share) → bag_view_of s.access ≡ bag_view parts 1 count false [] → s.seat.me ≡ (mark_view parts [] [] [], []) → s.met ≡ false → IsFresh s
first_fresh parts count s bag_view_is me met = record { taken = ap (λ v. v.taken) bag_view_is; calls = ap (λ m. m.0.made) me; met = met }

pub kind_trans : (a b c : Access) → SameKind a b → SameKind b c → SameKind a c
kind_trans (Pops w x) (Pops w' x') (Pops w'' x'') p q = q ∙ p
kind_trans (Pops w x) (Pops w' x') (Steals r) p q = absurd q
kind_trans (Pops w x) (Steals r) c p q = absurd p
kind_trans (Steals r) (Pops w x) c p q = absurd p
kind_trans (Steals r) (Steals r') (Pops w x) p q = absurd q
kind_trans (Steals r) (Steals r') (Steals r'') p q = tt

pub in_same : (deque : DequeId) (count : ℕ) (s t : Share) → t.access ≡ s.access → t.met ≡ s.met → IsIn deque count s → IsIn deque count t
in_same deque count s t access met h = record {
  access = subst (IsAccessTo deque) (sym access) h.access;
  part = subst (λ (x : Access). 0 < (bag_view_of x).parts) (sym access) h.part;
  owed = λ p. subst (λ (x : Access). 0 < (bag_view_of x).owed) (sym access) (h.owed (sym met ∙ p));
  made = ap (λ x. (bag_view_of x).made) access ∙ h.made;
  met = met ∙ h.met ∙ sym (ap (λ x. (bag_view_of x).met) access);
}

kind_refl : (a : Access) → SameKind a a
kind_refl (Pops w x) = refl
kind_refl (Steals r) = tt

pub kind_same : (a b : Access) → b ≡ a → SameKind a b
kind_same a b is = subst (SameKind a) (sym is) (kind_refl a)
