-- Operands on top whose types are known, each in an entry of its own.
use Rattle.std.proofs.Common.{◌≡◌, ℕ, suc, false, ◌-◌, ◌+◌, ◌<◌, ◌≤◌, List, [], ◌∷◌, ◌++◌, map, length, take, get_or, Option, Some, refl, sym, ap, subst, ◌∙◌, arith, length-take}
use Rattle.std.specs.Prelude.{set}
use Rattle.std.proofs.lemmas.List.{append_assoc, append-nil, map-append, take_more, take_all}
use Rattle.wsyntax.specs.declared.ValType.{ValType}
use Rattle.wcheck.specs.declared.entry.StackEntry.{StackEntry}
use Rattle.wcheck.specs.Heights.{type_of}
use Rattle.wcheck.specs.Runs.{is_several, types_in, IsCounted}
use Rattle.wcheck.proofs.LastItems.{prefix, last_two, set_last, split_at_last}
use Rattle.wcheck.proofs.Stretched.{single, counted_prefix, counted_single}
use Rattle.wcheck.proofs.Topmost.{known_single}

-- the entries xs with the runs rs stand for v, and x is the topmost entry, of the type t
module _ (xs : List StackEntry) (rs : List (List ValType)) (v : List (Option ValType)) (n : ℕ) (x : StackEntry) (t : ValType) (w : types_in xs rs ≡ v) (c : n ≡ length xs) (le : 1 ≤ n) (e : x ≡ get_or xs (n - 1) x) (k : type_of x ≡ Some t) where
  split : xs ≡ take (n - 1) xs ++ x ∷ []
  split = split_at_last xs n (n - 1) x c refl (omega (arith, c, le)) e

  pub one_off : v ≡ types_in (take (n - 1) xs) rs ++ Some t ∷ []
  one_off =
      sym w
      ∙ ap (λ z. types_in z rs) split
      ∙ single (take (n - 1) xs) rs x (known_single x t k)
      ∙ ap (λ z. types_in (take (n - 1) xs) rs ++ z ∷ []) k

  pub one_off_counted : (m : ℕ) → IsCounted xs rs m → IsCounted (take (n - 1) xs) rs m
  one_off_counted m h =
      counted_prefix (take (n - 1) xs) rs x (type_of x) m (single (take (n - 1) xs) rs x (known_single x t k)) (subst (λ z. IsCounted z rs m) split h)

  -- the entry y of the type u is written over it
  module _ (y : StackEntry) (u : ValType) (q : type_of y ≡ Some u) where
    written : set xs (n - 1) y ≡ take (n - 1) xs ++ y ∷ []
    written =
        set_last xs (n - 1) y (omega (arith, c, le)) (omega (arith, c)) ∙ ap (λ i. take (i - 1) xs ++ y ∷ []) (sym c)

    pub one_over : types_in (set xs (n - 1) y) rs ≡ types_in (take (n - 1) xs) rs ++ Some u ∷ []
    one_over =
        ap (λ z. types_in z rs) written
        ∙ single (take (n - 1) xs) rs y (known_single y u q)
        ∙ ap (λ z. types_in (take (n - 1) xs) rs ++ z ∷ []) q

    pub one_over_counted : (m : ℕ) → IsCounted xs rs m → IsCounted (set xs (n - 1) y) rs m
    one_over_counted m h =
        subst (λ z. IsCounted z rs m) (sym written) (counted_single (take (n - 1) xs) rs y m (one_off_counted m h) (known_single y u q))

-- x is the topmost entry, and stands for one operand
module _ (xs : List StackEntry) (rs : List (List ValType)) (v : List (Option ValType)) (n : ℕ) (x : StackEntry) (w : types_in xs rs ≡ v) (c : n ≡ length xs) (le : 1 ≤ n) (e : x ≡ get_or xs (n - 1) x) (k : is_several x ≡ false) where
  parted : xs ≡ take (n - 1) xs ++ x ∷ []
  parted = split_at_last xs n (n - 1) x c refl (omega (arith, c, le)) e

  pub lone_off : v ≡ types_in (take (n - 1) xs) rs ++ type_of x ∷ []
  lone_off = sym w ∙ ap (λ z. types_in z rs) parted ∙ single (take (n - 1) xs) rs x k

  pub lone_off_counted : (m : ℕ) → IsCounted xs rs m → IsCounted (take (n - 1) xs) rs m
  lone_off_counted m h =
      counted_prefix (take (n - 1) xs) rs x (type_of x) m (single (take (n - 1) xs) rs x k) (subst (λ z. IsCounted z rs m) parted h)

set_end : {A : Type 0} (prefix_part : List A) (x z : A) → set (prefix_part ++ x ∷ []) (length prefix_part) z ≡ prefix_part ++ z ∷ []
set_end [] x z = refl
set_end (a ∷ rest) x z = ap (λ l. a ∷ l) (set_end rest x z)

-- x and y are the two topmost entries, of the types t and u
module _ (xs : List StackEntry) (rs : List (List ValType)) (v : List (Option ValType)) (n : ℕ) (x y : StackEntry) (t u : ValType) (w : types_in xs rs ≡ v) (c : n ≡ length xs) (le : 2 ≤ n) (ex : x ≡ get_or xs (n - 2) x) (ey : y ≡ get_or xs (n - 1) y) (kx : type_of x ≡ Some t) (ky : type_of y ≡ Some u) where
  split_two : xs ≡ (take (n - 2) xs ++ x ∷ []) ++ y ∷ []
  split_two =
      last_two xs (n - 2) x y (omega (arith, c, le))
      ∙ ap (λ z. take (n - 2) xs ++ z ∷ get_or xs (suc (n - 2)) y ∷ []) (sym ex)
      ∙ ap (λ z. take (n - 2) xs ++ x ∷ z ∷ []) (ap (λ i. get_or xs i y) (omega (arith, le)) ∙ sym ey)
      ∙ sym (append_assoc (take (n - 2) xs) (x ∷ []) (y ∷ []))

  at_x : types_in (take (n - 2) xs ++ x ∷ []) rs ≡ types_in (take (n - 2) xs) rs ++ Some t ∷ []
  at_x =
      single (take (n - 2) xs) rs x (known_single x t kx) ∙ ap (λ z. types_in (take (n - 2) xs) rs ++ z ∷ []) kx

  pub two_off : v ≡ types_in (take (n - 2) xs) rs ++ Some t ∷ Some u ∷ []
  two_off =
      sym w
      ∙ ap (λ z. types_in z rs) split_two
      ∙ single (take (n - 2) xs ++ x ∷ []) rs y (known_single y u ky)
      ∙ ap (λ z. types_in (take (n - 2) xs ++ x ∷ []) rs ++ z ∷ []) ky
      ∙ ap (λ z. z ++ Some u ∷ []) at_x
      ∙ append_assoc (types_in (take (n - 2) xs) rs) (Some t ∷ []) (Some u ∷ [])

  pub two_off_counted : (m : ℕ) → IsCounted xs rs m → IsCounted (take (n - 2) xs) rs m
  two_off_counted m h =
      let without = counted_prefix (take (n - 2) xs ++ x ∷ []) rs y (type_of y) m (single (take (n - 2) xs ++ x ∷ []) rs y (known_single y u ky)) (subst (λ z. IsCounted z rs m) split_two h) in
      counted_prefix (take (n - 2) xs) rs x (type_of x) m (single (take (n - 2) xs) rs x (known_single x t kx)) without

  -- the entry z of the type s is written instead of them
  module _ (ys : List StackEntry) (z : StackEntry) (s : ValType) (off : ys ≡ take (n - 1) xs) (q : type_of z ≡ Some s) where
    in_place : set ys (n - 2) z ≡ take (n - 2) xs ++ z ∷ []
    in_place =
        let long : length (take (n - 2) xs) ≡ n - 2 = omega (arith, length-take (n - 2) xs, c) in
        let rest : ys ≡ take (n - 2) xs ++ x ∷ [] =
        off ∙ ap (λ i. take (i - 1) xs) c ∙ sym (prefix xs (take (n - 2) xs ++ x ∷ []) (y ∷ []) split_two) in
        ap (λ l. set l (n - 2) z) rest
        ∙ ap (λ i. set (take (n - 2) xs ++ x ∷ []) i z) (sym long)
        ∙ set_end (take (n - 2) xs) x z

    pub two_over : types_in (set ys (n - 2) z) rs ≡ types_in (take (n - 2) xs) rs ++ Some s ∷ []
    two_over =
        ap (λ l. types_in l rs) in_place
        ∙ single (take (n - 2) xs) rs z (known_single z s q)
        ∙ ap (λ l. types_in (take (n - 2) xs) rs ++ l ∷ []) q

    pub two_over_counted : (m : ℕ) → IsCounted xs rs m → IsCounted (set ys (n - 2) z) rs m
    two_over_counted m h =
        subst (λ l. IsCounted l rs m) (sym in_place) (counted_single (take (n - 2) xs) rs z m (two_off_counted m h) (known_single z s q))

-- one more entry from s + i on, of the next of the types ts
pub known_more : (xs : List StackEntry) (rs : List (List ValType)) (ts : List ValType) (s i : ℕ) (x : StackEntry) (t : ValType) → s + i < length xs → i < length ts → type_of (get_or xs (s + i) x) ≡ Some (get_or ts i t) → types_in (take (s + i) xs) rs ≡ types_in (take s xs) rs ++ map Some (take i ts) → types_in (take (s + (i + 1)) xs) rs ≡ types_in (take s xs) rs ++ map Some (take (i + 1) ts)
known_more xs rs ts s i x t lx lt k h =
    let at : s + (i + 1) ≡ s + i + 1 = omega arith in
    let y : StackEntry = get_or xs (s + i) x in
    let u : ValType = get_or ts i t in
    ap (λ n. types_in (take n xs) rs) at
    ∙ ap (λ z. types_in z rs) (take_more xs (s + i) x lx)
    ∙ single (take (s + i) xs) rs y (known_single y u k)
    ∙ ap (λ z. types_in (take (s + i) xs) rs ++ z ∷ []) k
    ∙ ap (λ z. z ++ Some u ∷ []) h
    ∙ append_assoc (types_in (take s xs) rs) (map Some (take i ts)) (Some u ∷ [])
    ∙ ap (λ z. types_in (take s xs) rs ++ z) (sym (ap (map Some) (take_more ts i t lt) ∙ map-append Some (take i ts) (u ∷ [])))

-- none of them
pub known_none : (xs : List StackEntry) (rs : List (List ValType)) (ts : List ValType) (s : ℕ) → types_in (take (s + 0) xs) rs ≡ types_in (take s xs) rs ++ map Some (take 0 ts)
known_none xs rs ts s =
    let at : s + 0 ≡ s = omega arith in
    ap (λ n. types_in (take n xs) rs) at ∙ sym (append-nil (types_in (take s xs) rs))

-- all of the types ts
pub known_all : (xs : List StackEntry) (rs : List (List ValType)) (ts : List ValType) (i : ℕ) → length ts ≤ length xs → i ≡ length ts → types_in (take (length xs - length ts + i) xs) rs ≡ types_in (take (length xs - length ts) xs) rs ++ map Some (take i ts) → types_in xs rs ≡ types_in (take (length xs - length ts) xs) rs ++ map Some ts
known_all xs rs ts i le e h =
    ap (λ z. types_in z rs) (sym (take_all (length xs - length ts + i) xs (omega (arith, le, e))))
    ∙ h
    ∙ ap (λ z. types_in (take (length xs - length ts) xs) rs ++ map Some z) (take_all i ts (omega (arith, e)))
