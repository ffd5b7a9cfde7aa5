-- What calls side by side leave of a list.
use Rattle.std.proofs.Common.{◌≡◌, ℕ, zero, suc, ◌<◌, List, [], ◌∷◌, ◌++◌, length, slice_index_or, slice_set, sym, refl, ap, subst, arith}
use Rattle.pieces.specs.SideBySide.{EachBecomes}

module _ {T : Type 0} (R : T → T → Type 0) where
  of_one : (a x y : T) → R a y → (i : ℕ) (d : T) → i < 1 → R (slice_index_or (a ∷ []) i d) (slice_index_or (y ∷ []) i d)
  of_one a x y r zero d h = r
  of_one a x y r (suc i) d h = absurd (omega (arith, h))

  -- one item
  pub becomes_one : (xs : List T) (x y : T) → length xs ≡ 1 → R (slice_index_or xs 0 x) y → EachBecomes R xs (slice_set xs 0 y)
  becomes_one [] x y len r = absurd (omega (arith, len))
  becomes_one (a ∷ []) x y len r = record { len = refl; each = of_one a x y r }
  becomes_one (a ∷ b ∷ rest) x y len r = absurd (omega (arith, len))

  of_more : (a b : T) (xs ys : List T) → R a b → EachBecomes R xs ys → (i : ℕ) (d : T) → i < length (a ∷ xs) → R (slice_index_or (a ∷ xs) i d) (slice_index_or (b ∷ ys) i d)
  of_more a b xs ys r h zero d l = r
  of_more a b xs ys r h (suc i) d l = h.each i d (omega (arith, l))

  -- one more item in front
  becomes_more : (a b : T) (xs ys : List T) → R a b → EachBecomes R xs ys → EachBecomes R (a ∷ xs) (b ∷ ys)
  becomes_more a b xs ys r h = record { len = ap suc h.len; each = of_more a b xs ys r h }

  -- the items after the first
  becomes_less : (a b : T) (xs ys : List T) → EachBecomes R (a ∷ xs) (b ∷ ys) → EachBecomes R xs ys
  becomes_less a b xs ys h = record { len = (let k = h.len in omega (arith, k)); each = λ i d l. h.each (suc i) d (omega (arith, l)) }

  -- one more item after
  becomes_behind : (xs ys : List T) (x y : T) → EachBecomes R xs ys → R x y → EachBecomes R (xs ++ x ∷ []) (ys ++ y ∷ [])
  becomes_behind [] [] x y h r = record { len = refl; each = of_one x x y r }
  becomes_behind [] (b ∷ ys) x y h r = absurd (let k = h.len in omega (arith, k))
  becomes_behind (a ∷ xs) [] x y h r = absurd (let k = h.len in omega (arith, k))
  becomes_behind (a ∷ xs) (b ∷ ys) x y h r =
      becomes_more a b (xs ++ x ∷ []) (ys ++ y ∷ []) (h.each 0 a (omega arith)) (becomes_behind xs ys x y (becomes_less a b xs ys h) r)

  -- a list that is cut before its last item
  pub becomes_cut : (all xs ys last : List T) (x y : T) → all ≡ xs ++ last → length last ≡ 1 → EachBecomes R xs ys → R (slice_index_or last 0 x) y
      → EachBecomes R all (ys ++ slice_set last 0 y)
  becomes_cut all xs ys [] x y e len h r = absurd (omega (arith, len))
  becomes_cut all xs ys (a ∷ []) x y e len h r = subst (λ z. EachBecomes R z (ys ++ y ∷ [])) (sym e) (becomes_behind xs ys a y h r)
  becomes_cut all xs ys (a ∷ b ∷ rest) x y e len h r = absurd (omega (arith, len))
