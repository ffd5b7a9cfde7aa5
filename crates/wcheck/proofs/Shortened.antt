-- A list of operands without its topmost entry, or with less of the run there.
use Rattle.std.proofs.Common.{◌≡◌, ℕ, zero, suc, ◌+◌, ◌-◌, ◌<◌, ◌≤◌, List, [], ◌∷◌, ◌++◌, map, length, take, drop, get_or, Option, Some, None, refl, sym, ap, ◌∙◌, subst, arith, length-append, length-take, length-drop}
use Rattle.std.specs.Prelude.{set}
use Rattle.std.proofs.Math.Seq.{take-nil}
use Rattle.std.proofs.lemmas.Option.{get_or_from_slice_get}
use Rattle.std.proofs.lemmas.List.{get_or-map, append_assoc, length-map, map-append, take-append-drop, take-map, map-set}
use Rattle.wsyntax.specs.declared.ValType.{ValType}
use Rattle.wsyntax.specs.Types.{FuncType}
use Rattle.wcontext.specs.Lists.{list_of, prefix_of}
use Rattle.wcheck.specs.declared.entry.StackEntry.{StackEntry}
use Rattle.wcontext.specs.declared.lists.TypePrefix.{TypePrefix}
use Rattle.wcheck.specs.declared.entry.StackEntry.TheVariants.{Run}
use Rattle.wcheck.specs.Heights.{type_of}
use Rattle.wcheck.specs.Runs.{run_at, of_run, types_in, IsCounted}
use Rattle.wcheck.proofs.LastItems.{prefix, set_last}
use Rattle.wcheck.proofs.Stretched.{none, several, whole_run, run_length, counted_prefix, run_counted, counted_less, no_run, a_run}

pub nonempty : (xs : List StackEntry) (rs : List (List ValType)) (v : List (Option ValType)) → types_in xs rs ≡ v → 0 < length v → 0 < length xs
nonempty [] rs v w lt = absurd (omega (arith, lt, ap length w, ap length (none rs)))
nonempty (x ∷ xs) rs v w lt = omega arith

-- the entries xs with the runs rs stand for v, and x is the topmost entry
module _ (xs : List StackEntry) (rs : List (List ValType)) (x : StackEntry) (v : List (Option ValType)) (n : ℕ) (w : types_in xs rs ≡ v) (s : xs ≡ take n xs ++ x ∷ []) where
  pub one_less : run_at x rs ≡ None → types_in (take n xs) rs ≡ take (length v - 1) v
  one_less q = prefix v (types_in (take n xs) rs) (type_of x ∷ []) (sym w ∙ ap (λ z. types_in z rs) s ∙ no_run (take n xs) rs x q)

  pub one_less_counted : (m : ℕ) → run_at x rs ≡ None → IsCounted xs rs m → IsCounted (take n xs) rs m
  one_less_counted m q c =
      counted_prefix (take n xs) rs x (type_of x) m (no_run (take n xs) rs x q) (subst (λ z. IsCounted z rs m) s c)

  -- what stands there, when it is the run r
  pub split_run : (r : List ValType) → run_at x rs ≡ Some r → v ≡ types_in (take n xs) (take (length rs - 1) rs) ++ of_run r
  split_run r q =
      let e = a_run rs x r q in
      sym w
      ∙ ap (λ z. types_in z rs) (s ∙ ap (λ z. take n xs ++ z ∷ []) e.0)
      ∙ ap (types_in (take n xs ++ Run ∷ [])) e.1
      ∙ several (take n xs) (take (length rs - 1) rs) r

  whole_counted : (m : ℕ) (r : List ValType) → run_at x rs ≡ Some r → IsCounted xs rs m → IsCounted (take n xs ++ Run ∷ []) (take (length rs - 1) rs ++ r ∷ []) m
  whole_counted m r q c =
      let e = a_run rs x r q in
      subst (λ z. IsCounted (take n xs ++ Run ∷ []) z m) e.1 (subst (λ z. IsCounted z rs m) (s ∙ ap (λ z. take n xs ++ z ∷ []) e.0) c)

  pub there_is : (r : List ValType) → run_at x rs ≡ Some r → 0 < length rs
  there_is r q =
      let e = (a_run rs x r q).1 in omega (arith, ap length e, length-append (take (length rs - 1) rs) (r ∷ []))

  pub is_counted : (m : ℕ) (r : List ValType) → run_at x rs ≡ Some r → IsCounted xs rs m → length r - 1 ≤ m
  is_counted m r q c = run_counted (take n xs) (take (length rs - 1) rs) r m (whole_counted m r q c)

  pub run_less : (r : List ValType) (k : ℕ) → run_at x rs ≡ Some r → k ≡ suc (length r - 1) → types_in (take n xs) (take (length rs - 1) rs) ≡ take (length v - k) v
  run_less r k q e =
      prefix v (types_in (take n xs) (take (length rs - 1) rs)) (of_run r) (split_run r q) ∙ ap (λ z. take (length v - z) v) (run_length r ∙ sym e)

  pub run_less_counted : (m : ℕ) (r : List ValType) → run_at x rs ≡ Some r → IsCounted xs rs m → IsCounted (take n xs) (take (length rs - 1) rs) (m - (length r - 1))
  run_less_counted m r q c = counted_less (take n xs) (take (length rs - 1) rs) r m (whole_counted m r q c)

  -- the run r' and then more
  cut_is : (r r' more : List ValType) → run_at x rs ≡ Some r → r ≡ r' ++ more → 0 < length r' → v ≡ types_in xs (take (length rs - 1) rs ++ r' ∷ []) ++ map Some more
  cut_is r r' more q e lt =
      let there = a_run rs x r q in
      let all : of_run r ≡ of_run r' ++ map Some more =
      whole_run r (omega (arith, ap length e, length-append r' more))
      ∙ ap (map Some) e
      ∙ map-append Some r' more
      ∙ ap (λ z. z ++ map Some more) (sym (whole_run r' lt)) in
      split_run r q
      ∙ ap (λ z. types_in (take n xs) (take (length rs - 1) rs) ++ z) all
      ∙ sym (append_assoc (types_in (take n xs) (take (length rs - 1) rs)) (of_run r') (map Some more))
      ∙ ap (λ z. z ++ map Some more) (sym (several (take n xs) (take (length rs - 1) rs) r'))
      ∙ ap (λ z. types_in z (take (length rs - 1) rs ++ r' ∷ []) ++ map Some more) (sym (s ∙ ap (λ z. take n xs ++ z ∷ []) there.0))

  pub cut_less : (r : List ValType) (by left : ℕ) → run_at x rs ≡ Some r → by < length r → left ≡ length r - by → types_in xs (take (length rs - 1) rs ++ take left r ∷ []) ≡ take (length v - by) v
  cut_less r by left q lt e =
      let size : length (take left r) ≡ left = omega (arith, length-take left r) in
      let rest : length (drop left r) ≡ by = omega (arith, length-drop left r) in
      prefix v (types_in xs (take (length rs - 1) rs ++ take left r ∷ [])) (map Some (drop left r)) (cut_is r (take left r) (drop left r) q (sym (take-append-drop left r)) (omega arith))
      ∙ ap (λ z. take (length v - z) v) (length-map (drop left r) (λ (t : ValType). Some t) ∙ rest)

  pub cut_counted : (m : ℕ) (r : List ValType) (by left : ℕ) → run_at x rs ≡ Some r → by < length r → left ≡ length r - by → IsCounted xs rs m → IsCounted xs (take (length rs - 1) rs ++ take left r ∷ []) (m - by)
  cut_counted m r by left q lt e c =
      let long : length v ≡ length xs + m = ap length (sym w) ∙ c.count in
      let size : length (map Some (drop left r)) ≡ by = length-map (drop left r) (λ (t : ValType). Some t) ∙ omega (arith, length-drop left r) in
      let all = cut_is r (take left r) (drop left r) q (sym (take-append-drop left r)) (omega (arith, length-take left r)) in
      let enough = is_counted m r q c in
      record {
        count = omega (arith, long, size, ap length all, length-append (types_in xs (take (length rs - 1) rs ++ take left r ∷ [])) (map Some (drop left r)), enough);
        small = omega (arith, c.small);
      }

-- the runs with another instead of the last
pub last_run_written : (types : List FuncType) (rs : List TypePrefix) (count n : ℕ) (run : TypePrefix) (r : List ValType) → prefix_of types run ≡ r → count ≡ length rs → n ≡ count - 1 → 0 < length (map (prefix_of types) rs) → map (prefix_of types) (set rs n run) ≡ take (length (map (prefix_of types) rs) - 1) (map (prefix_of types) rs) ++ r ∷ []
last_run_written types rs count n run r k c e lt =
    map-set (prefix_of types) rs n run
    ∙ set_last (map (prefix_of types) rs) n (prefix_of types run) lt (omega (arith, c, e, length-map rs (prefix_of types)))
    ∙ ap (λ z. take (length (map (prefix_of types) rs) - 1) (map (prefix_of types) rs) ++ z ∷ []) k

-- less of the prefix is less of what there was
take_less : (xs : List ValType) (n left : ℕ) → left ≤ length (take n xs) → take left xs ≡ take left (take n xs)
take_less [] n left le = ap (take left) (sym (take-nil n))
take_less (x ∷ xs) zero left le = (let z : left ≡ 0 = omega (arith, le) in ap (λ k. take k (x ∷ xs)) z ∙ ap (λ k. take k (take zero (x ∷ xs))) (sym z))
take_less (x ∷ xs) (suc n) zero le = refl
take_less (x ∷ xs) (suc n) (suc left) le = ap (λ z. x ∷ z) (take_less xs n left (omega (arith, le)))

-- the last run, cut
pub last_run_cut : (types : List FuncType) (rs : List TypePrefix) (count n left : ℕ) (run : TypePrefix) (x : StackEntry) (r : List ValType) → run_at x (map (prefix_of types) rs) ≡ Some r → count ≡ length rs → n ≡ count - 1 → run ≡ get_or rs n run → left ≤ length r → prefix_of types (record run { count = left }) ≡ take left r
last_run_cut types rs count n left run x r q c e h le =
    let there = a_run (map (prefix_of types) rs) x r q in
    let size : length (map (prefix_of types) rs) ≡ length rs = length-map rs (prefix_of types) in
    let some : 0 < length (map (prefix_of types) rs) =
    omega (arith, ap length there.1, length-append (take (length (map (prefix_of types) rs) - 1) (map (prefix_of types) rs)) (r ∷ [])) in
    let at : n ≡ length (map (prefix_of types) rs) - 1 = omega (arith, c, e, size) in
    let is : prefix_of types run ≡ r =
    ap (prefix_of types) h
    ∙ sym (get_or-map (prefix_of types) rs n run (prefix_of types run) (omega (arith, c, e, size, some)))
    ∙ ap (λ i. get_or (map (prefix_of types) rs) i (prefix_of types run)) at
    ∙ get_or_from_slice_get (map (prefix_of types) rs) (length (map (prefix_of types) rs) - 1) r (prefix_of types run) (sym (ap (λ z. run_at z (map (prefix_of types) rs)) there.0) ∙ q) in
    take_less (list_of types run.list) run.count left (subst (λ z. left ≤ length z) (sym is) le) ∙ ap (take left) is

-- the runs without the last
pub last_run_gone : (types : List FuncType) (rs qs : List TypePrefix) (count n : ℕ) → count ≡ length rs → n ≡ count - 1 → qs ≡ take n rs → map (prefix_of types) qs ≡ take (length (map (prefix_of types) rs) - 1) (map (prefix_of types) rs)
last_run_gone types rs qs count n c e h =
    let k : n ≡ length (map (prefix_of types) rs) - 1 = omega (arith, c, e, length-map rs (prefix_of types)) in
    ap (map (prefix_of types)) h ∙ sym (take-map (prefix_of types) n rs) ∙ ap (λ z. take z (map (prefix_of types) rs)) k
