-- A list of operands in which a run takes one entry.
use Rattle.std.proofs.Common.{◌≡◌, ℕ, suc, ◌+◌, ◌-◌, ◌^◌, ◌<◌, ◌≤◌, false, List, [], ◌∷◌, ◌++◌, map, length, take, reverse, Option, Some, None, refl, sym, ap, ◌∙◌, arith, length-append}
use Rattle.std.proofs.lemmas.List.{reverse-append, reverse-reverse, length-reverse, length-map}
use Rattle.wsyntax.specs.declared.ValType.{ValType}
use Rattle.wcheck.specs.declared.entry.StackEntry.{StackEntry}
use Rattle.wcheck.specs.declared.entry.StackEntry.TheVariants.{I32, I64, F32, F64, Unknown, Run}
use Rattle.wcheck.specs.Heights.{type_of}
use Rattle.wcheck.specs.Runs.{is_several, run_at, of_run, stretched, types_in, IsCounted}
use Rattle.wcheck.proofs.ReversedLists.{map-reverse, reversed_last}
use Rattle.wcheck.proofs.LastItems.{no_last, is_there}

-- the topmost entry, where no run stands
top_single : (x : StackEntry) (ys : List StackEntry) (rs : List (List ValType)) → is_several x ≡ false → stretched (x ∷ ys) rs ≡ type_of x ∷ stretched ys rs
top_single I32 ys rs e = refl
top_single I64 ys rs e = refl
top_single F32 ys rs e = refl
top_single F64 ys rs e = refl
top_single Unknown ys rs e = refl
top_single Run ys rs e = absurd cc

-- an entry more, where no run stands
pub single : (xs : List StackEntry) (rs : List (List ValType)) (x : StackEntry) → is_several x ≡ false → types_in (xs ++ x ∷ []) rs ≡ types_in xs rs ++ type_of x ∷ []
unfolding types_in
single xs rs x e =
    ap (λ z. reverse (stretched z (reverse rs))) (reversed_last xs x)
    ∙ ap reverse (top_single x (reverse xs) (reverse rs) e)
    ∙ reverse-append (type_of x ∷ []) (stretched (reverse xs) (reverse rs))

-- a run more
pub several : (xs : List StackEntry) (rs : List (List ValType)) (r : List ValType) → types_in (xs ++ Run ∷ []) (rs ++ r ∷ []) ≡ types_in xs rs ++ of_run r
unfolding types_in
several xs rs r =
    ap (λ z. reverse (stretched z (reverse (rs ++ r ∷ [])))) (reversed_last xs Run)
    ∙ ap (λ z. reverse (stretched (Run ∷ reverse xs) z)) (reversed_last rs r)
    ∙ reverse-append (reverse (of_run r)) (stretched (reverse xs) (reverse rs))
    ∙ ap (λ z. reverse (stretched (reverse xs) (reverse rs)) ++ z) (reverse-reverse (of_run r))

-- an entry of a run that there is not
pub lone : (xs : List StackEntry) → types_in (xs ++ Run ∷ []) [] ≡ types_in xs [] ++ None ∷ []
unfolding types_in
lone xs =
    ap (λ z. reverse (stretched z [])) (reversed_last xs Run)
    ∙ reverse-append (None ∷ []) (stretched (reverse xs) [])

stretched_least : (xs : List StackEntry) (rs : List (List ValType)) → length xs ≤ length (stretched xs rs)
stretched_least [] rs = omega arith
stretched_least (I32 ∷ xs) rs = omega (arith, stretched_least xs rs)
stretched_least (I64 ∷ xs) rs = omega (arith, stretched_least xs rs)
stretched_least (F32 ∷ xs) rs = omega (arith, stretched_least xs rs)
stretched_least (F64 ∷ xs) rs = omega (arith, stretched_least xs rs)
stretched_least (Unknown ∷ xs) rs = omega (arith, stretched_least xs rs)
stretched_least (Run ∷ xs) [] = omega (arith, stretched_least xs [])
stretched_least (Run ∷ xs) ([] ∷ rs) = omega (arith, stretched_least xs rs)
stretched_least (Run ∷ xs) ((t ∷ ts) ∷ rs) =
    omega (arith, stretched_least xs rs, length-append (reverse (of_run (t ∷ ts))) (stretched xs rs), length-reverse (of_run (t ∷ ts)))

-- each entry stands for an operand or more
pub least : (xs : List StackEntry) (rs : List (List ValType)) → length xs ≤ length (types_in xs rs)
unfolding types_in
least xs rs =
    omega (arith, stretched_least (reverse xs) (reverse rs), length-reverse xs, length-reverse (stretched (reverse xs) (reverse rs)))

stretched_singles : (xs : List StackEntry) → stretched xs [] ≡ map type_of xs
stretched_singles [] = refl
stretched_singles (I32 ∷ xs) = ap (λ z. type_of I32 ∷ z) (stretched_singles xs)
stretched_singles (I64 ∷ xs) = ap (λ z. type_of I64 ∷ z) (stretched_singles xs)
stretched_singles (F32 ∷ xs) = ap (λ z. type_of F32 ∷ z) (stretched_singles xs)
stretched_singles (F64 ∷ xs) = ap (λ z. type_of F64 ∷ z) (stretched_singles xs)
stretched_singles (Unknown ∷ xs) = ap (λ z. type_of Unknown ∷ z) (stretched_singles xs)
stretched_singles (Run ∷ xs) = ap (λ z. None ∷ z) (stretched_singles xs)

-- where there is no run, each entry is an operand
pub singles : (xs : List StackEntry) → types_in xs [] ≡ map type_of xs
unfolding types_in
singles xs =
    ap reverse (stretched_singles (reverse xs)) ∙ ap reverse (map-reverse type_of xs) ∙ reverse-reverse (map type_of xs)

pub none : (rs : List (List ValType)) → types_in [] rs ≡ []
unfolding types_in
none rs = refl

pub whole_run : (r : List ValType) → 0 < length r → of_run r ≡ map Some r
whole_run [] lt = absurd (omega (arith, lt))
whole_run (t ∷ ts) lt = refl

-- the operands of a run, an empty one too
pub run_length : (r : List ValType) → length (of_run r) ≡ suc (length r - 1)
run_length [] = refl
run_length (t ∷ ts) = omega (arith, length-map ts (λ (x : ValType). Some x))

-- ---- the count

pub counted_single : (xs : List StackEntry) (rs : List (List ValType)) (x : StackEntry) (m : ℕ) → IsCounted xs rs m → is_several x ≡ false → IsCounted (xs ++ x ∷ []) rs m
counted_single xs rs x m c e = record {
  count = omega (arith, c.count, ap length (single xs rs x e), length-append (types_in xs rs) (type_of x ∷ []), length-append xs (x ∷ []));
  small = c.small;
}

pub counted_run : (xs : List StackEntry) (rs : List (List ValType)) (r : List ValType) (m more : ℕ) → IsCounted xs rs m → more ≡ m + (length r - 1) → more ≤ 2 ^ 63 → IsCounted (xs ++ Run ∷ []) (rs ++ r ∷ []) more
counted_run xs rs r m more c e le = record {
  count = omega (arith, c.count, e, ap length (several xs rs r), length-append (types_in xs rs) (of_run r), run_length r, length-append xs (Run ∷ []));
  small = le;
}

-- without the last entry
pub counted_prefix : (xs : List StackEntry) (rs : List (List ValType)) (x : StackEntry) (y : Option ValType) (m : ℕ) → types_in (xs ++ x ∷ []) rs ≡ types_in xs rs ++ y ∷ [] → IsCounted (xs ++ x ∷ []) rs m → IsCounted xs rs m
counted_prefix xs rs x y m e c = record {
  count = omega (arith, c.count, ap length e, length-append (types_in xs rs) (y ∷ []), length-append xs (x ∷ []));
  small = c.small;
}

-- what a run adds to the entries is counted
pub run_counted : (xs : List StackEntry) (rs : List (List ValType)) (r : List ValType) (m : ℕ) → IsCounted (xs ++ Run ∷ []) (rs ++ r ∷ []) m → length r - 1 ≤ m
run_counted xs rs r m c =
    omega (arith, c.count, ap length (several xs rs r), length-append (types_in xs rs) (of_run r), run_length r, length-append xs (Run ∷ []), least xs rs)

pub counted_less : (xs : List StackEntry) (rs : List (List ValType)) (r : List ValType) (m : ℕ) → IsCounted (xs ++ Run ∷ []) (rs ++ r ∷ []) m → IsCounted xs rs (m - (length r - 1))
counted_less xs rs r m c = record {
  count = omega (arith, c.count, ap length (several xs rs r), length-append (types_in xs rs) (of_run r), run_length r, length-append xs (Run ∷ []), least xs rs);
  small = omega (arith, c.small);
}

-- ---- the topmost entry

-- no run stands there
pub no_run : (xs : List StackEntry) (rs : List (List ValType)) (x : StackEntry) → run_at x rs ≡ None → types_in (xs ++ x ∷ []) rs ≡ types_in xs rs ++ type_of x ∷ []
no_run xs rs I32 e = single xs rs I32 refl
no_run xs rs I64 e = single xs rs I64 refl
no_run xs rs F32 e = single xs rs F32 refl
no_run xs rs F64 e = single xs rs F64 refl
no_run xs rs Unknown e = single xs rs Unknown refl
no_run xs rs Run e =
    let n = no_last rs e in ap (λ z. types_in (xs ++ Run ∷ []) z) n ∙ lone xs ∙ ap (λ z. types_in xs z ++ None ∷ []) (sym n)

-- a run stands there
pub a_run : (rs : List (List ValType)) (x : StackEntry) (r : List ValType) → run_at x rs ≡ Some r → (x ≡ Run) × (rs ≡ take (length rs - 1) rs ++ r ∷ [])
a_run rs I32 r e = absurd cc
a_run rs I64 r e = absurd cc
a_run rs F32 r e = absurd cc
a_run rs F64 r e = absurd cc
a_run rs Unknown r e = absurd cc
a_run rs Run r e = (refl, is_there rs r e)
