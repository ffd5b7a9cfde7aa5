-- The functions of element segments lie one after the other, and are all that there are.
use Rattle.std.proofs.Common.{◌≡◌, ℕ, zero, suc, ◌+◌, ◌-◌, ◌≤◌, ◌<◌, List, [], ◌∷◌, ◌++◌, Some, None, length, drop, refl, ap, sym, subst, ◌∙◌, arith, length-append, slice_get, get_or}
use Rattle.std.specs.List.{slice_range}
use Rattle.std.proofs.lemmas.List.{drop-append-le, length-drop}
use Rattle.std.proofs.Math.ListN.{set}
use Rattle.std.proofs.Math.Seq.{take-length, set-append_seam, get_or-append_seam}
use Rattle.wsyntax.specs.Elements.{element_in, elements_from, FillFrom, start_at, with_function}
use Rattle.wsyntax.specs.declared.elements.Segment.{Segment}
use Rattle.wsyntax.proofs.Ranges.{range_stays}

pub fill_within : (functions : List ℕ) (start : ℕ) (ss : List Segment) → FillFrom functions start ss → start ≤ length functions
fill_within functions start [] fill = omega (arith, fill)
fill_within functions start (s ∷ ss) fill = let rest = fill_within functions s.end ss fill.1 in omega (arith, fill.0, rest)

-- A segment that is read.

pub count_from : (functions : List ℕ) (start : ℕ) (ss : List Segment) → length (elements_from functions start ss) ≡ length ss
count_from functions start [] = refl
count_from functions start (s ∷ ss) = ap suc (count_from functions s.end ss)

pub read_from : (functions : List ℕ) (start : ℕ) (ss : List Segment) (n : ℕ) (s : Segment) → slice_get ss n ≡ Some s → slice_get (elements_from functions start ss) n ≡ Some (element_in functions (start_at start ss n) s)
read_from functions start [] n s e = cc e
read_from functions start (r ∷ ss) zero s e = let same : r ≡ s = cc e in ap (λ (x : Segment). Some (element_in functions start x)) same
read_from functions start (r ∷ ss) (suc n) s e = read_from functions r.end ss n s e

pub none_from : (functions : List ℕ) (start : ℕ) (ss : List Segment) (n : ℕ) → slice_get ss n ≡ None → slice_get (elements_from functions start ss) n ≡ None
none_from functions start [] n e = refl
none_from functions start (r ∷ ss) zero e = cc e
none_from functions start (r ∷ ss) (suc n) e = none_from functions r.end ss n e

pub segment_within : (functions : List ℕ) (start : ℕ) (ss : List Segment) (n : ℕ) (s : Segment) → FillFrom functions start ss → slice_get ss n ≡ Some s → (start_at start ss n ≤ s.end) × (s.end ≤ length functions)
segment_within functions start [] n s fill e = cc e
segment_within functions start (r ∷ ss) zero s fill e = let same : r ≡ s = cc e in subst (λ (x : Segment). (start ≤ x.end) × (x.end ≤ length functions)) same (fill.0, fill_within functions r.end ss fill.1)
segment_within functions start (r ∷ ss) (suc n) s fill e = segment_within functions r.end ss n s fill.1 e

pub start_behind : (start : ℕ) (ss : List Segment) (n : ℕ) (s : Segment) → slice_get ss n ≡ Some s → start_at start ss (suc n) ≡ s.end
start_behind start [] n s e = cc e
start_behind start (r ∷ ss) zero s e = let same : r ≡ s = cc e in ap (λ (x : Segment). x.end) same
start_behind start (r ∷ ss) (suc n) s e = start_behind r.end ss n s e

-- A segment more, which has no functions.

none_there : (functions : List ℕ) (n : ℕ) → slice_range functions n n ≡ []
none_there functions n = let e : n - n ≡ 0 = omega arith in rw e refl

pub segment_more : (functions : List ℕ) (start : ℕ) (ss : List Segment) (s : Segment) → s.end ≡ length functions → FillFrom functions start ss → elements_from functions start (ss ++ s ∷ []) ≡ elements_from functions start ss ++ record { table = s.table; offset = s.offset; functions = [] } ∷ []
segment_more functions start [] s end fill =
    let part : slice_range functions start s.end ≡ [] = rw (fill, end) (none_there functions (length functions)) in
    ap (λ fs. record { table = s.table; offset = s.offset; functions = fs } ∷ []) part
segment_more functions start (r ∷ ss) s end fill = ap (λ es. element_in functions start r ∷ es) (segment_more functions r.end ss s end fill.1)

pub fill_more : (functions : List ℕ) (start : ℕ) (ss : List Segment) (s : Segment) → s.end ≡ length functions → FillFrom functions start ss → FillFrom functions start (ss ++ s ∷ [])
fill_more functions start [] s end fill = (omega (arith, end, fill), end)
fill_more functions start (r ∷ ss) s end fill = (fill.0, fill_more functions r.end ss s end fill.1)

-- A function more, in the last segment.

part_more : (functions : List ℕ) (f start : ℕ) → start ≤ length functions → slice_range (functions ++ f ∷ []) start (length functions + 1) ≡ slice_range functions start (length functions) ++ f ∷ []
part_more functions f start le =
    let many : length functions + 1 - start ≡ length (drop start functions ++ f ∷ []) = omega (arith, length-append (drop start functions) (f ∷ []), length-drop start functions) in
    let few : length functions - start ≡ length (drop start functions) = omega (arith, length-drop start functions) in
    rw (drop-append-le start functions (f ∷ []) le, many, few, take-length (drop start functions ++ f ∷ []), take-length (drop start functions)) refl

stays : (functions : List ℕ) (f start : ℕ) (s : Segment) → start ≤ s.end → s.end ≤ length functions → element_in (functions ++ f ∷ []) start s ≡ element_in functions start s
stays functions f start s ordered within = rw (range_stays functions (f ∷ []) start s.end ordered within) refl

-- the last segment ends one later
pub last_later : (functions : List ℕ) (f start : ℕ) (ss : List Segment) (last new : Segment) → last.table ≡ new.table → last.offset ≡ new.offset → new.end ≡ length functions + 1 → FillFrom functions start (ss ++ last ∷ []) → elements_from (functions ++ f ∷ []) start (ss ++ new ∷ []) ≡ with_function (elements_from functions start (ss ++ last ∷ [])) f
last_later functions f start [] last new table offset end fill =
    let part : slice_range (functions ++ f ∷ []) start new.end ≡ slice_range functions start last.end ++ f ∷ [] = rw (end, fill.1) (part_more functions f start (omega (arith, fill.0, fill.1))) in
    cc (table, offset, part)
last_later functions f start (s ∷ []) last new table offset end fill =
    let here = stays functions f start s fill.0 (fill_within functions s.end (last ∷ []) fill.1) in
    let rest = last_later functions f s.end [] last new table offset end fill.1 in cc (here, rest)
last_later functions f start (s ∷ r ∷ ss) last new table offset end fill =
    let here = stays functions f start s fill.0 (fill_within functions s.end (r ∷ ss ++ last ∷ []) fill.1) in
    let rest = last_later functions f s.end (r ∷ ss) last new table offset end fill.1 in cc (here, rest)

pub fill_later : (functions : List ℕ) (f start : ℕ) (ss : List Segment) (last new : Segment) → new.end ≡ length functions + 1 → FillFrom functions start (ss ++ last ∷ []) → FillFrom (functions ++ f ∷ []) start (ss ++ new ∷ [])
fill_later functions f start [] last new end fill = (omega (arith, end, fill.0, fill.1), end ∙ sym (length-append functions (f ∷ [])))
fill_later functions f start (s ∷ ss) last new end fill = (fill.0, fill_later functions f s.end ss last new end fill.1)

-- a list that is not empty has a last segment
pub last_of : (ss : List Segment) → 0 < length ss → (front : List Segment) × (last : Segment) × (ss ≡ front ++ last ∷ [])
last_of [] some = let no : ⊥ = omega (arith, some) in elim no [ ]
last_of (s ∷ []) some = ([], s, refl)
last_of (s ∷ r ∷ ss) some = let rest = last_of (r ∷ ss) (omega arith) in (s ∷ rest.0, rest.1, ap (λ l. s ∷ l) rest.2)

-- what is written over it
pub written_last : (front : List Segment) (last new : Segment) → set (front ++ last ∷ []) (length (front ++ last ∷ []) - 1) new ≡ front ++ new ∷ []
written_last front last new =
    let n : length (front ++ last ∷ []) - 1 ≡ length front = omega (arith, length-append front (last ∷ [])) in
    rw n (set-append_seam front last [] new)

pub read_last : (front : List Segment) (last d : Segment) → get_or (front ++ last ∷ []) (length (front ++ last ∷ []) - 1) d ≡ last
read_last front last d =
    let n : length (front ++ last ∷ []) - 1 ≡ length front = omega (arith, length-append front (last ∷ [])) in
    rw n (get_or-append_seam front last [] d)

-- a function more, and the last segment ends one later
pub record Later (functions : List ℕ) (f : ℕ) (ss : List Segment) (new : Segment) : Type 0 where
  pub held : elements_from (functions ++ f ∷ []) 0 (set ss (length ss - 1) new) ≡ with_function (elements_from functions 0 ss) f
  pub fill : FillFrom (functions ++ f ∷ []) 0 (set ss (length ss - 1) new)

later_at : (functions : List ℕ) (f : ℕ) (front : List Segment) (last new d : Segment) → d ≡ get_or (front ++ last ∷ []) (length (front ++ last ∷ []) - 1) d → new ≡ record d { end = length functions + 1 } → FillFrom functions 0 (front ++ last ∷ []) → Later functions f (front ++ last ∷ []) new
later_at functions f front last new d read is fill =
    let same : d ≡ last = read ∙ read_last front last d in
    let there = written_last front last new in
    let end : new.end ≡ length functions + 1 = ap (λ (s : Segment). s.end) is in
    let table : last.table ≡ new.table = ap (λ (s : Segment). s.table) (sym same) ∙ sym (ap (λ (s : Segment). s.table) is) in
    let offset : last.offset ≡ new.offset = ap (λ (s : Segment). s.offset) (sym same) ∙ sym (ap (λ (s : Segment). s.offset) is) in
    record {
      held = ap (elements_from (functions ++ f ∷ []) 0) there ∙ last_later functions f 0 front last new table offset end fill;
      fill = subst (FillFrom (functions ++ f ∷ []) 0) (sym there) (fill_later functions f 0 front last new end fill);
    }

pub later_of : (functions : List ℕ) (f : ℕ) (ss : List Segment) (new d : Segment) → 0 < length ss → d ≡ get_or ss (length ss - 1) d → new ≡ record d { end = length functions + 1 } → FillFrom functions 0 ss → Later functions f ss new
later_of functions f ss new d some read is fill =
    let parts = last_of ss some in
    subst (λ l. Later functions f l new) (sym parts.2)
    (later_at functions f parts.0 parts.1 new d (subst (λ l. d ≡ get_or l (length l - 1) d) parts.2 read) is (subst (FillFrom functions 0) parts.2 fill))
