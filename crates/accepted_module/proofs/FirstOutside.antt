-- The first segment that lies outside, segment by segment.
use Rattle.std.proofs.Common.{◌≡◌, ℕ, suc, ◌+◌, ◌<◌, Bool, true, false, List, ◌∷◌, length, drop, map, get_or, Some, sym, ap, ◌∙◌, cond, arith}
use Rattle.std.specs.Prelude.{nat_lt, slice_get}
use lib.Dec.{leb}
use Rattle.std.proofs.lemmas.Bool.{lt-ltb, le-ltb, leb-true, leb-false}
use Rattle.std.proofs.lemmas.List.{drop-map, drop_more}
use Rattle.std.proofs.lemmas.Option.{slice_get_within, get_or_from_slice_get}
use Rattle.wsyntax.specs.Modules.{element_shape, data_shape}
use Rattle.wsyntax.specs.HeldElement.{HeldElement}
use Rattle.wsyntax.specs.declared.module.Data.{Data}
use Rattle.wsyntax.specs.Execution.Allocation.{Segment}
use Rattle.wsyntax.specs.Execution.Start.{element_segment, data_segment, first_outside}
use Rattle.accepted_module.specs.Segments.{element_segments, data_segments}

-- The segments from one on.

-- of a list that is mapped twice
from_here : {X Y Z : Type 0} (g : Y → Z) (f : X → Y) (xs : List X) (i : ℕ) (x : X) → x ≡ get_or xs i x → i < length xs
    → drop i (map g (map f xs)) ≡ g (f x) ∷ drop (i + 1) (map g (map f xs))
from_here g f xs i x is below =
    drop-map g i (map f xs) ∙ ap (map g) (drop-map f i xs) ∙ ap (λ l. map g (map f l)) (drop_more xs i x below)
    ∙ ap (λ y. g (f y) ∷ map g (map f (drop (i + 1) xs))) (sym is)
    ∙ ap (λ l. g (f x) ∷ map g l) (sym (drop-map f (i + 1) xs)) ∙ ap (λ l. g (f x) ∷ l) (sym (drop-map g (i + 1) (map f xs)))

pub elements_from : (es : List HeldElement) (i : ℕ) (e : HeldElement) → Some e ≡ slice_get es i
    → drop i (element_segments es) ≡ element_segment (element_shape e) ∷ drop (i + 1) (element_segments es)
elements_from es i e read =
    from_here element_segment element_shape es i e (sym (get_or_from_slice_get es i e e (sym read))) (slice_get_within es i e (sym read))

pub data_from : (ds : List Data) (i : ℕ) (d : Data) → d ≡ get_or ds i d → i < length ds
    → drop i (data_segments ds) ≡ data_segment (data_shape d) ∷ drop (i + 1) (data_segments ds)
data_from ds i d is below = from_here data_segment data_shape ds i d is below

-- The first outside.

pub outside_here : (n offset count i : ℕ) (s : Segment) (all from rest : List Segment) (b : Bool) → from ≡ s ∷ rest → offset ≡ s.offset → count ≡ length s.items → b ≡ leb (offset + count) n → b ≡ false
    → first_outside 0 n all ≡ first_outside i n from → Some i ≡ first_outside 0 n all
outside_here n offset count i s all from rest b is at many test failed before =
    let t : leb (offset + count) n ≡ false = sym test ∙ failed in
    let e : offset + count ≡ s.offset + length s.items = omega arith in
    let out : nat_lt n (s.offset + length s.items) ≡ true = ap (nat_lt n) (sym e) ∙ lt-ltb n (offset + count) (leb-false (offset + count) n t) in
    sym (before ∙ ap (first_outside i n) is ∙ ap (λ x. cond x (Some i) (first_outside (suc i) n rest)) out)

pub inside_here : (n offset count i : ℕ) (s : Segment) (all from rest : List Segment) (b : Bool) → from ≡ s ∷ rest → offset ≡ s.offset → count ≡ length s.items → b ≡ leb (offset + count) n → b ≡ true
    → first_outside 0 n all ≡ first_outside i n from → first_outside 0 n all ≡ first_outside (i + 1) n rest
inside_here n offset count i s all from rest b is at many test holds before =
    let t : leb (offset + count) n ≡ true = sym test ∙ holds in
    let e : offset + count ≡ s.offset + length s.items = omega arith in
    let in' : nat_lt n (s.offset + length s.items) ≡ false = ap (nat_lt n) (sym e) ∙ le-ltb n (offset + count) (leb-true (offset + count) n t) in
    let next : suc i ≡ i + 1 = omega arith in
    before ∙ ap (first_outside i n) is ∙ ap (λ x. cond x (Some i) (first_outside (suc i) n rest)) in' ∙ ap (λ k. first_outside k n rest) next
