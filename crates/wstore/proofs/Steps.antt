-- One step of a loop over segments and their offsets.
use Rattle.std.proofs.Common.{◌≡◌, ℕ, ◌+◌, ◌<◌, ◌≤◌, List, ◌∷◌, length, map, get_or, Some, sym, ap, ◌∙◌, subst, arith}
use Rattle.std.specs.Prelude.{slice_get}
use Rattle.std.proofs.lemmas.List.{get_or-map, length-map}
use Rattle.std.proofs.lemmas.Option.{slice_get_within, get_or_from_slice_get}
use Rattle.wsyntax.specs.Modules.{element_shape, data_shape}
use Rattle.wsyntax.specs.HeldElement.{HeldElement}
use Rattle.wsyntax.specs.declared.module.Data.{Data}
use Rattle.wsyntax.specs.Execution.Allocation.{Segment, AllWithin, overwrite, put_elements, put_data}
use Rattle.wsyntax.specs.Execution.Store.{Entry, SetTo}
use Rattle.wsyntax.specs.Execution.Start.{element_segment, data_segment}
use Rattle.accepted_module.specs.Segments.{element_segments, data_segments, offsets_of}

-- The offset of one.

-- of a list that is mapped twice
offset_at : {X Y : Type 0} (g : Y → Segment) (f : X → Y) (xs : List X) (i : ℕ) (x : X) (offsets : List ℕ) → offsets ≡ offsets_of (map g (map f xs)) → x ≡ get_or xs i x → i < length xs → get_or offsets i 0 ≡ (g (f x)).offset
offset_at g f xs i x offsets all is below =
    let within : i < length (map f xs) = omega (arith, length-map xs f) in
    let inside : i < length (map g (map f xs)) = omega (arith, length-map (map f xs) g) in
    ap (λ l. get_or l i 0) all
    ∙ get_or-map (λ (s : Segment). s.offset) (map g (map f xs)) i (g (f x)) 0 inside
    ∙ ap (λ (s : Segment). s.offset) (get_or-map g (map f xs) i (f x) (g (f x)) within)
    ∙ ap (λ y. (g y).offset) (get_or-map f xs i x (f x) below)
    ∙ ap (λ y. (g (f y)).offset) (sym is)

pub element_placed : (es : List HeldElement) (i : ℕ) (e : HeldElement) (offsets : List ℕ) → offsets ≡ offsets_of (element_segments es) → Some e ≡ slice_get es i → get_or offsets i 0 ≡ (element_segment (element_shape e)).offset
element_placed es i e offsets all read =
    offset_at element_segment element_shape es i e offsets all (sym (get_or_from_slice_get es i e e (sym read))) (slice_get_within es i e (sym read))

pub data_placed : (ds : List Data) (i : ℕ) (d : Data) (offsets : List ℕ) → offsets ≡ offsets_of (data_segments ds) → d ≡ get_or ds i d → i < length ds → get_or offsets i 0 ≡ (data_segment (data_shape d)).offset
data_placed ds i d offsets all is below = offset_at data_segment data_shape ds i d offsets all is below

-- What is within.

-- the first segment of those that are left, at its offset, of that many items
pub within_here : (n offset count : ℕ) (s : Segment) (all rest : List Segment) → all ≡ s ∷ rest → offset ≡ s.offset → count ≡ length s.items → AllWithin n all → offset + count ≤ n
within_here n offset count s all rest is at many within =
    let h = subst (AllWithin n) is within in let here : s.offset + length s.items ≤ n = h.0 in omega arith

pub within_later : (n : ℕ) (s : Segment) (all rest : List Segment) → all ≡ s ∷ rest → AllWithin n all → AllWithin n rest
within_later n s all rest is within = let h = subst (AllWithin n) is within in h.1

-- What is put.

pub put_elements_here : (offset : ℕ) (fs : List ℕ) (s : Segment) (all from rest : List Segment) (old was new : List Entry) → from ≡ s ∷ rest → offset ≡ s.offset → fs ≡ s.items
    → new ≡ overwrite offset (map SetTo fs) was → put_elements from was ≡ put_elements all old → put_elements rest new ≡ put_elements all old
put_elements_here offset fs s all from rest old was new is at these wrote before =
    ap (put_elements rest) (wrote ∙ ap (λ p. overwrite p (map SetTo fs) was) at ∙ ap (λ l. overwrite s.offset (map SetTo l) was) these)
    ∙ ap (λ l. put_elements l was) (sym is) ∙ before

pub put_data_here : (offset : ℕ) (s : Segment) (all from rest : List Segment) (old was new : List ℕ) → from ≡ s ∷ rest → offset ≡ s.offset
    → new ≡ overwrite offset s.items was → put_data from was ≡ put_data all old → put_data rest new ≡ put_data all old
put_data_here offset s all from rest old was new is at wrote before =
    ap (put_data rest) (wrote ∙ ap (λ p. overwrite p s.items was) at) ∙ ap (λ l. put_data l was) (sym is) ∙ before
