-- What a loop over a list makes of its items.
use Rattle.std.proofs.Common.{◌≡◌, ℕ, ◌+◌, ◌<◌, List, [], ◌∷◌, ◌++◌, length, take, get_or, map, Some, sym, ap, ◌∙◌}
use Rattle.std.specs.Prelude.{slice_get}
use Rattle.std.proofs.lemmas.List.{map_more}
use Rattle.std.proofs.lemmas.Option.{slice_get_within, get_or_from_slice_get}
use Rattle.std.proofs.lemmas.Simd.{map-map}
use Rattle.wsyntax.specs.HeldElement.{HeldElement}
use Rattle.wsyntax.specs.declared.module.Global.{Global}
use Rattle.wsyntax.specs.declared.module.Data.{Data}
use Rattle.wsyntax.specs.Modules.{global_shape, element_shape, data_shape}
use Rattle.wsyntax.specs.Execution.Allocation.{Segment}
use Rattle.wsyntax.specs.Execution.Start.{first_value, element_segment, data_segment}
use Rattle.soundness.specs.Slots.{bits, slots}
use Rattle.accepted_module.specs.Segments.{element_segments, data_segments, element_offset, data_offset, offsets_of}

-- one more number
pub one_more : {A : Type 0} (f : A → ℕ) (xs : List A) (i : ℕ) (x : A) (was new : List ℕ) (n : ℕ) → x ≡ get_or xs i x → i < length xs → was ≡ map f (take i xs) → n ≡ f x → new ≡ was ++ n ∷ [] → new ≡ map f (take (i + 1) xs)
one_more f xs i x was new n is below so_far number pushed =
    pushed ∙ ap (λ l. l ++ n ∷ []) so_far ∙ ap (λ k. map f (take i xs) ++ k ∷ []) (number ∙ ap f is) ∙ sym (map_more f xs i x below)

-- one more, of an item that is read by its index
pub one_more_read : {A : Type 0} (f : A → ℕ) (xs : List A) (i : ℕ) (x : A) (was new : List ℕ) (n : ℕ) → Some x ≡ slice_get xs i → was ≡ map f (take i xs) → n ≡ f x → new ≡ was ++ n ∷ [] → new ≡ map f (take (i + 1) xs)
one_more_read f xs i x was new n read so_far number pushed =
    one_more f xs i x was new n (sym (get_or_from_slice_get xs i x x (sym read))) (slice_get_within xs i x (sym read)) so_far number pushed

-- the words of the globals
pub words_of : (gs : List Global) → map (λ (g : Global). bits (first_value (global_shape g))) gs ≡ slots (map first_value (map global_shape gs))
words_of gs = sym (ap (map bits) (map-map first_value global_shape gs) ∙ map-map bits (λ (g : Global). first_value (global_shape g)) gs)

-- the offsets of the segments
pub element_offsets_of : (es : List HeldElement) → map element_offset es ≡ offsets_of (element_segments es)
element_offsets_of es = sym (ap (map (λ (s : Segment). s.offset)) (map-map element_segment element_shape es) ∙ map-map (λ (s : Segment). s.offset) (λ (e : HeldElement). element_segment (element_shape e)) es)

pub data_offsets_of : (ds : List Data) → map data_offset ds ≡ offsets_of (data_segments ds)
data_offsets_of ds = sym (ap (map (λ (s : Segment). s.offset)) (map-map data_segment data_shape ds) ∙ map-map (λ (s : Segment). s.offset) (λ (d : Data). data_segment (data_shape d)) ds)
