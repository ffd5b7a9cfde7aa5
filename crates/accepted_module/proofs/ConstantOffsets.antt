-- Segments that are valid have offsets.
use Rattle.std.proofs.Common.{◌≡◌, ℕ, List, map, Some, sym, subst, arith}
use Rattle.std.specs.Prelude.{All, slice_get}
use Rattle.std.proofs.lemmas.List.{get_or-map, length-map}
use Rattle.std.proofs.lemmas.Option.{slice_get_within, get_or_from_slice_get}
use Rattle.wsyntax.specs.Modules.{ModuleShape, element_shape, data_shape}
use Rattle.wsyntax.specs.Validation.ModuleContext.{imported_globals}
use Rattle.wsyntax.specs.Validation.Rules.{ElementValid, DataValid}
use Rattle.wsyntax.specs.HeldElement.{HeldElement}
use Rattle.wsyntax.specs.declared.module.Data.{Data}
use Rattle.accepted_module.specs.Segments.{IsOffset}

-- what is so of each shape is so of what has it
of_shapes : {X Y : Type 0} (P : Y → Type 0) (f : X → Y) (xs : List X) → All P (map f xs) → All (λ x. P (f x)) xs
of_shapes P f xs h = λ k d below. subst P (get_or-map f xs k d (f d) below) (h k (f d) (omega (arith, length-map xs f)))

-- of the segments that are lent
pub elements_have_offsets : (m : ModuleShape) (es : List HeldElement) → All (ElementValid m) (map element_shape es) → All (λ e. IsOffset e.offset) es
elements_have_offsets m es h = λ k d below. (imported_globals m, (of_shapes (ElementValid m) element_shape es h k d below).constant)

-- of one that is read by its index
pub element_has_offset : (es : List HeldElement) (i : ℕ) (e : HeldElement) → All (λ s. IsOffset s.offset) es → Some e ≡ slice_get es i → IsOffset e.offset
element_has_offset es i e all read =
    subst (λ (s : HeldElement). IsOffset s.offset) (get_or_from_slice_get es i e e (sym read)) (all i e (slice_get_within es i e (sym read)))

pub data_have_offsets : (m : ModuleShape) (ds lent : List Data) → lent ≡ ds → All (DataValid m) (map data_shape ds) → All (λ d. IsOffset d.offset) lent
data_have_offsets m ds lent same h =
    subst (All (λ (d : Data). IsOffset d.offset)) (sym same) (λ k d below. (imported_globals m, (of_shapes (DataValid m) data_shape ds h k d below).constant))
