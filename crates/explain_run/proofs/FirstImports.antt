-- Where imports refuse the start, there is a first.
use Rattle.std.proofs.Common.{◌≡◌, ℕ, ◌<◌, Bool, true, false, List, [], ◌∷◌, ◌*◌, length, map, Option, Some, None, refl, sym, arith, Bor}
use Rattle.std.specs.Prelude.{nat_lt, option_map, slice_get}
use Rattle.std.proofs.lemmas.Bool.{ltb-true}
use Rattle.wsyntax.specs.declared.module.Import.{Import}
use Rattle.wsyntax.specs.Modules.{ModuleShape, BodyShape, import_shape}
use Rattle.wsyntax.specs.Execution.Store.{page}
use Rattle.wsyntax.specs.Execution.Start.{HasImports, HasFloats, TableLimit, MemoryLimit, ElementOutside, DataOutside, has_floats, layout_of, table_limit, first_outside, or_else, refused_if, start_refusal}
use Rattle.accepted_module.specs.Sizes.{table_size, memory_pages}

pub none_of : {A : Type 0} (o : Option A) → ((x : A) → o ≡ Some x → ⊥) → None ≡ o
none_of None never = refl
none_of (Some x) never = absurd (never x refl)

-- only the first question answers so
asked : (imports floats table memory : Bool) (element segment : Option ℕ)
    → or_else (refused_if imports HasImports) (or_else (refused_if floats HasFloats) (or_else (refused_if table TableLimit) (or_else (refused_if memory MemoryLimit)
    (or_else (option_map ElementOutside element) (option_map DataOutside segment))))) ≡ Some HasImports → imports ≡ true
asked true floats table memory element segment e = refl
asked false true table memory element segment e = absurd cc
asked false false true memory element segment e = absurd cc
asked false false false true element segment e = absurd cc
asked false false false false (Some k) segment e = absurd cc
asked false false false false None (Some k) e = absurd cc
asked false false false false None None e = absurd cc

there_are : (pages : ℕ) (m : ModuleShape) (bodies : List BodyShape) → start_refusal pages m bodies ≡ Some HasImports → 0 < length m.imports
unfolding start_refusal
there_are pages m bodies e = ltb-true 0 (length m.imports)
    (asked (nat_lt 0 (length m.imports)) (has_floats m bodies) (nat_lt table_limit (table_size m)) (nat_lt pages (memory_pages m))
    (first_outside 0 (table_size m) (layout_of m).elements) (first_outside 0 (memory_pages m * page) (layout_of m).data') e)

first_there : (is slice : List Import) (o : Option (Bor Import)) → slice ≡ is → option_map (λ (x : Bor Import). x.now) o ≡ slice_get slice 0 → o ≡ None → 0 < length (map import_shape is) → ⊥
first_there [] slice o same e none some = omega (arith, some)
first_there (y ∷ ys) [] o same e none some = cc
first_there (y ∷ ys) (x ∷ xs) o same e none some = cc

-- the first import of a module that is refused for its imports
pub never_none : (pages : ℕ) (m : ModuleShape) (bodies : List BodyShape) (is slice : List Import) (o : Option (Bor Import)) → m.imports ≡ map import_shape is → slice ≡ is
    → option_map (λ (x : Bor Import). x.now) o ≡ slice_get slice 0 → o ≡ None → start_refusal pages m bodies ≡ Some HasImports → ⊥
never_none pages m bodies is slice o shapes same e none refused =
    first_there is slice o same e none (rw (sym shapes) (there_are pages m bodies refused))
