-- Each answer of the refusals is the definition's.
use Rattle.std.proofs.Common.{◌≡◌, ℕ, ◌*◌, ◌<◌, ◌≤◌, Bool, true, false, List, length, Option, Some, None, refl, ap, ◌∙◌, arith}
use Rattle.std.specs.Prelude.{nat_lt, option_map}
use Rattle.std.proofs.lemmas.Bool.{lt-ltb, le-ltb}
use Rattle.wsyntax.specs.Modules.{ModuleShape, BodyShape}
use Rattle.wsyntax.specs.Execution.Store.{page}
use Rattle.wsyntax.specs.Execution.Start.{StartRefusal, HasImports, HasFloats, TableLimit, MemoryLimit, ElementOutside, DataOutside, has_floats, layout_of, table_limit, first_outside, or_else, refused_if, start_refusal}
use Rattle.accepted_module.specs.Sizes.{table_size, memory_pages}

-- One question.

refused : (b : Bool) (r : StartRefusal) (other : Option StartRefusal) → b ≡ true → Some r ≡ or_else (refused_if b r) other
refused true r other e = refl
refused false r other e = absurd cc

passed : (b : Bool) (r : StartRefusal) (other : Option StartRefusal) → b ≡ false → other ≡ or_else (refused_if b r) other
passed true r other e = absurd cc
passed false r other e = refl

found : (f : ℕ → StartRefusal) (k : ℕ) (o : Option ℕ) (other : Option StartRefusal) → Some k ≡ o → Some (f k) ≡ or_else (option_map f o) other
found f k o other e = ap (λ x. or_else (option_map f x) other) e

not_found : (f : ℕ → StartRefusal) (o : Option ℕ) (other : Option StartRefusal) → None ≡ o → other ≡ or_else (option_map f o) other
not_found f o other e = ap (λ x. or_else (option_map f x) other) e

pub none_of : {A : Type 0} (o : Option A) → ((x : A) → o ≡ Some x → ⊥) → None ≡ o
none_of None never = refl
none_of (Some x) never = absurd (never x refl)

-- What has passed before.

-- nothing is imported, no float is mentioned, and the limits hold
pub record Passes (pages : ℕ) (m : ModuleShape) (bodies : List BodyShape) : Type 0 where
  pub imports : length m.imports ≡ 0
  pub floats : has_floats m bodies ≡ false
  pub table : table_size m ≤ table_limit
  pub memory : memory_pages m ≤ pages

-- The answers.

pub at_imports : (pages : ℕ) (m : ModuleShape) (bodies : List BodyShape) → 0 < length m.imports → Some HasImports ≡ start_refusal pages m bodies
unfolding start_refusal
at_imports pages m bodies h = refused (nat_lt 0 (length m.imports)) HasImports _ (lt-ltb 0 (length m.imports) h)

pub at_floats : (pages : ℕ) (m : ModuleShape) (bodies : List BodyShape) → length m.imports ≡ 0 → has_floats m bodies ≡ true → Some HasFloats ≡ start_refusal pages m bodies
unfolding start_refusal
at_floats pages m bodies none h =
    refused (has_floats m bodies) HasFloats _ h
    ∙ passed (nat_lt 0 (length m.imports)) HasImports _ (le-ltb 0 (length m.imports) (omega arith))

pub at_table : (pages : ℕ) (m : ModuleShape) (bodies : List BodyShape) → length m.imports ≡ 0 → has_floats m bodies ≡ false → table_limit < table_size m → Some TableLimit ≡ start_refusal pages m bodies
unfolding start_refusal
at_table pages m bodies none floats h =
    refused (nat_lt table_limit (table_size m)) TableLimit _ (lt-ltb table_limit (table_size m) h)
    ∙ passed (has_floats m bodies) HasFloats _ floats
    ∙ passed (nat_lt 0 (length m.imports)) HasImports _ (le-ltb 0 (length m.imports) (omega arith))

pub at_memory : (pages : ℕ) (m : ModuleShape) (bodies : List BodyShape) → length m.imports ≡ 0 → has_floats m bodies ≡ false → table_size m ≤ table_limit → pages < memory_pages m → Some MemoryLimit ≡ start_refusal pages m bodies
unfolding start_refusal
at_memory pages m bodies none floats table h =
    refused (nat_lt pages (memory_pages m)) MemoryLimit _ (lt-ltb pages (memory_pages m) h)
    ∙ passed (nat_lt table_limit (table_size m)) TableLimit _ (le-ltb table_limit (table_size m) table)
    ∙ passed (has_floats m bodies) HasFloats _ floats
    ∙ passed (nat_lt 0 (length m.imports)) HasImports _ (le-ltb 0 (length m.imports) (omega arith))

-- what is left once these have passed
left : (pages : ℕ) (m : ModuleShape) (bodies : List BodyShape) → Passes pages m bodies
    → or_else (option_map ElementOutside (first_outside 0 (table_size m) (layout_of m).elements)) (option_map DataOutside (first_outside 0 (memory_pages m * page) (layout_of m).data'))
    ≡ start_refusal pages m bodies
unfolding start_refusal
left pages m bodies p =
    passed (nat_lt pages (memory_pages m)) MemoryLimit _ (le-ltb pages (memory_pages m) p.memory)
    ∙ passed (nat_lt table_limit (table_size m)) TableLimit _ (le-ltb table_limit (table_size m) p.table)
    ∙ passed (has_floats m bodies) HasFloats _ p.floats
    ∙ passed (nat_lt 0 (length m.imports)) HasImports _ (le-ltb 0 (length m.imports) (omega (arith, p.imports)))

pub at_element : (pages : ℕ) (m : ModuleShape) (bodies : List BodyShape) (k : ℕ) → Passes pages m bodies → Some k ≡ first_outside 0 (table_size m) (layout_of m).elements → Some (ElementOutside k) ≡ start_refusal pages m bodies
at_element pages m bodies k p e = found ElementOutside k (first_outside 0 (table_size m) (layout_of m).elements) _ e ∙ left pages m bodies p

pub at_data : (pages : ℕ) (m : ModuleShape) (bodies : List BodyShape) (k : ℕ) → Passes pages m bodies → None ≡ first_outside 0 (table_size m) (layout_of m).elements
    → Some k ≡ first_outside 0 (memory_pages m * page) (layout_of m).data' → Some (DataOutside k) ≡ start_refusal pages m bodies
at_data pages m bodies k p none e =
    ap (option_map DataOutside) e ∙ not_found ElementOutside (first_outside 0 (table_size m) (layout_of m).elements) _ none ∙ left pages m bodies p

pub at_none : (pages : ℕ) (m : ModuleShape) (bodies : List BodyShape) → Passes pages m bodies → None ≡ first_outside 0 (table_size m) (layout_of m).elements
    → None ≡ first_outside 0 (memory_pages m * page) (layout_of m).data' → None ≡ start_refusal pages m bodies
at_none pages m bodies p none e =
    ap (option_map DataOutside) e ∙ not_found ElementOutside (first_outside 0 (table_size m) (layout_of m).elements) _ none ∙ left pages m bodies p
