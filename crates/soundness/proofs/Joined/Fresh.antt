-- Where nothing is refused, the layout of a judged module is typed.
use Rattle.std.proofs.Common.{◌≡◌, ℕ, zero, suc, ◌+◌, ◌*◌, ◌<◌, ◌≤◌, Bool, true, false, cond, List, [], ◌∷◌, ◌++◌, length, map, Option, Some, None, refl, sym, ap, ◌∙◌, subst, arith}
use Rattle.std.specs.Prelude.{slice_get, nat_lt, filter_map, unwrap_or, option_map, ◌||◌, All}
use Rattle.std.specs.Option.{ForSome}
use Rattle.std.proofs.lemmas.Bool.{or_parts, and_from, ltb-false, le-leb}
use Rattle.std.proofs.lemmas.Option.{slice_get-map}
use Rattle.std.proofs.lemmas.List.Elements.{All-head, All-tail}
use Rattle.wsyntax.specs.declared.types.Limits.{Limits}
use Rattle.wsyntax.specs.declared.module.Table.{Table as TableType}
use Rattle.wsyntax.specs.Modules.{ModuleShape, BodyShape, GlobalShape, ElementShape, DataShape}
use Rattle.wsyntax.specs.Validation.Context.{Context}
use Rattle.wsyntax.specs.Validation.ModuleContext.{imported_table, imported_memory, imported_global, functions_of, type_at, module_context, memories_of, tables_of, globals_of}
use Rattle.wsyntax.specs.Validation.Rules.{WithinRange, ElementValid, MemoriesLimited, ElementsValid}
use Rattle.wsyntax.specs.declared.value.Value.TheVariants.{I32 as V32}
use Rattle.wsyntax.specs.Execution.Store.{page, within, may_have}
use Rattle.wsyntax.specs.Execution.Allocation.{Segment, AllWithin, AllBytes, AllFunctions, AllElements, LayoutTyped}
use Rattle.wsyntax.specs.Execution.ConfigTyped.{ValuesTyped, AreBytes, Has, global_types}
use Rattle.wsyntax.specs.Execution.Start.{is_float, any, type_has_floats, token_has_floats, body_has_floats, has_floats, constant_in, first_value, element_segment, data_segment, first, layout_of, StartRefusal, HasImports, HasFloats, TableLimit, MemoryLimit, ElementOutside, DataOutside, table_limit, first_outside, or_else, refused_if, start_refusal}
use Rattle.soundness.specs.Instances.{SegmentsAreBytes, Judged, StartsTyped}
use Rattle.soundness.proofs.Chapter4.Stacks.{push, no_values}
use Rattle.soundness.proofs.Chapter4.Stores.{has_still, value_ok}
use Rattle.soundness.proofs.Chapter4.Allocation.{fresh_typed}
use Rattle.soundness.proofs.Joined.Floats.{integer_type}

-- What is not refused.

or_else_none : {A : Type 0} (a b : Option A) → or_else a b ≡ None → (a ≡ None) × (b ≡ None)
or_else_none None b e = (refl, e)
or_else_none (Some x) b e = absurd cc

refused_none : (b : Bool) (r : StartRefusal) → refused_if b r ≡ None → b ≡ false
refused_none true r e = absurd cc
refused_none false r e = refl

map_none : {A B : Type 0} (f : A → B) (o : Option A) → option_map f o ≡ None → o ≡ None
map_none f None e = refl
map_none f (Some x) e = absurd cc

-- what each test of the refusals says where none holds
record Unrefused (pages : ℕ) (m : ModuleShape) (bodies : List BodyShape) : Type 0 where
  no_imports : nat_lt 0 (length m.imports) ≡ false
  no_floats : has_floats m bodies ≡ false
  memory : nat_lt pages (unwrap_or (option_map (λ (x : Limits). x.min) (first m.memories)) 0) ≡ false
  data' : first_outside 0 (unwrap_or (option_map (λ (x : Limits). x.min) (first m.memories)) 0 * page) (map data_segment m.segments) ≡ None

unrefused : (pages : ℕ) (m : ModuleShape) (bodies : List BodyShape) → start_refusal pages m bodies ≡ None → Unrefused pages m bodies
unfolding start_refusal
unrefused pages m bodies e =
    let a = or_else_none (refused_if (nat_lt 0 (length m.imports)) HasImports) _ e in
    let b = or_else_none (refused_if (has_floats m bodies) HasFloats) _ a.1 in
    let c = or_else_none (refused_if (nat_lt table_limit (unwrap_or (layout_of m).table 0)) TableLimit) _ b.1 in
    let d = or_else_none (refused_if (nat_lt pages (unwrap_or (option_map (λ (x : Limits). x.min) (layout_of m).memory) 0)) MemoryLimit) _ c.1 in
    let f = or_else_none (option_map ElementOutside (first_outside 0 (unwrap_or (layout_of m).table 0) (layout_of m).elements)) _ d.1 in
    record {
      no_imports = refused_none _ HasImports a.0;
      no_floats = refused_none _ HasFloats b.0;
      memory = refused_none _ MemoryLimit d.0;
      data' = map_none DataOutside _ f.1;
    }

empty_if : {A : Type 0} (xs : List A) → nat_lt 0 (length xs) ≡ false → xs ≡ []
empty_if [] e = refl
empty_if (x ∷ xs) e = absurd (omega (arith, ltb-false 0 (length (x ∷ xs)) e))

cond_none : {A : Type 0} (b : Bool) (x : A) (o : Option A) → cond b (Some x) o ≡ None → (b ≡ false) × (o ≡ None)
cond_none true x o e = absurd cc
cond_none false x o e = (refl, e)

all_inside : (k size : ℕ) (ss : List Segment) → first_outside k size ss ≡ None → AllWithin size ss
all_inside k size [] e = tt
all_inside k size (s ∷ ss) e =
    let h = cond_none (nat_lt size (s.offset + length s.items)) k (first_outside (suc k) size ss) e in
    (ltb-false size (s.offset + length s.items) h.0, all_inside (suc k) size ss h.1)

-- The memory.

within_ok : (o : Option ℕ) (n : ℕ) → ForSome o (λ most. n ≤ most) → within o n ≡ true
within_ok None n h = refl
within_ok (Some most) n h = le-leb n most (h most refl)

are_bytes : (bs : List ℕ) → All (λ b. b < 256) bs → AreBytes bs
are_bytes [] h = tt
are_bytes (b ∷ bs) h = (All-head (λ b. b < 256) b bs h, are_bytes bs (All-tail (λ b. b < 256) b bs h))

all_bytes : (ds : List DataShape) → All (λ (d : DataShape). All (λ b. b < 256) d.bytes) ds → AllBytes (map data_segment ds)
all_bytes [] h = tt
all_bytes (d ∷ ds) h =
    (are_bytes d.bytes (All-head (λ (d : DataShape). All (λ b. b < 256) d.bytes) d ds h), all_bytes ds (All-tail (λ (d : DataShape). All (λ b. b < 256) d.bytes) d ds h))

-- what the layout says of the memory
abbrev MemoryFits : ℕ → List Segment → Limits → Type 0
MemoryFits pages ss x =
    (may_have (record { bytes = []; most = x.max; pages = pages }) x.min ≡ true) × AllWithin (x.min * page) ss × AllBytes ss

memory_ok : (pages : ℕ) (ms : List Limits) (ss : List Segment) → All (WithinRange 65536) ms → nat_lt pages (unwrap_or (option_map (λ (x : Limits). x.min) (first ms)) 0) ≡ false → first_outside 0 (unwrap_or (option_map (λ (x : Limits). x.min) (first ms)) 0 * page) ss ≡ None → AllBytes ss → Has (nat_lt 0 (length ms)) (MemoryFits pages ss) (first ms)
memory_ok pages [] ss h a b k = tt
memory_ok pages (x ∷ ms) ss h a b k =
    let r = All-head (WithinRange 65536) x ms h in
    has_still (MemoryFits pages ss) (nat_lt 0 (length (x ∷ ms))) x
    (and_from _ _ (within_ok x.max x.min r.2) (and_from _ _ (le-leb x.min 65536 r.0) (le-leb x.min pages (ltb-false pages x.min a))), all_inside 0 (x.min * page) ss b, k)

-- The table.

some_there : {A : Type 0} (xs : List A) (k : ℕ) → k < length xs → (x : A) × (slice_get xs k ≡ Some x)
some_there [] k h = absurd (omega arith)
some_there (x ∷ xs) zero h = (x, refl)
some_there (x ∷ xs) (suc k) h = some_there xs k (omega arith)

all_functions : (m : ModuleShape) (fs : List ℕ) → All (λ f. f < length (functions_of m)) fs → AllFunctions (module_context m) fs
all_functions m [] h = tt
all_functions m (f ∷ fs) h =
    let y = some_there (functions_of m) f (All-head (λ f. f < length (functions_of m)) f fs h) in
    ((type_at m.types y.0, slice_get-map (type_at m.types) (functions_of m) f ∙ ap (option_map (type_at m.types)) y.1), all_functions m fs (All-tail (λ f. f < length (functions_of m)) f fs h))

all_elements : (m : ModuleShape) (es : List ElementShape) → All (ElementValid m) es → AllElements (module_context m) (map element_segment es)
all_elements m [] h = tt
all_elements m (e ∷ es) h =
    (all_functions m e.functions (All-head (ElementValid m) e es h).functions, all_elements m es (All-tail (ElementValid m) e es h))

table_ok : (C : Context) (ts : List TableType) (ss : List Segment) → AllElements C ss → Has (nat_lt 0 (length ts)) (λ (n : ℕ). AllElements C ss) (option_map (λ (t : TableType). t.limits.min) (first ts))
table_ok C [] ss h = tt
table_ok C (t ∷ ts) ss h = has_still (λ (n : ℕ). AllElements C ss) (nat_lt 0 (length (t ∷ ts))) t.limits.min h

-- The globals.

globals_ok : (gs : List GlobalShape) → any (λ (g : GlobalShape). is_float g.global_type.val_type || any token_has_floats g.init) gs ≡ false → ValuesTyped (map first_value gs) (global_types (map (λ (g : GlobalShape). g.global_type) gs))
globals_ok [] e = no_values
globals_ok (g ∷ gs) e =
    let h = or_parts (is_float g.global_type.val_type || any token_has_floats g.init) _ e in
    let v = value_ok g.global_type.val_type (constant_in g.init) (integer_type g.global_type.val_type (or_parts (is_float g.global_type.val_type) _ h.0).0) in
    let same : v.value ≡ first_value g = sym (ap (λ o. unwrap_or o (V32 0)) v.is) in
    subst (λ w. ValuesTyped (w ∷ map first_value gs) (global_types (map (λ (g : GlobalShape). g.global_type) (g ∷ gs)))) same
    (push v.value v.of_type v.word (globals_ok gs h.1))

no_floats_in_globals : (m : ModuleShape) (bodies : List BodyShape) → has_floats m bodies ≡ false → any (λ (g : GlobalShape). is_float g.global_type.val_type || any token_has_floats g.init) m.globals ≡ false
no_floats_in_globals m bodies e =
    let a = or_parts _ (any body_has_floats bodies) e in
    let b = or_parts _ (any (λ (d : DataShape). any token_has_floats d.offset) m.segments) a.0 in
    let c = or_parts _ (any (λ (e : ElementShape). any token_has_floats e.offset) m.elements) b.0 in
    (or_parts (any type_has_floats m.types) (any (λ (g : GlobalShape). is_float g.global_type.val_type || any token_has_floats g.init) m.globals) c.0).1

-- The layout.

-- the index spaces are those that the module defines
memories_defined : (m : ModuleShape) → m.imports ≡ [] → memories_of m ≡ m.memories
memories_defined m e = ap (λ is. filter_map (λ i. imported_memory i.kind) is ++ m.memories) e

tables_defined : (m : ModuleShape) → m.imports ≡ [] → tables_of m ≡ m.tables
tables_defined m e = ap (λ is. filter_map (λ i. imported_table i.kind) is ++ m.tables) e

globals_defined : (m : ModuleShape) → m.imports ≡ [] → globals_of m ≡ map (λ (g : GlobalShape). g.global_type) m.globals
globals_defined m e =
    ap (λ is. filter_map (λ i. imported_global i.kind) is ++ map (λ (g : GlobalShape). g.global_type) m.globals) e

layout_typed : (m : ModuleShape) (bodies : List BodyShape) (pages : ℕ) → Judged m bodies → SegmentsAreBytes m → start_refusal pages m bodies ≡ None → LayoutTyped (module_context m) pages (layout_of m)
layout_typed m bodies pages h k e =
    let u = unrefused pages m bodies e in
    let none = empty_if m.imports u.no_imports in
    let limited : MemoriesLimited m = h.unbroken 5 in
    let valid : ElementsValid m = h.unbroken 12 in
    let ss = map data_segment m.segments in
    record {
      memory = subst (λ n. Has (nat_lt 0 n) (MemoryFits pages ss) (first m.memories)) (sym (ap length (memories_defined m none)))
          (memory_ok pages m.memories ss (subst (λ ms. All (WithinRange 65536) ms) (memories_defined m none) limited) u.memory u.data' (all_bytes m.segments k));
      table = subst (λ n. Has (nat_lt 0 n) (λ (n : ℕ). AllElements (module_context m) (map element_segment m.elements)) (option_map (λ (t : TableType). t.limits.min) (first m.tables))) (sym (ap length (tables_defined m none)))
          (table_ok (module_context m) m.tables (map element_segment m.elements) (all_elements m m.elements valid));
      globals = subst (λ gs. ValuesTyped (map first_value m.globals) (global_types gs)) (sym (globals_defined m none)) (globals_ok m.globals (no_floats_in_globals m bodies u.no_floats));
    }

pub starts_typed : StartsTyped
starts_typed = record {
  runnable = λ m bodies pages h e.
      let u = unrefused pages m bodies e in
      record { judged = h; no_imports = empty_if m.imports u.no_imports; no_floats = u.no_floats };
  layout = layout_typed;
  store = λ m bodies pages h k e. fresh_typed (module_context m) pages (layout_of m) (layout_typed m bodies pages h k e);
}
