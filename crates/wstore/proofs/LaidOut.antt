-- A module whose rules hold and that is not refused is laid out.
use Rattle.std.proofs.Common.{◌≡◌, ℕ, suc, ◌+◌, ◌*◌, ◌≤◌, Bool, true, false, List, [], ◌∷◌, ◌++◌, length, Option, Some, None, refl, sym, subst, cond, arith}
use Rattle.std.specs.Prelude.{nat_lt, nat_le, unwrap_or, option_map, ◌&&◌, All, filter_map}
use Rattle.std.specs.Option.{ForSome}
use Rattle.std.proofs.Math.Logic.{∥∥₁_elim}
use Rattle.std.proofs.Props.{props}
use Rattle.std.proofs.lemmas.Bool.{ltb-false, le-leb}
use Rattle.std.proofs.lemmas.List.Elements.{All-head}
use Rattle.wsyntax.specs.declared.types.Limits.{Limits}
use Rattle.wsyntax.specs.Modules.{ModuleShape, BodyShape}
use Rattle.wsyntax.specs.Validation.ModuleContext.{imported_memory}
use Rattle.wsyntax.specs.Validation.Rules.{WithinRange, NoneBroken}
use Rattle.wsyntax.specs.Execution.Store.{page, within, may_have}
use Rattle.wsyntax.specs.Execution.Allocation.{Segment, AllWithin}
use Rattle.wsyntax.specs.Execution.Start.{StartRefusal, HasImports, HasFloats, TableLimit, MemoryLimit, ElementOutside, DataOutside, has_floats, first, layout_of, table_limit, first_outside, or_else, refused_if, start_refusal}
use Rattle.memory.specs.Buffered.{zeros}
use Rattle.accepted_module.specs.Sizes.{table_size, memory_pages}
use Rattle.wstore.specs.LaidOut.{IsLaidOut}

-- What is not refused.

or_else_none : {A : Type 0} (a b : Option A) → or_else a b ≡ None → (a ≡ None) × (b ≡ None)
or_else_none None b e = (refl, e)
or_else_none (Some x) b e = absurd cc

refused_none : (b : Bool) (r : StartRefusal) → refused_if b r ≡ None → b ≡ false
refused_none true r e = absurd cc
refused_none false r e = refl

map_none : {A B : Type 0} (f : A → B) (o : Option A) → option_map f o ≡ None → o ≡ None
map_none f None e = refl
map_none f (Some x) e = absurd cc

record Unrefused (pages : ℕ) (m : ModuleShape) : Type 0 where
  no_imports : nat_lt 0 (length m.imports) ≡ false
  memory : nat_lt pages (memory_pages m) ≡ false
  elements : first_outside 0 (table_size m) (layout_of m).elements ≡ None
  segments : first_outside 0 (memory_pages m * page) (layout_of m).data' ≡ None

unrefused : (pages : ℕ) (m : ModuleShape) (bodies : List BodyShape) → start_refusal pages m bodies ≡ None → Unrefused pages m
unfolding start_refusal
unrefused pages m bodies e =
    let a = or_else_none (refused_if (nat_lt 0 (length m.imports)) HasImports) _ e in
    let b = or_else_none (refused_if (has_floats m bodies) HasFloats) _ a.1 in
    let c = or_else_none (refused_if (nat_lt table_limit (table_size m)) TableLimit) _ b.1 in
    let d = or_else_none (refused_if (nat_lt pages (memory_pages m)) MemoryLimit) _ c.1 in
    let f = or_else_none (option_map ElementOutside (first_outside 0 (table_size m) (layout_of m).elements)) _ d.1 in
    record {
      no_imports = refused_none _ HasImports a.0;
      memory = refused_none _ MemoryLimit d.0;
      elements = map_none ElementOutside _ f.0;
      segments = map_none DataOutside _ f.1;
    }

-- Where none lies outside, all are within.

within_if : (b : Bool) (k : ℕ) (o : Option ℕ) → cond b (Some k) o ≡ None → (b ≡ false) × (o ≡ None)
within_if true k o e = absurd cc
within_if false k o e = (refl, e)

all_within : (k n : ℕ) (all : List Segment) → first_outside k n all ≡ None → AllWithin n all
all_within k n [] e = tt
all_within k n (s ∷ ss) e =
    let h = within_if (nat_lt n (s.offset + length s.items)) k (first_outside (suc k) n ss) e in
    (ltb-false n (s.offset + length s.items) h.0, all_within (suc k) n ss h.1)

-- The memory.

within_most : (most : Option ℕ) (n : ℕ) → ForSome most (λ x. n ≤ x) → within most n ≡ true
within_most None n h = refl
within_most (Some x) n h = le-leb n x (h x refl)

both : (a b c : Bool) → a ≡ true → b ≡ true → c ≡ true → (a && (b && c)) ≡ true
both a b c p q r = cc

fits : (pages : ℕ) (memories : List Limits) → All (WithinRange 65536) memories → unwrap_or (option_map (λ (l : Limits). l.min) (first memories)) 0 ≤ pages
    → ForSome (first memories) (λ (l : Limits). may_have (zeros l.min l.max pages) l.min ≡ true)
fits pages [] rules few = λ l is. absurd cc
fits pages (l ∷ ls) rules few =
    let r = All-head (WithinRange 65536) l ls rules in
    let here : may_have (zeros l.min l.max pages) l.min ≡ true = both (within l.max l.min) (nat_le l.min 65536) (nat_le l.min pages) (within_most l.max l.min r.2) (le-leb l.min 65536 r.0) (le-leb l.min pages few) in
    λ x is. let same : l ≡ x = cc in subst (λ (y : Limits). may_have (zeros y.min y.max pages) y.min ≡ true) same here

nothing : {A : Type 0} (xs : List A) → nat_lt 0 (length xs) ≡ false → xs ≡ []
nothing [] e = refl
nothing (x ∷ xs) e = absurd (omega (arith, ltb-false 0 (length (x ∷ xs)) e))

-- The whole.

memory_fits : (pages : ℕ) (m : ModuleShape) → NoneBroken m → m.imports ≡ [] → memory_pages m ≤ pages → ForSome (layout_of m).memory (λ (l : Limits). may_have (zeros l.min l.max pages) l.min ≡ true)
memory_fits pages m rules none few =
    let ranges : All (WithinRange 65536) m.memories = subst (λ i. All (WithinRange 65536) (filter_map (λ x. imported_memory x.kind) i ++ m.memories)) none (rules 5) in
    fits pages m.memories ranges few

pub laid_out : (pages : ℕ) (m : ModuleShape) (bodies : List BodyShape) → ∥ NoneBroken m ∥₁ → None ≡ start_refusal pages m bodies → pages ≤ 1024 → IsLaidOut pages m
laid_out pages m bodies rules e limit =
    let u = unrefused pages m bodies (sym e) in
    let none : m.imports ≡ [] = nothing m.imports u.no_imports in
    let few : memory_pages m ≤ pages = ltb-false pages (memory_pages m) u.memory in
    record {
      elements = all_within 0 (table_size m) (layout_of m).elements u.elements;
      segments = all_within 0 (memory_pages m * page) (layout_of m).data' u.segments;
      may_have_min = λ l is. ∥∥₁_elim rules (search props) (λ r. memory_fits pages m r none few l is);
      minimum = few;
      limit = limit;
    }
