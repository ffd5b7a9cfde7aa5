-- How many function types, imports, bodies and segments a module has at most, and how long its bodies are: each takes a byte at least.
-- It goes up the grammar: single items, vectors (`vector_fills`, by induction), the kinds of section, and all sections (`shell_holds`).
-- Smallness.antt, Firsts.antt, Parts.antt and Rules.antt cite the bounds at its end.
use Rattle.std.proofs.Common.{◌≡◌, ℕ, zero, suc, ◌+◌, ◌≤◌, List, [], ◌∷◌, ◌++◌, length, Option, Some, None, ap, subst, ◌∙◌, arith}
use Rattle.std.specs.Prelude.{slice_get, filter_map}
use Rattle.std.specs.List.{cons_option}
use Rattle.std.proofs.lemmas.List.{length-append}
use Rattle.wnum.specs.Number.{SpellsUnsigned}
use Rattle.wsyntax.specs.Modules.{ModuleShape}
use Rattle.wsyntax.specs.Binary.Production.{Production, SpellsAll, byte, exactly}
use Rattle.wsyntax.specs.Binary.Types.{func_type, limits, table_type}
use Rattle.wsyntax.specs.Binary.Values.{u32, vector, blob, name}
use Rattle.wsyntax.specs.Binary.Sections.{an_import, global, an_export, element, data_segment, SectionShape, Custom, Types, Imports, Functions, Tables, Memories, Globals, Exports, Start, Elements, Bodies, Segments, filling, contents_of, section, SectionKind, CustomSection, TypeSection, ImportSection, FunctionSection, TableSection, MemorySection, GlobalSection, ExportSection, StartSection, ElementSection, CodeSection, DataSection}
use Rattle.wsyntax.specs.Binary.Shell.{Shell, with_section, put_all, empty_module, module_limit}
use Rattle.wsyntax.specs.Validation.ModuleContext.{imported_functions}
use Rattle.wsyntax.specs.Validation.Verdict.{IsModule}

some_is : {A : Type 0} (a c : A) → Some a ≡ Some c → a ≡ c
some_is a c e = cc

-- what it spells takes a byte at least
abbrev Fills : {A : Type 0} → Production A → Type 0
Fills {A} p = (bytes : List ℕ) (a : A) → p.spells bytes a → 1 ≤ length bytes

number_fills : (n : ℕ) (bytes : List ℕ) (v : ℕ) → SpellsUnsigned n bytes v → 1 ≤ length bytes
number_fills n [] v s = absurd s.number
number_fills n (b ∷ bs) v s = omega arith

front_fills : {A : Type 0} (p : Production A) → Fills p → (bytes x y : List ℕ) (a : A) → bytes ≡ x ++ y → p.spells x a → 1 ≤ length bytes
front_fills p fills bytes x y a is s =
    let h : 1 ≤ length x = fills x a s in
    let e : length bytes ≡ length x + length y = ap length is ∙ length-append x y in
    omega arith

blob_fills : Fills blob
blob_fills bytes a s = front_fills u32 (number_fills 32) bytes s.0 s.1 s.2 s.3 s.4

name_fills : Fills name
unfolding name
name_fills bytes a s = front_fills blob blob_fills bytes s.0 s.1 s.2 s.3 s.4

byte_fills : Fills byte
byte_fills bytes b s = omega (arith, ap length s)

exactly_fills : (b : ℕ) → Fills (exactly b)
exactly_fills b bytes a s = front_fills byte byte_fills bytes s.0 s.1 s.2 s.3 s.4

func_type_fills : Fills func_type
unfolding func_type
func_type_fills bytes a s = front_fills (exactly 0x60) (exactly_fills 0x60) bytes s.0 s.1 s.2 s.3 s.4

an_import_fills : Fills an_import
unfolding an_import
an_import_fills bytes a s = front_fills name name_fills bytes s.0 s.1 s.2 s.3 s.4

element_fills : Fills element
unfolding element
element_fills bytes a s = front_fills u32 (number_fills 32) bytes s.0 s.1 s.2 s.3 s.4

data_segment_fills : Fills data_segment
unfolding data_segment
data_segment_fills bytes a s = front_fills u32 (number_fills 32) bytes s.0 s.1 s.2 s.3 s.4

all_fill : {A : Type 0} (p : Production A) → Fills p → (bytes : List ℕ) (values : List A) → SpellsAll p.spells bytes values → length values ≤ length bytes
all_fill p fills bytes [] s = omega arith
all_fill p fills bytes (a ∷ rest) s =
    let h : 1 ≤ length s.0 = fills s.0 a s.3 in
    let t : length rest ≤ length s.1 = all_fill p fills s.1 rest s.4 in
    let e : length bytes ≡ length s.0 + length s.1 = ap length s.2 ∙ length-append s.0 s.1 in
    omega arith

vector_fills : {A : Type 0} (p : Production A) → Fills p → (bytes : List ℕ) (values : List A) → (vector p).spells bytes values → length values ≤ length bytes
vector_fills p fills bytes values s =
    let t : length values ≤ length s.1 = all_fill p fills s.1 values s.5.1 in
    let e : length bytes ≡ length s.0 + length s.1 = ap length s.3 ∙ length-append s.0 s.1 in
    omega arith

-- bodies by their bytes, and one more each
abbrev weight : List (List ℕ) → ℕ
weight [] = 0
weight (b ∷ bs) = length b + 1 + weight bs

blob_weighs : (bytes s : List ℕ) → blob.spells bytes s → length s + 1 ≤ length bytes
blob_weighs bytes s t =
    let count : 1 ≤ length t.0 = number_fills 32 t.0 t.2 t.4 in
    let same : length t.1 ≡ length s = ap length t.5.0 in
    let e : length bytes ≡ length t.0 + length t.1 = ap length t.3 ∙ length-append t.0 t.1 in
    omega arith

blobs_weigh : (bytes : List ℕ) (values : List (List ℕ)) → SpellsAll blob.spells bytes values → weight values ≤ length bytes
blobs_weigh bytes [] s = omega arith
blobs_weigh bytes (a ∷ rest) s =
    let h : length a + 1 ≤ length s.0 = blob_weighs s.0 a s.3 in
    let t : weight rest ≤ length s.1 = blobs_weigh s.1 rest s.4 in
    let e : length bytes ≡ length s.0 + length s.1 = ap length s.2 ∙ length-append s.0 s.1 in
    omega arith

bodies_weigh : (bytes : List ℕ) (values : List (List ℕ)) → (vector blob).spells bytes values → weight values ≤ length bytes
bodies_weigh bytes values s =
    let t : weight values ≤ length s.1 = blobs_weigh s.1 values s.5.1 in
    let e : length bytes ≡ length s.0 + length s.1 = ap length s.3 ∙ length-append s.0 s.1 in
    omega arith

-- the function types, the imports, the bodies and the segments of a section
abbrev held : SectionShape → ℕ
held Custom = 0
held (Types v) = length v
held (Imports v) = length v
held (Functions v) = 0
held (Tables v) = 0
held (Memories v) = 0
held (Globals v) = 0
held (Exports v) = 0
held (Start x) = 0
held (Elements v) = length v
held (Bodies v) = weight v
held (Segments v) = length v

filling_holds : {A : Type 0} (s : List ℕ) (p : Production A) (made : A → SectionShape) → ((v : A) → p.spells s v → held (made v) ≤ length s) → (bytes : List ℕ) (shape : SectionShape) → (filling s p made).spells bytes shape → held shape ≤ length s
filling_holds s p made h bytes shape t = subst (λ (x : SectionShape). held x ≤ length s) (some_is (made t.2) shape t.5.1) (h t.2 t.4.1)

contents_hold : (k : SectionKind) (s bytes : List ℕ) (shape : SectionShape) → (contents_of k s).spells bytes shape → held shape ≤ length s
contents_hold CustomSection s bytes shape t = subst (λ (x : SectionShape). held x ≤ length s) (some_is Custom shape t.5.1) (omega arith)
contents_hold TypeSection s bytes shape t = filling_holds s (vector func_type) Types (λ v h. vector_fills func_type func_type_fills s v h) bytes shape t
contents_hold ImportSection s bytes shape t = filling_holds s (vector an_import) Imports (λ v h. vector_fills an_import an_import_fills s v h) bytes shape t
contents_hold FunctionSection s bytes shape t = filling_holds s (vector u32) Functions (λ v h. omega arith) bytes shape t
contents_hold TableSection s bytes shape t = filling_holds s (vector table_type) Tables (λ v h. omega arith) bytes shape t
contents_hold MemorySection s bytes shape t = filling_holds s (vector limits) Memories (λ v h. omega arith) bytes shape t
contents_hold GlobalSection s bytes shape t = filling_holds s (vector global) Globals (λ v h. omega arith) bytes shape t
contents_hold ExportSection s bytes shape t = filling_holds s (vector an_export) Exports (λ v h. omega arith) bytes shape t
contents_hold StartSection s bytes shape t = filling_holds s u32 Start (λ v h. omega arith) bytes shape t
contents_hold ElementSection s bytes shape t = filling_holds s (vector element) Elements (λ v h. vector_fills element element_fills s v h) bytes shape t
contents_hold CodeSection s bytes shape t = filling_holds s (vector blob) Bodies (λ v h. bodies_weigh s v h) bytes shape t
contents_hold DataSection s bytes shape t = filling_holds s (vector data_segment) Segments (λ v h. vector_fills data_segment data_segment_fills s v h) bytes shape t

-- a blob has fewer bytes than what spells it
blob_within : (bytes s : List ℕ) → blob.spells bytes s → length s ≤ length bytes
blob_within bytes s t =
    let same : length t.1 ≡ length s = ap length t.5.0 in
    let e : length bytes ≡ length t.0 + length t.1 = ap length t.3 ∙ length-append t.0 t.1 in
    omega arith

section_holds : (bytes : List ℕ) (shape : SectionShape) → section.spells bytes shape → held shape ≤ length bytes
unfolding section
section_holds bytes shape t =
    let u = t.5 in
    let w = u.5 in
    let inner : held shape ≤ length u.2 = contents_hold w.2 u.2 w.1 shape w.5 in
    let within : length u.2 ≤ length u.0 = blob_within u.0 u.2 u.4 in
    let e : length bytes ≡ length t.0 + length t.1 = ap length t.3 ∙ length-append t.0 t.1 in
    let f : length t.1 ≡ length u.0 + length u.1 = ap length u.3 ∙ length-append u.0 u.1 in
    omega arith

-- the function types, the imports, the bodies and the segments of a module
abbrev total : ModuleShape → ℕ
total m = length m.types + length m.imports + weight m.bodies + length m.elements + length m.segments

put_holds : (m : ModuleShape) (s : SectionShape) → total (with_section m s) ≤ total m + held s
put_holds m Custom = omega arith
put_holds m (Types v) = omega arith
put_holds m (Imports v) = omega arith
put_holds m (Functions v) = omega arith
put_holds m (Tables v) = omega arith
put_holds m (Memories v) = omega arith
put_holds m (Globals v) = omega arith
put_holds m (Exports v) = omega arith
put_holds m (Start x) = omega arith
put_holds m (Elements v) = omega arith
put_holds m (Bodies v) = omega arith
put_holds m (Segments v) = omega arith

all_hold : (bytes : List ℕ) (sections : List SectionShape) (m : ModuleShape) → SpellsAll section.spells bytes sections → total (put_all m sections) ≤ total m + length bytes
all_hold bytes [] m t = omega arith
all_hold bytes (s ∷ rest) m t =
    let here : held s ≤ length t.0 = section_holds t.0 s t.3 in
    let one : total (with_section m s) ≤ total m + held s = put_holds m s in
    let others : total (put_all (with_section m s) rest) ≤ total (with_section m s) + length t.1 = all_hold t.1 rest (with_section m s) t.4 in
    let e : length bytes ≡ length t.0 + length t.1 = ap length t.2 ∙ length-append t.0 t.1 in
    omega arith

shell_holds : (bytes : List ℕ) (m : ModuleShape) → Shell bytes m → total m ≤ length bytes
shell_holds bytes m s =
    let inner : total (put_all empty_module s.sections) ≤ total empty_module + length s.tail = all_hold s.tail s.sections empty_module s.spelled in
    let same : total (put_all empty_module s.sections) ≡ total m = ap total s.says in
    let none : total empty_module ≡ 0 = omega arith in
    let e : length bytes ≡ length s.tail + 8 = ap length s.begins ∙ omega arith in
    omega arith

cons_holds : {A : Type 0} (o : Option A) (xs : List A) → length (cons_option o xs) ≤ length xs + 1
cons_holds None xs = omega arith
cons_holds (Some x) xs = omega arith

filtered : {A B : Type 0} (f : A → Option B) (xs : List A) → length (filter_map f xs) ≤ length xs
filtered f [] = omega arith
filtered f (x ∷ xs) =
    let here : length (cons_option (f x) (filter_map f xs)) ≤ length (filter_map f xs) + 1 = cons_holds (f x) (filter_map f xs) in
    let others : length (filter_map f xs) ≤ length xs = filtered f xs in
    omega arith

weight_counts : (bodies : List (List ℕ)) → length bodies ≤ weight bodies
weight_counts [] = omega arith
weight_counts (b ∷ bs) =
    let others : length bs ≤ weight bs = weight_counts bs in
    omega arith

weight_of : (bodies : List (List ℕ)) (k : ℕ) (b : List ℕ) → slice_get bodies k ≡ Some b → length b ≤ weight bodies
weight_of [] k b e = absurd cc
weight_of (a ∷ more) zero b e =
    let same : a ≡ b = some_is a b e in
    omega (arith, ap length same)
weight_of (a ∷ more) (suc k) b e =
    let others : length b ≤ weight more = weight_of more k b e in
    omega arith

-- the imported functions and the bodies of a module
pub functions_within : (bytes : List ℕ) (m : ModuleShape) → Shell bytes m → length (imported_functions m) + length m.bodies ≤ length bytes
functions_within bytes m s =
    let all : total m ≤ length bytes = shell_holds bytes m s in
    let imports : length (imported_functions m) ≤ length m.imports = filtered _ m.imports in
    let bodies : length m.bodies ≤ weight m.bodies = weight_counts m.bodies in
    omega arith

-- the same of a module within the limit
pub functions_fit : (bytes : List ℕ) (m : ModuleShape) → IsModule bytes m → length (imported_functions m) + length m.bodies ≤ module_limit
functions_fit bytes m s =
    let all : length (imported_functions m) + length m.bodies ≤ length bytes = functions_within bytes m s.shell in
    let small : length bytes ≤ module_limit = s.small in
    omega arith

-- its function types
pub types_fit : (bytes : List ℕ) (m : ModuleShape) → IsModule bytes m → length m.types ≤ module_limit
types_fit bytes m s =
    let all : total m ≤ length bytes = shell_holds bytes m s.shell in
    let small : length bytes ≤ module_limit = s.small in
    omega arith

-- its segments
pub segments_fit : (bytes : List ℕ) (m : ModuleShape) → IsModule bytes m → length m.elements + length m.segments ≤ module_limit
segments_fit bytes m s =
    let all : total m ≤ length bytes = shell_holds bytes m s.shell in
    let small : length bytes ≤ module_limit = s.small in
    omega arith

-- and the bytes of each body
pub body_fits : (bytes : List ℕ) (m : ModuleShape) (k : ℕ) (b : List ℕ) → IsModule bytes m → slice_get m.bodies k ≡ Some b → length b ≤ module_limit
body_fits bytes m k b s e =
    let all : total m ≤ length bytes = shell_holds bytes m s.shell in
    let one : length b ≤ weight m.bodies = weight_of m.bodies k b e in
    let small : length bytes ≤ module_limit = s.small in
    omega arith
