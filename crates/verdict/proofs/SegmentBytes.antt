-- What the data segments of a module hold are bytes, where bytes spell it.
use Rattle.std.proofs.Common.{◌≡◌, ℕ, ◌+◌, ◌<◌, List, [], ◌∷◌, ◌++◌, length, get_or, Some, subst, arith}
use Rattle.std.specs.Prelude.{All}
use Rattle.std.proofs.lemmas.List.{length-append, get_or_append_left, get_or-append-add, get_or_default}
use Rattle.std.proofs.lemmas.List.Elements.{All-cons}
use Rattle.wsyntax.specs.Modules.{ModuleShape, DataShape}
use Rattle.wsyntax.specs.Binary.Production.{Production, SpellsAll}
use Rattle.wsyntax.specs.Binary.Types.{func_type, limits, table_type}
use Rattle.wsyntax.specs.Binary.Values.{u32, vector, blob}
use Rattle.wsyntax.specs.Binary.Sections.{an_import, global, an_export, element, data_segment, SectionShape, Custom, Types, Imports, Functions, Tables, Memories, Globals, Exports, Start, Elements, Bodies, Segments, filling, contents_of, section, SectionKind, CustomSection, TypeSection, ImportSection, FunctionSection, TableSection, MemorySection, GlobalSection, ExportSection, StartSection, ElementSection, CodeSection, DataSection}
use Rattle.wsyntax.specs.Binary.Shell.{Shell, header, with_section, put_all, empty_module}
use Rattle.soundness.specs.Instances.{SegmentsAreBytes}

some_is : {A : Type 0} (a c : A) → Some a ≡ Some c → a ≡ c
some_is a c e = cc

abbrev AreBytes : List ℕ → Type 0
AreBytes xs = All (λ b. b < 256) xs

-- ---- parts of bytes

front : (bytes x y : List ℕ) → bytes ≡ x ++ y → AreBytes bytes → AreBytes x
front bytes x y is h k d lt =
    let both : AreBytes (x ++ y) = subst AreBytes is h in
    let within : k < length (x ++ y) = omega (arith, length-append x y) in
    subst (λ (n : ℕ). n < 256) (get_or_append_left x y d k lt) (both k d within)

back : (bytes x y : List ℕ) → bytes ≡ x ++ y → AreBytes bytes → AreBytes y
back bytes x y is h k d lt =
    let both : AreBytes (x ++ y) = subst AreBytes is h in
    let within : length x + k < length (x ++ y) = omega (arith, length-append x y) in
    subst (λ (n : ℕ). n < 256) (get_or-append-add x y k d) (both (length x + k) d within)

blob_bytes : (bytes s : List ℕ) → blob.spells bytes s → AreBytes bytes → AreBytes s
blob_bytes bytes s t h = subst AreBytes t.5.0 (back bytes t.0 t.1 t.3 h)

-- ---- segments

abbrev HoldBytes : List DataShape → Type 0
HoldBytes ds = All (λ d. AreBytes d.bytes) ds

segment_bytes : (bytes : List ℕ) (d : DataShape) → data_segment.spells bytes d → AreBytes bytes → AreBytes d.bytes
unfolding data_segment
segment_bytes bytes d s h =
    let u = s.5 in
    let w = u.5 in
    let rest : AreBytes s.1 = back bytes s.0 s.1 s.3 h in
    let more : AreBytes u.1 = back s.1 u.0 u.1 u.3 rest in
    let held : AreBytes w.0 = front u.1 w.0 w.1 w.3 more in
    subst (λ (x : DataShape). AreBytes x.bytes) (some_is record { memory = s.2; offset = u.2; bytes = w.2 } d w.5.1) (blob_bytes w.0 w.2 w.4 held)

segments_bytes : (bytes : List ℕ) (ds : List DataShape) → SpellsAll data_segment.spells bytes ds → AreBytes bytes → HoldBytes ds
segments_bytes bytes [] s h = λ k d lt. absurd (omega arith)
segments_bytes bytes (d ∷ ds) s h =
    All-cons (λ (d : DataShape). AreBytes d.bytes) d ds
    (segment_bytes s.0 d s.3 (front bytes s.0 s.1 s.2 h))
    (segments_bytes s.1 ds s.4 (back bytes s.0 s.1 s.2 h))

-- ---- sections

abbrev Held : SectionShape → Type 0
Held Custom = Unit {0}
Held (Types v) = Unit {0}
Held (Imports v) = Unit {0}
Held (Functions v) = Unit {0}
Held (Tables v) = Unit {0}
Held (Memories v) = Unit {0}
Held (Globals v) = Unit {0}
Held (Exports v) = Unit {0}
Held (Start x) = Unit {0}
Held (Elements v) = Unit {0}
Held (Bodies v) = Unit {0}
Held (Segments v) = HoldBytes v

filling_held : {A : Type 0} (s : List ℕ) (p : Production A) (made : A → SectionShape) → ((v : A) → p.spells s v → Held (made v)) → (bytes : List ℕ) (shape : SectionShape) → (filling s p made).spells bytes shape → Held shape
filling_held s p made h bytes shape t = subst Held (some_is (made t.2) shape t.5.1) (h t.2 t.4.1)

contents_held : (k : SectionKind) (s bytes : List ℕ) (shape : SectionShape) → (contents_of k s).spells bytes shape → AreBytes s → Held shape
contents_held CustomSection s bytes shape t are = subst Held (some_is Custom shape t.5.1) tt
contents_held TypeSection s bytes shape t are = filling_held s (vector func_type) Types (λ v h. tt) bytes shape t
contents_held ImportSection s bytes shape t are = filling_held s (vector an_import) Imports (λ v h. tt) bytes shape t
contents_held FunctionSection s bytes shape t are = filling_held s (vector u32) Functions (λ v h. tt) bytes shape t
contents_held TableSection s bytes shape t are = filling_held s (vector table_type) Tables (λ v h. tt) bytes shape t
contents_held MemorySection s bytes shape t are = filling_held s (vector limits) Memories (λ v h. tt) bytes shape t
contents_held GlobalSection s bytes shape t are = filling_held s (vector global) Globals (λ v h. tt) bytes shape t
contents_held ExportSection s bytes shape t are = filling_held s (vector an_export) Exports (λ v h. tt) bytes shape t
contents_held StartSection s bytes shape t are = filling_held s u32 Start (λ v h. tt) bytes shape t
contents_held ElementSection s bytes shape t are = filling_held s (vector element) Elements (λ v h. tt) bytes shape t
contents_held CodeSection s bytes shape t are = filling_held s (vector blob) Bodies (λ v h. tt) bytes shape t
contents_held DataSection s bytes shape t are = filling_held s (vector data_segment) Segments (λ v h. segments_bytes h.1 v h.5.1 (back s h.0 h.1 h.3 are)) bytes shape t

section_held : (bytes : List ℕ) (shape : SectionShape) → section.spells bytes shape → AreBytes bytes → Held shape
unfolding section
section_held bytes shape t h =
    let u = t.5 in
    let w = u.5 in
    let rest : AreBytes t.1 = back bytes t.0 t.1 t.3 h in
    let inner : AreBytes u.2 = blob_bytes u.0 u.2 u.4 (front t.1 u.0 u.1 u.3 rest) in
    contents_held w.2 u.2 w.1 shape w.5 inner

-- ---- modules

put_held : (m : ModuleShape) (s : SectionShape) → HoldBytes m.segments → Held s → HoldBytes (with_section m s).segments
put_held m Custom h t = h
put_held m (Types v) h t = h
put_held m (Imports v) h t = h
put_held m (Functions v) h t = h
put_held m (Tables v) h t = h
put_held m (Memories v) h t = h
put_held m (Globals v) h t = h
put_held m (Exports v) h t = h
put_held m (Start x) h t = h
put_held m (Elements v) h t = h
put_held m (Bodies v) h t = h
put_held m (Segments v) h t = t

all_held : (bytes : List ℕ) (sections : List SectionShape) (m : ModuleShape) → SpellsAll section.spells bytes sections → AreBytes bytes → HoldBytes m.segments → HoldBytes (put_all m sections).segments
all_held bytes [] m t are h = h
all_held bytes (s ∷ rest) m t are h =
    all_held t.1 rest (with_section m s) t.4 (back bytes t.0 t.1 t.2 are)
    (put_held m s h (section_held t.0 s t.3 (front bytes t.0 t.1 t.2 are)))

-- the bytes that spell a module are below 256, so those of its segments are
pub segments_are_bytes : (bytes : List ℕ) (m : ModuleShape) → Shell bytes m → ((k : ℕ) → get_or bytes k 0 < 256) → SegmentsAreBytes m
segments_are_bytes bytes m s below =
    let none : HoldBytes [] = λ k d lt. absurd (omega arith) in
    let are : AreBytes bytes = λ k d lt. subst (λ (n : ℕ). n < 256) (get_or_default bytes k 0 d lt) (below k) in
    subst (λ (x : ModuleShape). HoldBytes x.segments) s.says
    (all_held s.tail s.sections empty_module s.spelled (back bytes header s.tail s.begins are) none)
