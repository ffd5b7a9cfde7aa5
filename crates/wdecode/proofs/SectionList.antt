-- Sections one after the other, and the header before them, as the grammar has them: bytes spell one module at most (`one_shell`).
-- It goes by the kinds of section for the id of one (`contents_section_id`), by induction over the sections for their list (`one_list`).
-- FrontLaws.antt and Determined.antt cite it, `advance` and `decode_module` of src/module.rt, and the law `shells_are_determined`.
use Rattle.std.proofs.Common.{◌≡◌, ℕ, ◌<◌, ◌≤◌, Bool, true, false, cond, eqb, ltb, eq-eqb, List, [], ◌∷◌, ◌++◌, length, Option, Some, None, ◌≢◌, ◌↔◌, refl, sym, ap, subst, ◌∙◌, arith}
use Rattle.std.proofs.lemmas.List.{length-append}
use Rattle.std.proofs.lemmas.Bool.{eqb-true, lt-ltb, le-ltb, ne_eqb}
use Rattle.wsyntax.specs.Modules.{ModuleShape}
use Rattle.wsyntax.specs.Binary.Production.{SpellsAll}
use Rattle.wsyntax.specs.Binary.Sections.{SectionShape, Custom, Types, Imports, Functions, Tables, Memories, Globals, Exports, Start, Elements, Bodies, Segments, SectionKind, CustomSection, TypeSection, ImportSection, FunctionSection, TableSection, MemorySection, GlobalSection, ExportSection, StartSection, ElementSection, CodeSection, DataSection, kind_of, contents_of, contents, section}
use Rattle.wsyntax.specs.Binary.Shell.{section_id, may_follow, last_after, IsOrdered, with_section, put_all, empty_module, strip, header, Shell}
use Rattle.wdecode.specs.declared.fault.Fault.{Fault}
use Rattle.wdecode.specs.declared.fault.Fault.TheVariants.{Malformed, Memory}
use Rattle.wdecode.specs.Gives.{Fails}
use Rattle.wdecode.specs.Fronts.{EndsAs}
use Rattle.wdecode.proofs.Agree.{pair_is}
use Rattle.wdecode.proofs.SectionLaws.{section_agrees}

-- The id of a section is its first byte.

id_of : SectionKind → ℕ
id_of CustomSection = 0
id_of TypeSection = 1
id_of ImportSection = 2
id_of FunctionSection = 3
id_of TableSection = 4
id_of MemorySection = 5
id_of GlobalSection = 6
id_of ExportSection = 7
id_of StartSection = 8
id_of ElementSection = 9
id_of CodeSection = 10
id_of DataSection = 11

section_is : (a c : SectionShape) → Some a ≡ Some c → a ≡ c
section_is a c e = cc

kind_is : (a c : SectionKind) → Some a ≡ Some c → a ≡ c
kind_is a c e = cc

split : (t : Bool) (a k : SectionKind) (other : Option SectionKind) (P : Type 0) → cond t (Some a) other ≡ Some k → (t ≡ true → a ≡ k → P) → (other ≡ Some k → P) → P
split true a k other P e hit missed = hit refl (kind_is a k e)
split false a k other P e hit missed = missed e

kind_id : (id : ℕ) (k : SectionKind) → kind_of id ≡ Some k → id ≡ id_of k
unfolding id_of
kind_id id k e =
    let P : Type 0 = id ≡ id_of k in
    let hit : (a : SectionKind) → eqb id (id_of a) ≡ true → a ≡ k → P = λ a t is. eqb-true id (id_of a) t ∙ ap id_of is in
    split (eqb id 0) CustomSection k _ P e (hit CustomSection) λ e.
    split (eqb id 1) TypeSection k _ P e (hit TypeSection) λ e.
    split (eqb id 2) ImportSection k _ P e (hit ImportSection) λ e.
    split (eqb id 3) FunctionSection k _ P e (hit FunctionSection) λ e.
    split (eqb id 4) TableSection k _ P e (hit TableSection) λ e.
    split (eqb id 5) MemorySection k _ P e (hit MemorySection) λ e.
    split (eqb id 6) GlobalSection k _ P e (hit GlobalSection) λ e.
    split (eqb id 7) ExportSection k _ P e (hit ExportSection) λ e.
    split (eqb id 8) StartSection k _ P e (hit StartSection) λ e.
    split (eqb id 9) ElementSection k _ P e (hit ElementSection) λ e.
    split (eqb id 10) CodeSection k _ P e (hit CodeSection) λ e.
    split (eqb id 11) DataSection k _ P e (hit DataSection) λ e. absurd cc

made_section_id : (a s : SectionShape) (n : ℕ) → section_id a ≡ n → Some a ≡ Some s → section_id s ≡ n
made_section_id a s n r e = ap section_id (sym (section_is a s e)) ∙ r

contents_section_id : (k : SectionKind) (b bytes : List ℕ) (s : SectionShape) → (contents_of k b).spells bytes s → section_id s ≡ id_of k
unfolding id_of
contents_section_id CustomSection b bytes s sp = made_section_id Custom s 0 refl sp.5.1
contents_section_id TypeSection b bytes s sp = made_section_id (Types sp.2) s 1 refl sp.5.1
contents_section_id ImportSection b bytes s sp = made_section_id (Imports sp.2) s 2 refl sp.5.1
contents_section_id FunctionSection b bytes s sp = made_section_id (Functions sp.2) s 3 refl sp.5.1
contents_section_id TableSection b bytes s sp = made_section_id (Tables sp.2) s 4 refl sp.5.1
contents_section_id MemorySection b bytes s sp = made_section_id (Memories sp.2) s 5 refl sp.5.1
contents_section_id GlobalSection b bytes s sp = made_section_id (Globals sp.2) s 6 refl sp.5.1
contents_section_id ExportSection b bytes s sp = made_section_id (Exports sp.2) s 7 refl sp.5.1
contents_section_id StartSection b bytes s sp = made_section_id (Start sp.2) s 8 refl sp.5.1
contents_section_id ElementSection b bytes s sp = made_section_id (Elements sp.2) s 9 refl sp.5.1
contents_section_id CodeSection b bytes s sp = made_section_id (Bodies sp.2) s 10 refl sp.5.1
contents_section_id DataSection b bytes s sp = made_section_id (Segments sp.2) s 11 refl sp.5.1

contents_id : (id : ℕ) (b bytes : List ℕ) (s : SectionShape) → (contents id b).spells bytes s → id ≡ section_id s
contents_id id b bytes s sp = kind_id id sp.2 sp.4.1 ∙ sym (contents_section_id sp.2 b sp.1 s sp.5)

-- bytes that spell a section begin with its id
pub spelled_section_id : (x : List ℕ) (s : SectionShape) → section.spells x s → (h : List ℕ) × (x ≡ section_id s ∷ h)
unfolding section
spelled_section_id x s sp =
    let inner = sp.5 in
    let id : sp.2 ≡ section_id s = contents_id sp.2 inner.2 inner.1 s inner.5 in
    (sp.1, sp.3 ∙ ap (λ (w : List ℕ). w ++ sp.1) sp.4 ∙ ap (λ (n : ℕ). n ∷ sp.1) id)

pub read_section_id : (bytes after : List ℕ) (s : SectionShape) → section.read bytes ≡ Some (s, after) → (h : List ℕ) × (bytes ≡ section_id s ∷ h)
read_section_id bytes after s r =
    let f = section_agrees.sound bytes s after r in
    let first = spelled_section_id f.0 s f.1 in
    (first.0 ++ after, f.2 ∙ ap (λ (w : List ℕ). w ++ after) first.1)

-- so it leaves fewer bytes
pub section_shorter : (bytes after : List ℕ) (s : SectionShape) → section.read bytes ≡ Some (s, after) → length after < length bytes
section_shorter bytes after s h =
    let f = section_agrees.sound bytes s after h in
    let first = spelled_section_id f.0 s f.1 in
    omega (arith, ap length f.2, length-append f.0 after, ap length first.1)

-- One section more.

first_same : (bytes after x y : List ℕ) (s t : SectionShape) → section.read bytes ≡ Some (s, after) → bytes ≡ x ++ y → section.spells x t → (s ≡ t) × (after ≡ y)
first_same bytes after x y s t r is sp = pair_is s t after y (sym r ∙ ap section.read is ∙ section_agrees.complete x t y sp)

not_empty : (bytes x y : List ℕ) (s : SectionShape) → bytes ≡ [] → bytes ≡ x ++ y → section.spells x s → ⊥
not_empty bytes x y s none is sp =
    let first = spelled_section_id x s sp in
    let clash : ◌≡◌ {A = List ℕ} [] (section_id s ∷ (first.0 ++ y)) = sym none ∙ is ∙ ap (λ (w : List ℕ). w ++ y) first.1 in
    absurd cc

into : (last : ℕ) (m to : ModuleShape) (bytes after : List ℕ) (s : SectionShape) (ss : List SectionShape) → section.read bytes ≡ Some (s, after)
    → SpellsAll section.spells bytes ss → IsOrdered last ss → put_all m ss ≡ to → EndsAs (last_after last s) (with_section m s) after to
into last m to bytes after s [] r sp ordered is =
    let first = read_section_id bytes after s r in
    let clash : ◌≡◌ {A = List ℕ} [] (section_id s ∷ first.0) = sym sp ∙ first.1 in
    absurd cc
into last m to bytes after s (t ∷ ss) r sp ordered is =
    let same = first_same bytes after sp.0 sp.1 s t r sp.2 sp.3 in (
      ss,
      subst (λ (w : List ℕ). SpellsAll section.spells w ss) (sym same.1) sp.4,
      subst (λ (w : SectionShape). IsOrdered (last_after last w) ss) (sym same.0) ordered.1,
      ap (λ (w : SectionShape). put_all (with_section m w) ss) same.0 ∙ is,
    )

pub one_more : (last : ℕ) (m : ModuleShape) (bytes after : List ℕ) (s : SectionShape) → section.read bytes ≡ Some (s, after) → may_follow last s ≡ true
    → (to : ModuleShape) → EndsAs last m bytes to ↔ EndsAs (last_after last s) (with_section m s) after to
one_more last m bytes after s r ok to = (there, back)
  where
    there : EndsAs last m bytes to → EndsAs (last_after last s) (with_section m s) after to
    there e = into last m to bytes after s e.0 r e.1 e.2 e.3

    back : EndsAs (last_after last s) (with_section m s) after to → EndsAs last m bytes to
    back e = let f = section_agrees.sound bytes s after r in (s ∷ e.0, (f.0, after, f.2, f.1, e.1), (ok, e.2), e.3)

pub unread : (last : ℕ) (bytes : List ℕ) (ss : List SectionShape) → 0 < length bytes → section.read bytes ≡ None → SpellsAll section.spells bytes ss → ⊥
unread last bytes [] some r sp = let l = ap length sp in absurd (omega arith)
unread last bytes (t ∷ ss) some r sp =
    let clash : ◌≡◌ {A = Option (SectionShape × List ℕ)} None (Some (t, sp.1)) = sym r ∙ ap section.read sp.2 ∙ section_agrees.complete sp.0 t sp.1 sp.3 in
    absurd cc

pub not_read : (e : Fault) (last : ℕ) (m : ModuleShape) (bytes : List ℕ) → 0 < length bytes → Fails e (section.read bytes) → e ≡ Malformed → (to : ModuleShape) → EndsAs last m bytes to → ⊥
not_read Malformed last m bytes some r e to ends = unread last bytes ends.0 some r ends.1
not_read Memory last m bytes some r e to ends = absurd cc

unordered : (last : ℕ) (bytes after : List ℕ) (s : SectionShape) (ss : List SectionShape) → 0 < length bytes → section.read bytes ≡ Some (s, after) → may_follow last s ≡ false → SpellsAll section.spells bytes ss → IsOrdered last ss → ⊥
unordered last bytes after s [] some r bad sp ordered = let l = ap length sp in absurd (omega arith)
unordered last bytes after s (t ∷ ss) some r bad sp ordered =
    let same = first_same bytes after sp.0 sp.1 s t r sp.2 sp.3 in
    let clash : false ≡ true = sym bad ∙ ap (may_follow last) same.0 ∙ ordered.0 in
    absurd cc

pub not_ordered : (last : ℕ) (m : ModuleShape) (bytes after : List ℕ) (s : SectionShape) → 0 < length bytes → section.read bytes ≡ Some (s, after) → may_follow last s ≡ false → (to : ModuleShape) → EndsAs last m bytes to → ⊥
not_ordered last m bytes after s some r bad to ends = unordered last bytes after s ends.0 some r bad ends.1 ends.2

-- bytes spell one list of sections at most
one_list : (ss ts : List SectionShape) (bytes : List ℕ) → SpellsAll section.spells bytes ss → SpellsAll section.spells bytes ts → ss ≡ ts
one_list [] [] bytes a b = refl
one_list [] (t ∷ ts) bytes a b = absurd (not_empty bytes b.0 b.1 t a b.2 b.3)
one_list (s ∷ ss) [] bytes a b = absurd (not_empty bytes a.0 a.1 s b a.2 a.3)
one_list (s ∷ ss) (t ∷ ts) bytes a b =
    let read = ap section.read a.2 ∙ section_agrees.complete a.0 s a.1 a.3 in
    let same = first_same bytes a.1 b.0 b.1 s t read b.2 b.3 in
    let others = one_list ss ts b.1 (subst (λ (w : List ℕ). SpellsAll section.spells w ss) same.1 a.4) b.4 in
    ap (λ (w : SectionShape). w ∷ ss) same.0 ∙ ap (λ (w : List SectionShape). t ∷ w) others

-- The order of sections.

abbrev pub Follows : ℕ → SectionShape → ℕ → Type 0
Follows last s now = (may_follow last s ≡ true) × (last_after last s ≡ now)

pub follows_next : (s : SectionShape) (last id now : ℕ) → id ≡ section_id s → id ≢ 0 → last < id → now ≡ id → Follows last s now
follows_next s last id now r ne lt is =
    let no : eqb (section_id s) 0 ≡ false = ne_eqb (section_id s) 0 (λ e. ne (r ∙ e)) in
    let yet : ltb last (section_id s) ≡ true = lt-ltb last (section_id s) (omega (arith, r)) in
    (rw (no, yet) refl, rw no (sym r ∙ sym is))

pub follows_custom : (s : SectionShape) (last id now : ℕ) → id ≡ section_id s → id ≡ 0 → now ≡ last → Follows last s now
follows_custom s last id now r zeroed is =
    let e : section_id s ≡ 0 = sym r ∙ zeroed in
    (rw e refl, rw e (sym is))

-- a section whose id is not above that of the last one
pub misplaced : (s : SectionShape) (last id : ℕ) → id ≡ section_id s → id ≢ 0 → id ≤ last → may_follow last s ≡ false
misplaced s last id r ne le =
    let named : eqb (section_id s) 0 ≡ false = ne_eqb (section_id s) 0 (λ e. ne (r ∙ e)) in
    let behind : ltb last (section_id s) ≡ false = le-ltb last (section_id s) (omega (arith, r)) in
    rw (named, behind) refl

-- The header, and the whole.
list_same : (a c : List ℕ) → Some a ≡ Some c → a ≡ c
list_same a c e = cc

followed_list : (t : Bool) (r : Option (List ℕ)) (y : List ℕ) → cond t r None ≡ Some y → (t ≡ true) × (r ≡ Some y)
followed_list true r y e = (refl, e)
followed_list false r y e = absurd cc

strip_sound : (h bytes tail : List ℕ) → strip h bytes ≡ Some tail → bytes ≡ h ++ tail
strip_sound [] bytes tail e = list_same bytes tail e
strip_sound (h ∷ hs) [] tail e = absurd cc
strip_sound (h ∷ hs) (b ∷ bs) tail e =
    let g = followed_list (eqb b h) (strip hs bs) tail e in
    ap (λ (x : ℕ). x ∷ bs) (eqb-true b h g.0) ∙ ap (λ (r : List ℕ). h ∷ r) (strip_sound hs bs tail g.1)

strip_complete : (h tail : List ℕ) → strip h (h ++ tail) ≡ Some tail
strip_complete [] tail = refl
strip_complete (h ∷ hs) tail = rw (eq-eqb h h refl) (strip_complete hs tail)

pub shell_ends : (bytes tail : List ℕ) (m : ModuleShape) → strip header bytes ≡ Some tail → Shell bytes m → EndsAs 0 empty_module tail m
shell_ends bytes tail m stripped s =
    let same : tail ≡ s.tail = list_same tail s.tail (sym stripped ∙ ap (strip header) s.begins ∙ strip_complete header s.tail) in
    subst (λ (t : List ℕ). EndsAs 0 empty_module t m) (sym same) (s.sections, s.spelled, s.ordered, s.says)

pub ends_shell : (bytes tail : List ℕ) (m : ModuleShape) → strip header bytes ≡ Some tail → EndsAs 0 empty_module tail m → length m.functions ≡ length m.bodies → Shell bytes m
ends_shell bytes tail m stripped e paired = record { tail = tail; sections = e.0; begins = strip_sound header bytes tail stripped; spelled = e.1; ordered = e.2; says = e.3; paired = paired }

-- bytes spell one module at most
pub one_shell : (bytes : List ℕ) (m n : ModuleShape) → Shell bytes m → Shell bytes n → m ≡ n
one_shell bytes m n s t =
    let tails : s.tail ≡ t.tail = list_same s.tail t.tail (sym (strip_complete header s.tail) ∙ ap (strip header) (sym s.begins ∙ t.begins) ∙ strip_complete header t.tail) in
    let sections : s.sections ≡ t.sections = one_list s.sections t.sections t.tail (subst (λ (w : List ℕ). SpellsAll section.spells w s.sections) tails s.spelled) t.spelled in
    sym s.says ∙ ap (put_all empty_module) sections ∙ t.says
