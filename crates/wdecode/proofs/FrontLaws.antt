-- Sections that are read step by step, up to the data segments and from there on, agree with the grammar of a module.
-- It goes section by section: how the rest may end (`EndsAs`) stays so with one section more (`carried`), and `front_made` ends the front.
-- Functions of src/module.rt and src/rule.rt cite it, and so do `ModuleHead::whole` and `segments_pass` of src/front.rt.
use Rattle.std.proofs.Common.{◌≡◌, ℕ, ◌-◌, ◌<◌, Bool, true, false, eqb, eq-eqb, List, [], ◌∷◌, ◌++◌, length, take, drop, Some, None, Result, Err, ◌≢◌, ◌↔◌, refl, sym, ap, subst, ◌∙◌, arith}
use Rattle.std.specs.Prelude.{IsTrue, All}
use Rattle.std.proofs.lemmas.List.{take_all}
use Rattle.std.proofs.lemmas.List.Elements.{All-nil, All-cons, All-head, All-tail, All-push}
use Rattle.std.proofs.lemmas.Bool.{eqb-true, lt-ltb}
use Rattle.wsyntax.specs.Modules.{ModuleShape, DataShape}
use Rattle.wsyntax.specs.Binary.Production.{SpellsAll, whole_at}
use Rattle.wsyntax.specs.Binary.Values.{blob, vector_at}
use Rattle.wsyntax.specs.Binary.Sections.{SectionShape, Custom, Types, Imports, Functions, Tables, Memories, Globals, Exports, Start, Elements, Bodies, Segments, contents, section, data_segment}
use Rattle.wsyntax.specs.Binary.Shell.{section_id, may_follow, last_after, IsOrdered, with_section, put_all, empty_module, strip, header, Shell}
use Rattle.wdecode.specs.declared.fault.Fault.{Fault}
use Rattle.wdecode.specs.declared.fault.Fault.TheVariants.{Malformed, Memory}
use Rattle.wdecode.specs.Gives.{Fails}
use Rattle.wdecode.specs.Fronts.{with_segments, EndsAs, Ends, IsBeforeSegments, stops}
use Rattle.wdecode.proofs.SectionList.{read_section_id, spelled_section_id, one_more, unread, shell_ends, ends_shell}

-- what a `?` hands on is that fault only where its fault is
pub fault_is : {T E : Type 0} (r : Result T E) (y e fault : E) → r ≡ Err y → y ≡ e → r ≡ Err fault → e ≡ fault
fault_is r y e fault a b h = cc

-- bytes are left where reading goes on
pub goes_on : (before : Bool) (bytes : List ℕ) → stops before bytes ≡ false → 0 < length bytes
goes_on before [] goes = absurd cc
goes_on before (b ∷ bytes) goes = omega arith

-- what was so up to one section more
pub carried : (start : ModuleShape → Type 0) (last now : ℕ) (m n : ModuleShape) (bytes after : List ℕ) (s : SectionShape) → section.read bytes ≡ Some (s, after) → may_follow last s ≡ true → last_after last s ≡ now → n ≡ with_section m s
    → ((whole : ModuleShape) → start whole ↔ EndsAs last m bytes whole) → (whole : ModuleShape) → start whole ↔ EndsAs now n after whole
carried start last now m n bytes after s r ok is made so_far whole =
    let step = one_more last m bytes after s r ok whole in (
      λ x. subst (λ (l : ℕ). EndsAs l n after whole) is (subst (λ (k : ModuleShape). EndsAs (last_after last s) k after whole) (sym made) (step.0 ((so_far whole).0 x))),
      λ x. (so_far whole).1 (step.1 (subst (λ (k : ModuleShape). EndsAs (last_after last s) k after whole) made (subst (λ (l : ℕ). EndsAs l n after whole) (sym is) x))),
    )

-- Before the data segments.

early_put : (last : ℕ) (m : ModuleShape) (s : SectionShape) → section_id s ≢ 11 → IsBeforeSegments last m → IsBeforeSegments (last_after last s) (with_section m s)
early_put last m Custom other e = e
early_put last m (Types v) other e = (omega arith, e.1)
early_put last m (Imports v) other e = (omega arith, e.1)
early_put last m (Functions v) other e = (omega arith, e.1)
early_put last m (Tables v) other e = (omega arith, e.1)
early_put last m (Memories v) other e = (omega arith, e.1)
early_put last m (Globals v) other e = (omega arith, e.1)
early_put last m (Exports v) other e = (omega arith, e.1)
early_put last m (Start x) other e = (omega arith, e.1)
early_put last m (Elements v) other e = (omega arith, e.1)
early_put last m (Bodies v) other e = (omega arith, e.1)
early_put last m (Segments v) other e = absurd (other refl)

pub early_next : (before : Bool) (last now : ℕ) (m n : ModuleShape) (bytes after : List ℕ) (s : SectionShape) → section.read bytes ≡ Some (s, after) → last_after last s ≡ now → n ≡ with_section m s → stops before bytes ≡ false → before ≡ true → IsBeforeSegments last m → IsBeforeSegments now n
early_next before last now m n bytes after s r is made goes_before wanted e =
    let goes : stops true bytes ≡ false = subst (λ (b : Bool). stops b bytes ≡ false) wanted goes_before in
    let first = read_section_id bytes after s r in
    let other : eqb (section_id s) 11 ≡ false = sym (ap (stops true) first.1) ∙ goes in
    let put_early = early_put last m s (λ same. let clash : true ≡ false = sym (eq-eqb (section_id s) 11 same) ∙ other in absurd cc) e in
    subst (λ (l : ℕ). IsBeforeSegments l n) is (subst (λ (k : ModuleShape). IsBeforeSegments (last_after last s) k) (sym made) put_early)

-- what is left where reading stops before the data segments
pub next_is : (bytes : List ℕ) → stops true bytes ≡ true → (id : ℕ) (tail : List ℕ) → bytes ≡ id ∷ tail → id ≡ 11
next_is bytes over id tail is = eqb-true id 11 (sym (ap (stops true) is) ∙ over)

-- what is left where it stops at the end
pub none_left : (bytes : List ℕ) → stops false bytes ≡ true → bytes ≡ []
none_left [] over = refl
none_left (b ∷ bytes) over = absurd cc

pub ends_here : (last : ℕ) (m : ModuleShape) (bytes : List ℕ) → bytes ≡ [] → EndsAs last m bytes m
ends_here last m bytes is = ([], is, tt, refl)

-- From the data segments on.

-- after them stand custom sections, which say nothing
put_customs : (ss : List SectionShape) (m : ModuleShape) → IsOrdered 11 ss → put_all m ss ≡ m
put_customs [] m ordered = refl
put_customs (Custom ∷ ss) m ordered = put_customs ss m ordered.1
put_customs (Types v ∷ ss) m ordered = absurd (let e = ordered.0 in cc)
put_customs (Imports v ∷ ss) m ordered = absurd (let e = ordered.0 in cc)
put_customs (Functions v ∷ ss) m ordered = absurd (let e = ordered.0 in cc)
put_customs (Tables v ∷ ss) m ordered = absurd (let e = ordered.0 in cc)
put_customs (Memories v ∷ ss) m ordered = absurd (let e = ordered.0 in cc)
put_customs (Globals v ∷ ss) m ordered = absurd (let e = ordered.0 in cc)
put_customs (Exports v ∷ ss) m ordered = absurd (let e = ordered.0 in cc)
put_customs (Start x ∷ ss) m ordered = absurd (let e = ordered.0 in cc)
put_customs (Elements v ∷ ss) m ordered = absurd (let e = ordered.0 in cc)
put_customs (Bodies v ∷ ss) m ordered = absurd (let e = ordered.0 in cc)
put_customs (Segments v ∷ ss) m ordered = absurd (let e = ordered.0 in cc)

pub customs_after : (m n : ModuleShape) (bytes : List ℕ) (to : ModuleShape) → EndsAs 11 m bytes to → EndsAs 11 n bytes n
customs_after m n bytes to e = (e.0, e.1, e.2, put_customs e.0 n e.2)

segments_by_id : (s : SectionShape) → section_id s ≡ 11 → (v : List DataShape) × (s ≡ Segments v)
segments_by_id Custom r = absurd (omega arith)
segments_by_id (Types v) r = absurd (omega arith)
segments_by_id (Imports v) r = absurd (omega arith)
segments_by_id (Functions v) r = absurd (omega arith)
segments_by_id (Tables v) r = absurd (omega arith)
segments_by_id (Memories v) r = absurd (omega arith)
segments_by_id (Globals v) r = absurd (omega arith)
segments_by_id (Exports v) r = absurd (omega arith)
segments_by_id (Start x) r = absurd (omega arith)
segments_by_id (Elements v) r = absurd (omega arith)
segments_by_id (Bodies v) r = absurd (omega arith)
segments_by_id (Segments v) r = (v, refl)

-- so the whole module differs in its data segments alone
IsSame : ModuleShape → ModuleShape → Type 0
IsSame m whole = whole ≡ with_segments m whole.segments

segments_only : (last : ℕ) (m whole : ModuleShape) (s : SectionShape) (ss : List SectionShape) → section_id s ≡ 11 → IsOrdered (last_after last s) ss → put_all (with_section m s) ss ≡ whole → IsSame m whole
unfolding IsSame
segments_only last m whole s ss r ordered is =
    let v = segments_by_id s r in
    let after : IsOrdered 11 ss = subst (λ (t : SectionShape). IsOrdered (last_after last t) ss) v.1 ordered in
    let made : put_all (with_segments m v.0) ss ≡ whole = ap (λ (t : SectionShape). put_all (with_section m t) ss) (sym v.1) ∙ is in
    subst (IsSame m) (sym (put_customs ss (with_segments m v.0) after) ∙ made) refl

rest_only : (last : ℕ) (m whole : ModuleShape) (bytes : List ℕ) (ss : List SectionShape) → ((id : ℕ) (tail : List ℕ) → bytes ≡ id ∷ tail → id ≡ 11)
    → SpellsAll section.spells bytes ss → IsOrdered last ss → put_all m ss ≡ whole → IsSame m whole
unfolding IsSame
rest_only last m whole bytes [] next sp ordered is = subst (IsSame m) is refl
rest_only last m whole bytes (s ∷ ss) next sp ordered is =
    let first = spelled_section_id sp.0 s sp.3 in
    let front : bytes ≡ section_id s ∷ (first.0 ++ sp.1) = sp.2 ∙ ap (λ (w : List ℕ). w ++ sp.1) first.1 in
    segments_only last m whole s ss (next (section_id s) (first.0 ++ sp.1) front) ordered.1 is

pub only_segments : (last : ℕ) (m whole : ModuleShape) (bytes : List ℕ) → ((id : ℕ) (tail : List ℕ) → bytes ≡ id ∷ tail → id ≡ 11) → EndsAs last m bytes whole → whole ≡ with_segments m whole.segments
unfolding IsSame
only_segments last m whole bytes next e = rest_only last m whole bytes e.0 next e.1 e.2 e.3

pub whole_made : (last : ℕ) (m whole : ModuleShape) (bytes : List ℕ) → ((id : ℕ) (tail : List ℕ) → bytes ≡ id ∷ tail → id ≡ 11) → EndsAs last m bytes whole → (segments : List DataShape) × Ends last m bytes segments × (whole ≡ with_segments m segments)
whole_made last m whole bytes next e =
    let is = only_segments last m whole bytes next e in (whole.segments, subst (EndsAs last m bytes) is e, is)

-- The section of data segments, read in place.

-- the bytes from the section of data segments on, after its id
abbrev pub after_id : List ℕ → List ℕ
after_id bytes = take (length bytes - 1) (drop 1 bytes)

pub begin : (bytes : List ℕ) → 0 < length bytes → ((id : ℕ) (tail : List ℕ) → bytes ≡ id ∷ tail → id ≡ 11) → bytes ≡ 11 ∷ after_id bytes
begin [] some next = absurd (omega arith)
begin (b ∷ bytes) some next =
    let all : after_id (b ∷ bytes) ≡ bytes = take_all (length (b ∷ bytes) - 1) bytes (omega arith) in
    ap (λ (n : ℕ). n ∷ bytes) (next b bytes refl) ∙ ap (λ (r : List ℕ). 11 ∷ r) (sym all)

segments_read : (rest contents after : List ℕ) (segments : List DataShape) → blob.read rest ≡ Some (contents, after) → whole_at (vector_at data_segment.read) contents ≡ Some segments → section.read (11 ∷ rest) ≡ Some (Segments segments, after)
unfolding section
segments_read rest contents after segments b w = rw (b, w) refl

pub no_blob : (e : Fault) (last : ℕ) (m : ModuleShape) (rest : List ℕ) → Fails e (blob.read rest) → e ≡ Malformed → (to : ModuleShape) → EndsAs last m (11 ∷ rest) to → ⊥
unfolding section
no_blob Memory last m rest b e to ends = absurd cc
no_blob Malformed last m rest b e to ends = unread last (11 ∷ rest) ends.0 (omega arith) (rw b refl) ends.1

pub no_segments : (last : ℕ) (m : ModuleShape) (rest contents after : List ℕ) → blob.read rest ≡ Some (contents, after) → whole_at (vector_at data_segment.read) contents ≡ None → (to : ModuleShape) → EndsAs last m (11 ∷ rest) to → ⊥
unfolding section
no_segments last m rest contents after b w to ends = unread last (11 ∷ rest) ends.0 (omega arith) (rw (b, w) refl) ends.1

segments_follow : (last : ℕ) (segments : List DataShape) → last < 11 → may_follow last (Segments segments) ≡ true
segments_follow last segments early = rw (lt-ltb last 11 early) refl

pub segments_end : (last : ℕ) (m : ModuleShape) (rest contents after : List ℕ) (segments : List DataShape) → last < 11 → blob.read rest ≡ Some (contents, after) → whole_at (vector_at data_segment.read) contents ≡ Some segments
    → EndsAs 11 empty_module after empty_module → Ends last m (11 ∷ rest) segments
segments_end last m rest contents after segments early b w customs =
    let step = one_more last m (11 ∷ rest) after (Segments segments) (segments_read rest contents after segments b w) (segments_follow last segments early) (with_segments m segments) in
    step.1 (customs_after empty_module (with_segments m segments) after empty_module customs)

pub no_customs : (last : ℕ) (m : ModuleShape) (rest contents after : List ℕ) (segments : List DataShape) → last < 11 → blob.read rest ≡ Some (contents, after) → whole_at (vector_at data_segment.read) contents ≡ Some segments
    → (EndsAs 11 empty_module after empty_module → ⊥) → (to : ModuleShape) → EndsAs last m (11 ∷ rest) to → ⊥
no_customs last m rest contents after segments early b w none to ends =
    let step = one_more last m (11 ∷ rest) after (Segments segments) (segments_read rest contents after segments b w) (segments_follow last segments early) to in
    none (customs_after (with_segments m segments) empty_module after to (step.0 ends))

-- The whole.

-- nothing ends so, where the sections after the header do not
pub no_shell : (bytes tail : List ℕ) (start : ModuleShape) → strip header bytes ≡ Some tail → start ≡ empty_module → ((to : ModuleShape) → EndsAs 0 start tail to → ⊥) → (m : ModuleShape) → Shell bytes m → ⊥
no_shell bytes tail start stripped empty none m s = none m (subst (λ (e : ModuleShape). EndsAs 0 e tail m) (sym empty) (shell_ends bytes tail m stripped s))

-- what stands before the data segments is a front of what the bytes spell
abbrev pub IsFrontOf : List ℕ → ℕ → ModuleShape → List ℕ → Type 0
IsFrontOf bytes last m rest = (whole : ModuleShape) → Shell bytes whole ↔ ((segments : List DataShape) × Ends last m rest segments × (whole ≡ with_segments m segments))

pub front_made : (bytes tail : List ℕ) (start : ModuleShape) (last : ℕ) (m : ModuleShape) (rest : List ℕ) → strip header bytes ≡ Some tail → start ≡ empty_module
    → ((to : ModuleShape) → EndsAs 0 start tail to ↔ EndsAs last m rest to) → ((id : ℕ) (after : List ℕ) → rest ≡ id ∷ after → id ≡ 11) → length m.functions ≡ length m.bodies → IsFrontOf bytes last m rest
front_made bytes tail start last m rest stripped empty same next paired whole = (there, back)
  where
    there : Shell bytes whole → (segments : List DataShape) × Ends last m rest segments × (whole ≡ with_segments m segments)
    there s = whole_made last m whole rest next ((same whole).0 (subst (λ (e : ModuleShape). EndsAs 0 e tail whole) (sym empty) (shell_ends bytes tail whole stripped s)))

    back : (segments : List DataShape) × Ends last m rest segments × (whole ≡ with_segments m segments) → Shell bytes whole
    back x =
        let ends = subst (λ (e : ModuleShape). EndsAs 0 e tail (with_segments m x.0)) empty ((same (with_segments m x.0)).1 x.1) in
        subst (Shell bytes) (sym x.2) (ends_shell bytes tail (with_segments m x.0) stripped ends paired)

pub unpaired : (bytes tail : List ℕ) (start : ModuleShape) (last : ℕ) (m : ModuleShape) (rest : List ℕ) → strip header bytes ≡ Some tail → start ≡ empty_module
    → ((to : ModuleShape) → EndsAs 0 start tail to ↔ EndsAs last m rest to) → ((id : ℕ) (after : List ℕ) → rest ≡ id ∷ after → id ≡ 11) → length m.functions ≢ length m.bodies → (whole : ModuleShape) → Shell bytes whole → ⊥
unpaired bytes tail start last m rest stripped empty same next differ whole s =
    let ends = (same whole).0 (subst (λ (e : ModuleShape). EndsAs 0 e tail whole) (sym empty) (shell_ends bytes tail whole stripped s)) in
    let is = only_segments last m whole rest next ends in
    differ (sym (ap (λ (w : ModuleShape). length w.functions) is) ∙ s.paired ∙ ap (λ (w : ModuleShape). length w.bodies) is)

-- A rule that each data segment is to keep.

all_last : {X : Type 0} (P : X → Type 0) (xs : List X) (n : X) → All P (xs ++ n ∷ []) → All P xs × P n
all_last P [] n a = (All-nil P, All-head P n [] a)
all_last P (x ∷ xs) n a =
    let others = all_last P xs n (All-tail P x (xs ++ n ∷ []) a) in
    (All-cons P x xs (All-head P x (xs ++ n ∷ []) a) others.0, others.1)

-- one more that is looked at
pub passes_on : {X : Type 0} (P : X → Type 0) (done : List X) (n : X) (old new accepted : Bool) → old ≡ true → (IsTrue accepted ↔ P n) → new ≡ accepted → (IsTrue old ↔ All P done) → IsTrue new ↔ All P (done ++ n ∷ [])
passes_on P done n old new accepted passed one is so_far = (λ t. All-push P done n (so_far.0 passed) (one.0 (sym is ∙ t)), λ a. is ∙ one.1 (all_last P done n a).1)

-- one after another that is not accepted
pub passes_no_more : {X : Type 0} (P : X → Type 0) (done : List X) (n : X) (old new : Bool) → old ≡ false → new ≡ false → (IsTrue old ↔ All P done) → IsTrue new ↔ All P (done ++ n ∷ [])
passes_no_more P done n old new failed is so_far = (there, back)
  where
    there : IsTrue new → All P (done ++ n ∷ [])
    there t = let clash : true ≡ false = sym t ∙ is in absurd cc

    back : All P (done ++ n ∷ []) → IsTrue new
    back a = let clash : true ≡ false = sym (so_far.1 (all_last P done n a).0) ∙ failed in absurd cc
