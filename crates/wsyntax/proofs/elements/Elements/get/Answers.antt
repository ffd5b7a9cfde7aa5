use Rattle.std.proofs.Common.{◌≡◌, ◌≤◌, ℕ, List, sym, ap, ◌∙◌, subst, refl, length, Some, None, option_map, slice_get, slice_range}
use Rattle.std.proofs.lemmas.Option.{slice_get_past, slice_get_read}
use Rattle.wsyntax.specs.HeldElement.{HeldElement}
use Rattle.wsyntax.specs.Elements.{start_at, element_of}
use Rattle.wsyntax.specs.declared.elements.Segment.{Segment}
use Rattle.wsyntax.proofs.Segments.{read_from, none_from, segment_within}
use Rattle.wsyntax.proofs.elements.Elements.get.Goals as goal

pub returns-in_err-segment : goal.returns-in_err-segment
returns-in_err-segment c =
    let past : slice_get c.deref.result.now c.args.index ≡ None = slice_get_past _ _ c.in_err-segment.ensures.lookup.3 in
    let none = ap (λ (ss : List Segment). slice_get ss c.args.index) (sym c.deref.ensures.value) ∙ past in
    ap (option_map element_of) c.from_residual.ensures
    ∙ sym (none_from c.self.inside.functions.items 0 c.self.inside.segments.items c.args.index none)
    ∙ ap (λ (es : List HeldElement). slice_get es c.args.index) c.self.view_is

-- the segment is the one of that index
there : (c : goal.After-deref-3) → slice_get c.self.inside.segments.items c.args.index ≡ Some c.in_ok-segment.segment.now
there c =
    let read : slice_get c.deref.result.now c.args.index ≡ Some c.in_ok-segment.segment.now = slice_get_read c.deref.result.now _ _ _ refl c.in_ok-segment.ensures.lookup.3.0 c.in_ok-segment.ensures.lookup.1 in
    ap (λ (ss : List Segment). slice_get ss c.args.index) (sym c.deref.ensures.value) ∙ read

within : (c : goal.After-deref-3) → (c.start_of-start.result ≤ c.in_ok-segment.segment.now.end) × (c.in_ok-segment.segment.now.end ≤ length c.deref-3.result.now)
within c =
    let functions = c.self.inside.functions.items in
    let segments = c.self.inside.segments.items in
    let start : start_at 0 segments c.args.index ≡ c.start_of-start.result = ap (λ (ss : List Segment). start_at 0 ss c.args.index) (sym c.deref-2.ensures.value) ∙ sym c.start_of-start.ensures in
    let both = segment_within functions 0 segments c.args.index c.in_ok-segment.segment.now c.self.invariant (there c) in
    (subst (λ (n : ℕ). n ≤ c.in_ok-segment.segment.now.end) start both.0, subst (λ (l : List ℕ). c.in_ok-segment.segment.now.end ≤ length l) (sym c.deref-3.ensures.value) both.1)

pub part-requires-clause-ordered : goal.part-requires-clause-ordered
part-requires-clause-ordered c = (within c).0

pub part-requires-clause-within : goal.part-requires-clause-within
part-requires-clause-within c = (within c).1

pub returns : goal.returns
returns c =
    let functions = c.self.inside.functions.items in
    let segments = c.self.inside.segments.items in
    let s : Segment = c.in_ok-segment.segment.now in
    let start : c.start_of-start.result ≡ start_at 0 segments c.args.index = c.start_of-start.ensures ∙ ap (λ (ss : List Segment). start_at 0 ss c.args.index) c.deref-2.ensures.value in
    let part : c.part.result.now ≡ slice_range functions (start_at 0 segments c.args.index) s.end =
    c.part.ensures ∙ ap (λ (l : List ℕ). slice_range l c.start_of-start.result s.end) c.deref-3.ensures.value ∙ ap (λ (n : ℕ). slice_range functions n s.end) start in
    let read : slice_get c.deref.result.now c.args.index ≡ Some s = slice_get_read c.deref.result.now _ _ _ refl c.in_ok-segment.ensures.lookup.3.0 c.in_ok-segment.ensures.lookup.1 in
    let there = ap (λ (ss : List Segment). slice_get ss c.args.index) (sym c.deref.ensures.value) ∙ read in
    ap (λ (l : List ℕ). Some (record { table = s.table; offset = s.offset; functions = l })) part
    ∙ sym (read_from functions 0 segments c.args.index s there)
    ∙ ap (λ (es : List HeldElement). slice_get es c.args.index) c.self.view_is
