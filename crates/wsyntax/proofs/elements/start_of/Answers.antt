use Rattle.std.proofs.Common.{◌≡◌, ◌-◌, ◌<◌, suc, Some, sym, ap, ◌∙◌, refl, arith, slice_get, length}
use Rattle.std.proofs.lemmas.Option.{slice_get_read}
use Rattle.wsyntax.specs.Elements.{start_at}
use Rattle.wsyntax.specs.declared.elements.Segment.{Segment}
use Rattle.wsyntax.proofs.Segments.{start_behind}
use Rattle.wsyntax.proofs.elements.start_of.Goals as goal

pub returns-else-index-eq0 : goal.returns-else-index-eq0
returns-else-index-eq0 c =
    let ss = c.args.segments.now in
    let before = c.args.index - 1 in
    let last = c.index-segments-index.result in
    let inside : before < length ss = omega (arith, c.requires) in
    let next : suc before ≡ c.args.index = omega (arith, c.if-index-eq0.false) in
    let read : slice_get ss before ≡ Some last = slice_get_read ss (length ss) before last refl inside c.index-segments-index.is in
    ap (λ (s : Segment). s.end) (sym c.index-segments-index.is) ∙ sym (start_behind 0 ss before last read) ∙ ap (start_at 0 ss) next
