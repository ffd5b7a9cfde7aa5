use Rattle.std.proofs.Common.{◌≡◌, sym, ap, ◌∙◌, subst, ◌++◌, ◌∷◌, [], length, List}
use Rattle.wsyntax.specs.HeldElement.{HeldElement}
use Rattle.wsyntax.specs.Elements.{FillFrom, elements_from}
use Rattle.wsyntax.specs.declared.elements.Segment.{Segment}
use Rattle.wsyntax.proofs.Segments.{segment_more, fill_more}
use Rattle.wsyntax.proofs.elements.Elements.push.Goals as goal

pub invariant_of-self-2 : goal.invariant_of-self-2
invariant_of-self-2 c =
    let functions = c.self.inside.functions.items in
    let new : Segment = record { table = c.args.table; end = c.in_ok-end.end; offset = c.args.offset } in
    let end : new.end ≡ length functions = c.in_ok-end.ensures ∙ c.len.ensures ∙ c.self.inside.functions.ok.0 in
    subst (FillFrom functions 0) (sym c.in_ok-push.ensures.items) (fill_more functions 0 c.self.inside.segments.items new end c.self.invariant)

pub returns : goal.returns
returns c =
    let functions = c.self.inside.functions.items in
    let new : Segment = record { table = c.args.table; end = c.in_ok-end.end; offset = c.args.offset } in
    let end : new.end ≡ length functions = c.in_ok-end.ensures ∙ c.len.ensures ∙ c.self.inside.functions.ok.0 in
    ap (elements_from functions 0) c.in_ok-push.ensures.items
    ∙ segment_more functions 0 c.self.inside.segments.items new end c.self.invariant
    ∙ ap (λ (es : List HeldElement). es ++ record { table = c.args.table; offset = c.args.offset; functions = [] } ∷ []) c.self.view_is
