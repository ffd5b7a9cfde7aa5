use Rattle.std.proofs.Common.{◌∙◌, ap, sym, slice_get}
use Rattle.wcheck.specs.Views.{labels_in}
use Rattle.wcheck.proofs.Labels.{label_at_most, label_there}
use Rattle.wcheck.proofs.checker.Checker.label.Goals as goal

pub returns-in-Some : goal.returns-in-Some
returns-in-Some c =
    let types = c.self.inside.scope.context.now.context.types in
    let lent = sym (ap (λ z. slice_get (labels_in types c.self.inside.control.top z) c.args.l) c.deref.ensures.value) in
    rw (← c.self.view_is) (label_there c.self.inside.control types c.args.l _ _ c.if-not-self.false c.self.invariant.types (lent ∙ c.in-Some.ensures types) c.list.ensures.types)

pub returns-in-None : goal.returns-in-None
returns-in-None c =
    let types = c.self.inside.scope.context.now.context.types in
    let lent = sym (ap (λ z. slice_get (labels_in types c.self.inside.control.top z) c.args.l) c.deref.ensures.value) in
    rw (← c.self.view_is) (label_at_most c.self.inside.control types c.args.l c.if-not-self.false c.self.invariant.types (lent ∙ c.in-None.ensures types))
