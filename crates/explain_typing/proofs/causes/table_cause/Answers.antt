use Rattle.std.proofs.Common.{reverse, Some, refl, sym, ap, ◌∙◌}
use Rattle.std.proofs.lemmas.Option.{slice_get-get_or}
use Rattle.explanation.specs.declared.cause.Space.TheVariants.{Labels}
use Rattle.explain_typing.proofs.Misfits.{index_some, label_named}
use Rattle.explain_typing.proofs.causes.table_cause.Goals as goal

pub returns-in_default-label : goal.returns-in_default-label
returns-in_default-label c =
    index_some c.args.checker.now.inside c.args.checker.now.frames _ Labels _ c.no_index-in_default-label.result c.no_index-in_default-label.ensures (label_named c.args.labels.now c.args.default c.loop-label.label-index _ c.loop-label-test.true refl)

pub returns-then-differ : goal.returns-then-differ
returns-then-differ c =
    let k = c.loop-label.label-index in
    let p = c.in_ok-from_slice.ensures.items in
    let q = c.in_ok-from_slice-2.ensures.items in (
      c.args.labels.now,
      c.args.default,
      k,
      refl,
      slice_get-get_or c.args.labels.now k 0 c.loop-label-test.true,
      sym c.in-Some-label.ensures ∙ ap (λ z. Some (reverse z)) (sym p),
      sym c.in-Some.ensures ∙ ap (λ z. Some (reverse z)) (sym q),
      λ e. c.differ.ensures c.if-differ.true (sym p ∙ e ∙ q),
    )
