use Rattle.std.proofs.Common.{◌∙◌, ap, sym, Some}
use Rattle.wcheck.specs.Views.{label_of}
use Rattle.wcheck.proofs.ReversedLists.{behind_or}
use Rattle.wcheck.proofs.frames.label_at.Goals as goal

pub returns : goal.returns
returns c types =
    behind_or (λ y. label_of types y.frame) (label_of types c.args.frame) c.args.outer.now c.args.l _ c.if-l-eq0.false c.if-depth-outer.false
    ∙ ap Some (sym (c.label_of_frame-2.ensures types))
