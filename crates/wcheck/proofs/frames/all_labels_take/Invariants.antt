use Rattle.std.proofs.Common.{◌≡◌, reverse, drop}
use Rattle.wsyntax.specs.Validation.Algorithm.{all_take}
use Rattle.wcontext.specs.Lists.{list_of}
use Rattle.wcheck.specs.Views.{labels_in}
use Rattle.wcheck.proofs.frames.all_labels_take.Given as goal

abbrev pub invariant-loop-l : goal.invariant-loop-l
invariant-loop-l l =
    all_take (labels_in l.context.context.types l.frame l.outer) (reverse (list_of l.context.context.types l.r)) (drop l.l-index l.ls) ≡ all_take (labels_in l.context.context.types l.frame l.outer) (reverse (list_of l.context.context.types l.r)) l.ls
