use Rattle.std.proofs.Common.{[], ◌∷◌, ◌∙◌, ap, subst, sym}
use Rattle.std.proofs.lemmas.List.{map-append}
use Rattle.batch_text.specs.Slices.{slices_of}
use Rattle.batch_text.proofs.SlicedTexts.{CutSoFar, cut_more}
use Rattle.batch_text.proofs.slices.cut_lines.Goals as goal

pub lines-preserved : goal.lines-preserved
lines-preserved c =
    let more = cut_more c.args.size c.in-Some.end c.args.text.now c.lines.rest.now c.split_at.result.0.now c.split_at.result.1.now (slices_of c.lines.slices.items) c.lines.invariant c.in-Some.ensures.1 c.split_at.ensures.front c.split_at.ensures.back in
    let slices = ap slices_of c.in_ok-push.ensures.items ∙ map-append (λ s. s.now) c.lines.slices.items (c.split_at.result.0 ∷ []) in
    subst (λ l. CutSoFar c.args.size c.args.text.now c.split_at.result.1.now l) (sym slices) more
