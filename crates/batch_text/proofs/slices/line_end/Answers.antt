use Rattle.std.proofs.Common.{◌≡◌, ◌<◌, ◌∙◌, drop, length, refl, subst, rules}
use Rattle.std.proofs.lemmas.List.{take_rest}
use Rattle.batch_text.specs.Reading.{SplitsBefore}
use Rattle.batch_text.proofs.SlicedTexts.{ends_there}
use Rattle.batch_text.proofs.slices.line_end.Goals as goal

pub returns : goal.returns
returns c =
    let text = c.args.text.now in
    let found = c.in_ok-behind.ensures.lookup.0 in
    let some : 0 < length c.split_before.result.1.now = search rules in
    let behind : c.in_ok-behind.behind.now ≡ drop c.args.size text = found.2 ∙ take_rest text c.args.size in
    let split = subst (λ l. SplitsBefore 0x0A l c.split_before.result.0.now c.split_before.result.1.now) behind c.split_before.ensures in
    ends_there text c.split_before.result.0.now c.split_before.result.1.now c.args.size _ found.0 split some refl
