use Rattle.std.proofs.Common.{[], map, ◌∙◌}
use Rattle.std.proofs.lemmas.List.{get_or_default}
use Rattle.command.proofs.words.contains_word.Goals as goal

pub returns-in-Some : goal.returns-in-Some
returns-in-Some c =
    let found = c.in-Some.ensures.stands in
    λ _. (c.in-Some.field-0, found.0, get_or_default (map (λ w. w.now) c.args.words.now) c.in-Some.field-0 c.args.text.now [] found.0 ∙ found.1)
