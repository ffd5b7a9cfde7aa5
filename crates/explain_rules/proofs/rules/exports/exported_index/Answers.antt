use Rattle.std.proofs.Common.{refl, ◌∙◌}
use Rattle.explain_rules.proofs.RuleFaults.{count_is}
use Rattle.explain_rules.proofs.rules.exports.exported_index.Goals as goal

pub returns : goal.returns
returns c = (refl, (c.in_ok-position.ensures, c.count.ensures ∙ count_is c.requires c.in_ok-position.export.kind), refl)
