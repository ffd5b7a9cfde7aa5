use Rattle.std.proofs.lemmas.Bool.{ltb-true}
use Rattle.explain_rules.proofs.rules.exports.keeps_names.Goals as goal

pub returns-in-Ok : goal.returns-in-Ok
returns-in-Ok c = λ _. c.in-Ok.ensures.valid 10

pub returns-in-Err-Rule : goal.returns-in-Err-Rule
returns-in-Err-Rule c = λ h. (c.in-Err-Rule.ensures.broken c.in-Err-Rule.rule (c.in-Err-Rule.field-0-is)).before 10 (ltb-true 10 c.in-Err-Rule.rule h)
