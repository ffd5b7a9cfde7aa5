use Rattle.std.proofs.Common.{refl}
use Rattle.explain_rules.proofs.Repeats.{repeated_told}
use Rattle.explain_rules.proofs.rules.exports.exported_name.Goals as goal

pub returns : goal.returns
returns c =
    (refl, repeated_told c.deref-2.result.now c.truncate.new.self.items c.args.whole.exports.items c.in-Some.field-0.later c.in-Some.field-0.earlier c.in-Some-shared_name.name.now c.deref-2.ensures.value c.truncate.ensures.items (c.in_ok-keeps_names.ensures c.if-not-branch.false) c.in-Some-shared_name.ensures, refl)
