use Rattle.std.proofs.Common.{ltb, ap, sym, ◌∙◌}
use Rattle.wsyntax.specs.Binary.Sections.{locals_of}
use Rattle.wsyntax.specs.Binary.Shell.{local_limit}
use Rattle.verdict.proofs.WholeBodies.{body_passes}
use Rattle.verdict.proofs.passing.Scratch.pass.Goals as goal

pub returns-clause-sound : goal.returns-clause-sound
returns-clause-sound c =
    let few = ap (λ r. ltb local_limit (locals_of r)) (sym c.deref.ensures.value) ∙ sym c.has_too_many_locals.ensures ∙ c.if-has_too_many_locals.false in
    body_passes c.args.self.now.checker.outside c.args.func c.args.bytes.now c.in-Ok.rest.now c.locals_into.new.runs.items c.deref-2.result.now c.begin.new.self c.tokens_pass.result c.in-Ok.ensures few c.deref-2.ensures.value c.in-Ok-begin.ensures.begun c.tokens_pass.ensures.sound
