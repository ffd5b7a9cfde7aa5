use Rattle.c_api.proofs.queries.gate_module_find.Goals as goal

pub returns-clause-answer : goal.returns-clause-answer
returns-clause-answer c = rw (c.of.ensures.status, ← c.loose-held.ensures.value, ← c.as_ref.ensures, ← c.deref.ensures) c.find-status.ensures
