use Rattle.accepted_module.proofs.GivenIds.{AreGiven}
use Rattle.accepted_module.proofs.type_ids.ids_of_types.Given as goal

abbrev pub invariant-loop-position : goal.invariant-loop-position
invariant-loop-position l = AreGiven l.types l.indices.items l.first l.position l.ids.items
