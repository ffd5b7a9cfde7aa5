-- The name is read, and fields so far.
use Rattle.std.proofs.Common.{length}
use Rattle.batch_text.specs.Args.{args_of}
use Rattle.batch_text.proofs.Fields.{FieldsRead}
use Rattle.batch_text.proofs.call.read_call.Given as goal

abbrev pub invariant-fields : goal.invariant-fields
invariant-fields l = FieldsRead l.line l.name l.rest (args_of l.args)

abbrev pub decreases-fields : goal.decreases-fields
decreases-fields l = length l.rest
