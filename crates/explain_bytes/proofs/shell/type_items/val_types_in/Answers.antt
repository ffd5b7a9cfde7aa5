use Rattle.wsyntax.specs.Binary.Types.{val_type}
use Rattle.explain_bytes.proofs.Shells.{goes_on}
use Rattle.explain_bytes.proofs.shell.type_items.val_types_in.Goals as goal

pub loop-preserved : goal.loop-preserved
loop-preserved c = goes_on val_type.read c.args.count c.loop.counter c.loop.rest.now c.in_ok-rest.rest.now _ c.loop-test.true c.in_ok-rest.ensures c.loop.invariant
