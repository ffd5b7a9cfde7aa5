use Rattle.std.proofs.Common.{refl}
use Rattle.interpreter.specs.declared.store.TableEntry.TheVariants as held
use Rattle.interpreter.specs.Seen.{entry_of}
use Rattle.wstore.proofs.Tables.{put_more, put_all}
use Rattle.wstore.proofs.table_part.put_functions.Goals as goal

pub loop-i-preserved : goal.loop-i-preserved
loop-i-preserved c = put_more held.SetTo c.args.offset c.loop-i.i c.args.functions.now c.args.entries.now c.loop-i.entries c.loop-i.invariant c.loop-i-test.true c.requires

pub returns : goal.returns
returns c = put_all entry_of held.SetTo c.args.offset c.loop-i.i c.args.functions.now c.args.entries.now c.loop-i.entries (λ xs. refl) c.loop-i.invariant c.loop-i-test.false
