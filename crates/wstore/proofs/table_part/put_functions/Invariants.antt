use Rattle.std.proofs.Common.{◌≡◌, map, take}
use Rattle.wsyntax.specs.Execution.Allocation.{overwrite}
use Rattle.interpreter.specs.declared.store.TableEntry.TheVariants.{SetTo}
use Rattle.wstore.proofs.table_part.put_functions.Given as goal

abbrev pub invariant-loop-i : goal.invariant-loop-i
invariant-loop-i l = l.entries ≡ overwrite l.offset (map SetTo (take l.i l.functions)) l.fn.entries
