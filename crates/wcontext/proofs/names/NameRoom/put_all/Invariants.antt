use Rattle.std.proofs.Common.{◌≡◌, map, take}
use Rattle.wcontext.proofs.names.NameRoom.put_all.Given as goal

abbrev pub invariant-loop-export : goal.invariant-loop-export
invariant-loop-export l = l.self.names.items ≡ map (λ e. e.name) (take l.export-index l.exports)
