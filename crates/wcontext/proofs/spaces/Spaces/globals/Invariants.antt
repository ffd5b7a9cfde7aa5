use Rattle.std.proofs.Common.{◌≡◌, ◌++◌, map, take}
use Rattle.wcontext.proofs.spaces.Spaces.globals.Given as goal

abbrev pub invariant-loop-global : goal.invariant-loop-global
invariant-loop-global l = l.globals.items ≡ l.initial.globals.items ++ map (λ g. g.global_type) (take l.global-index l.module.globals.items)
