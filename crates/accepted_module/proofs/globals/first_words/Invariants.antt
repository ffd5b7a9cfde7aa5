use Rattle.std.proofs.Common.{◌≡◌, map, take}
use Rattle.wsyntax.specs.Modules.{global_shape}
use Rattle.wsyntax.specs.Execution.Start.{first_value}
use Rattle.soundness.specs.Slots.{bits}
use Rattle.accepted_module.proofs.globals.first_words.Given as goal

abbrev pub invariant-loop-global : goal.invariant-loop-global
invariant-loop-global l = l.words.items ≡ map (λ g. bits (first_value (global_shape g))) (take l.global-index l.globals)
