use Rattle.std.proofs.Common.{◌≡◌, true, length, ◌↔◌}
use Rattle.wsyntax.specs.Modules.{ModuleShape, module_shape}
use Rattle.wdecode.specs.Fronts.{EndsAs, EndsProgress, IsBeforeSegments}
use Rattle.wdecode.proofs.module.advance.Given as goal

abbrev pub invariant-each : goal.invariant-each
invariant-each l = ((whole : ModuleShape) → EndsProgress l.fn.start whole ↔ EndsAs l.last (module_shape l.module) l.rest whole)
    × (l.before_segments ≡ true → IsBeforeSegments l.fn.start.last (module_shape l.fn.start.module) → IsBeforeSegments l.last (module_shape l.module))

abbrev pub decreases-each : goal.decreases-each
decreases-each l = length l.rest
