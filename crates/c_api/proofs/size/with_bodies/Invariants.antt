use Rattle.std.proofs.Common.{◌≡◌, ◌<◌, ◌+◌, ◌^◌, drop}
use Rattle.std.specs.List.{sum_by}
use Rattle.c_api.specs.Sizes.{capped, body_bytes, bodies_bytes}
use Rattle.c_api.proofs.size.with_bodies.Given as goal

abbrev pub invariant-loop-body : goal.invariant-loop-body
invariant-loop-body l = record { whole : capped (l.sum + sum_by body_bytes (drop l.body-index l.bodies)) ≡ capped (l.total + bodies_bytes l.bodies); fits : l.sum < 2 ^ 64 }
