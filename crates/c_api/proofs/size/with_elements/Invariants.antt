use Rattle.std.proofs.Common.{◌≡◌, ◌<◌, ◌+◌, ◌^◌, drop}
use Rattle.std.specs.List.{sum_by}
use Rattle.c_api.specs.Sizes.{capped, element_bytes, elements_bytes}
use Rattle.c_api.proofs.size.with_elements.Given as goal

abbrev pub invariant-loop-position : goal.invariant-loop-position
invariant-loop-position l = record { whole : capped (l.sum + sum_by element_bytes (drop l.position l.elements)) ≡ capped (l.total + elements_bytes l.elements); fits : l.sum < 2 ^ 64 }
