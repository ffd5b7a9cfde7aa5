use Rattle.std.proofs.Common.{◌≡◌, ◌<◌, ◌+◌, ◌^◌, drop}
use Rattle.std.specs.List.{sum_by}
use Rattle.c_api.specs.Sizes.{capped, type_bytes, types_bytes}
use Rattle.c_api.proofs.size.with_types.Given as goal

abbrev pub invariant-loop-index : goal.invariant-loop-index
invariant-loop-index l = record { whole : capped (l.sum + sum_by type_bytes (drop l.index l.types)) ≡ capped (l.total + types_bytes l.types); fits : l.sum < 2 ^ 64 }
