use Rattle.std.proofs.Common.{◌≡◌, All, take}
use Rattle.c_api.proofs.ExportNumbers.{IsOther}
use Rattle.c_api.proofs.calling_on.number_of.Given as goal

abbrev pub invariant-loop-position : goal.invariant-loop-position
invariant-loop-position l = All (IsOther l.name) (take l.position l.exports.items) × (l.exports.items ≡ l.accepted.«module».exports.items)
