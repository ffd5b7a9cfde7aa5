-- What making an instance answers.
use Rattle.std.specs.Prelude.{◌≡◌, ◌⊎◌, ℕ, true, false, Some, IsSomeAnd}
use Rattle.accepted_module.specs.declared.accepted.Accepted.{Accepted as AcceptedModule}
use Rattle.batch_text.specs.declared.line.Line.{Line}
use Rattle.wstore.specs.CallLimits as limits
use Rattle.wstore.specs.declared.detached.Detached.{Detached}
use Rattle.c_api.specs.Beginnings.{Begins, FailsToBegin, begun_fields}
use Rattle.c_api.specs.Ends.{end_fields}
use Rattle.c_api.specs.Runs.{limits_of, in_range}
use Rattle.c_api.specs.declared.ending.GateCall.{GateCall}
use Rattle.c_api.specs.declared.instance.InstanceSlot.{InstanceSlot}
use Rattle.c_api.specs.declared.live.Live.{Live}
use Rattle.c_api.specs.declared.settings.GateSettings.{GateSettings}

-- it is an instance of the module that begins within these limits, and its start function cost k units of fuel
abbrev pub IsMade : AcceptedModule → GateSettings → ℕ → Live → Type 0
IsMade a s k l =
    (l.accepted.value ≡ a) × (limits.limits_of l.settings ≡ limits_of s) × (d : Detached) × (l.state ≡ Some d) × Begins a (limits_of s) d k

-- a limit is out of its range, or memory was refused, and nothing is written; or there is no instance, and it is told why; or the handle that is written owns it
abbrev pub MakesInstance : AcceptedModule → GateSettings → InstanceSlot → InstanceSlot → GateCall → GateCall → ℕ → Type 0
MakesInstance a s old new was ended answered =
    ((((answered ≡ 64) × (in_range s ≡ false)) ⊎ ((answered ≡ 70) × (in_range s ≡ true))) × (new ≡ old) × (ended ≡ was))
    ⊎ (((answered ≡ 81) × (in_range s ≡ true) × (new ≡ old) × (line : Line) × FailsToBegin a (limits_of s) line × (ended ≡ end_fields line))
    ⊎ ((answered ≡ 0) × (in_range s ≡ true) × (k : ℕ) × IsSomeAnd new.value (IsMade a s k) × (ended ≡ begun_fields k)))
