-- 4.5.4 How an instance begins.
use Rattle.std.specs.Prelude.{◌≡◌, ℕ, false, Some, None}
use Rattle.wsyntax.specs.Modules.{module_shape}
use Rattle.wsyntax.specs.Execution.Store.{Store}
use Rattle.wsyntax.specs.StartRefusals.{refusal_of}
use Rattle.wsyntax.specs.Texts.Answer.{Limits}
use Rattle.accepted_module.specs.Judgement.{shapes_of}
use Rattle.accepted_module.specs.declared.accepted.Accepted.{Accepted as AcceptedModule}
use Rattle.batch_text.specs.declared.line.Line.{Line}
use Rattle.batch_text.specs.declared.line.Line.TheVariants.{Ran, NoExport, NotAFunction, BadArguments, NotStarted, NoMemory}
use Rattle.wmachine.specs.Starts.{StartsOnEach}
use Rattle.wstore.specs.Detached.{IsInstanceOf, store_as}
use Rattle.wstore.specs.declared.detached.Detached.{Detached}
use Rattle.wstore.specs.declared.fault.StartFault.{StartFault}
use Rattle.wstore.specs.declared.fault.StartFault.TheVariants.{Refused, Memory}
use Rattle.c_api.specs.Starts.{refusal_in}
use Rattle.c_api.specs.declared.ending.GateCall.{GateCall}

-- nothing refuses the instance, and its store is the one that the start function leaves, at the cost of k units of fuel
abbrev pub Begins : AcceptedModule → Limits → Detached → ℕ → Type 0
Begins a l d k =
    IsInstanceOf a d × (refusal_in l.pages a ≡ None) × (d.failed ≡ false)
    × StartsOnEach (module_shape a.«module») (shapes_of a.bodies.items) l (store_as a d) k None

-- the line says why there is no instance: it is refused, or memory ran out, or the start function does not end in values
abbrev pub FailsToBegin : AcceptedModule → Limits → Line → Type 0
FailsToBegin a l (NotStarted r) = refusal_in l.pages a ≡ Some (refusal_of r)
FailsToBegin a l NoMemory = refusal_in l.pages a ≡ None
FailsToBegin a l (Ran o k) =
    (refusal_in l.pages a ≡ None) × (s : Store) × StartsOnEach (module_shape a.«module») (shapes_of a.bodies.items) l s k (Some o)
FailsToBegin a l NoExport = ⊥
FailsToBegin a l NotAFunction = ⊥
FailsToBegin a l BadArguments = ⊥

-- the fields of a start that ends well, at the cost of k units of fuel
abbrev pub begun_fields : ℕ → GateCall
begun_fields k = record { end = 0; reason = 0; place = 0; fuel = k; results = 0 }

-- the line says why there is no instance
abbrev pub IsLineOf : StartFault → Line → Type 0
IsLineOf (Refused r) line = line ≡ NotStarted r
IsLineOf Memory line = line ≡ NoMemory
