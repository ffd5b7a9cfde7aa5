-- What a refusal says of a module.
use Rattle.std.specs.Prelude.{Option, Some, None}
use Rattle.pieces.specs.declared.job.JobFault.{JobFault}
use Rattle.pieces.specs.declared.job.JobFault.TheVariants as job
use Rattle.pieces.specs.declared.trying.TryFault.{TryFault}
use Rattle.pieces.specs.declared.trying.TryFault.TheVariants as run
use Rattle.wsyntax.specs.Validation.Verdict.{Verdict, TooLarge, Malformed, RuleBroken, BodyRefused, BodyFault, BodyMalformed, TooManyLocals, IllTyped}
use Rattle.wdecode.specs.declared.fault.DecodeFault.{DecodeFault}
use Rattle.wdecode.specs.declared.fault.DecodeFault.TheVariants as decoding
use Rattle.wcontext.specs.declared.fault.ModuleFault.{ModuleFault}
use Rattle.wcontext.specs.declared.fault.ModuleFault.TheVariants as rules
use Rattle.refusal.specs.declared.refusal.BodyRefusal.{BodyRefusal}
use Rattle.refusal.specs.declared.refusal.BodyRefusal.TheVariants as body_refusal
use Rattle.refusal.specs.declared.refusal.Refusal.{Refusal}
use Rattle.refusal.specs.declared.refusal.Refusal.TheVariants as refusal

-- why a body is refused
abbrev pub fault_of : BodyRefusal → BodyFault
fault_of body_refusal.Malformed = BodyMalformed
fault_of body_refusal.TooManyLocals = TooManyLocals
fault_of (body_refusal.IllTyped at) = IllTyped at

-- the verdict that a refusal gives; out of memory gives none
abbrev pub verdict_of : Refusal → Option Verdict
verdict_of refusal.TooLarge = Some TooLarge
verdict_of refusal.Malformed = Some Malformed
verdict_of (refusal.Rule k) = Some (RuleBroken k)
verdict_of (refusal.Body func c) = Some (BodyRefused func (fault_of c))
verdict_of refusal.Memory = None

-- what decoding a module refuses
abbrev pub of_decoding : DecodeFault → Refusal
of_decoding decoding.TooLarge = refusal.TooLarge
of_decoding decoding.Malformed = refusal.Malformed
of_decoding decoding.Memory = refusal.Memory

-- what the rules of modules refuse
abbrev pub of_rules : ModuleFault → Refusal
of_rules (rules.Rule k) = refusal.Rule k
of_rules rules.Memory = refusal.Memory

-- what a run over all parts of a module refuses
abbrev pub of_run : TryFault Refusal → Refusal
of_run (run.Stopped i r) = r
of_run run.Memory = refusal.Memory

-- what a job says for a refusal
abbrev pub in_job : Refusal → JobFault Refusal
in_job refusal.TooLarge = job.Refused refusal.TooLarge
in_job refusal.Malformed = job.Refused refusal.Malformed
in_job (refusal.Rule k) = job.Refused (refusal.Rule k)
in_job (refusal.Body func c) = job.Refused (refusal.Body func c)
in_job refusal.Memory = job.Memory

-- a refusal that may be given; out of memory may always, and says nothing
abbrev pub AllowsRefusal : (Refusal → Type 0) → Refusal → Type 0
AllowsRefusal refuses refusal.TooLarge = refuses refusal.TooLarge
AllowsRefusal refuses refusal.Malformed = refuses refusal.Malformed
AllowsRefusal refuses (refusal.Rule k) = refuses (refusal.Rule k)
AllowsRefusal refuses (refusal.Body func c) = refuses (refusal.Body func c)
AllowsRefusal refuses refusal.Memory = Unit {0}
