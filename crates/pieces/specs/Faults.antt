-- The faults that a job's meaning allows.
use Rattle.pieces.specs.declared.job.JobFault.{JobFault}
use Rattle.pieces.specs.declared.job.JobFault.TheVariants.{Refused, Memory}

-- a refusal with a fault of the meaning; out of memory may come at every index
abbrev pub AllowsFault : {F : Type 0} → (F → Type 0) → JobFault F → Type 0
AllowsFault refuses (Refused f) = refuses f
AllowsFault refuses Memory = Unit {0}
