-- A refusal that is handed on.
use Rattle.std.proofs.Common.{◌≡◌, sym, subst}
use Rattle.std.specs.Prelude.{Result, Ok, Err, MatchResult, IsErrAnd}
use Rattle.pieces.specs.declared.job.JobFault.{JobFault}
use Rattle.pieces.specs.Faults.{AllowsFault}
use Rattle.refusal.specs.declared.refusal.Refusal.{Refusal}
use Rattle.refusal.specs.declared.refusal.Refusal.TheVariants.{TooLarge, Malformed, Rule, Body, Memory}
use Rattle.refusal.specs.Refusals.{AllowsRefusal, in_job}

-- of what is refused that holds
pub handed_on : {T E : Type 0} (P : T → Type 0) (Q : E → Type 0) (r : Result T E) (x : E) → IsErrAnd r (λ y. y ≡ x) → Q x → MatchResult r P Q
handed_on P Q (Ok t) x is h = absurd is
handed_on P Q (Err y) x is h = subst Q (sym is) h

job_allows : (refuses : Refusal → Type 0) (x : Refusal) → AllowsRefusal refuses x → AllowsFault refuses (in_job x)
job_allows refuses TooLarge h = h
job_allows refuses Malformed h = h
job_allows refuses (Rule k) h = h
job_allows refuses (Body f c) h = h
job_allows refuses Memory h = tt

-- a job hands on what it judges is refused for
pub job_refused : {T : Type 0} (P : T → Type 0) (refuses : Refusal → Type 0) (r : Result T (JobFault Refusal)) (x : Refusal) → IsErrAnd r (λ y. y ≡ in_job x) → AllowsRefusal refuses x → MatchResult r P (AllowsFault refuses)
job_refused P refuses r x is h = handed_on P (AllowsFault refuses) r (in_job x) is (job_allows refuses x h)
