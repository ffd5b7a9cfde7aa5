use Rattle.std.proofs.Common.{Err, ap}
use Rattle.wdecode.specs.declared.fault.Fault.{Fault}
use Rattle.verdict.proofs.Parts.{early_for}
use Rattle.verdict.proofs.head.refused_early.Goals as goal
use Rattle.verdict.proofs.head.refused_early.Goals.{in-Ok, in-Err-Malformed, in-Err-Memory}

pub returns : goal.returns
returns c =
    elim c.match-whole.branch [
      | in-Ok w ↦ rw (w.result-is, w.into.ensures) (early_for c.args.front _ c.args.fault w.in-Ok.ensures.found)
      | in-Err-Malformed w ↦ rw w.result-is (λ m is. w.in-Err-Malformed.ensures.malformed (ap (λ (f : Fault). Err f) w.in-Err-Malformed.field-0-is) is.0 is.1)
      | in-Err-Memory w ↦ rw w.result-is tt
    ]
