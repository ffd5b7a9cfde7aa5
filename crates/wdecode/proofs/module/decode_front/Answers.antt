use Rattle.std.proofs.Common.{Err, ap}
use Rattle.wdecode.specs.declared.fault.Fault.{Fault}
use Rattle.wdecode.proofs.module.decode_front.Goals as goal

pub returns-in-Err-Malformed-clause-malformed : goal.returns-in-Err-Malformed-clause-malformed
returns-in-Err-Malformed-clause-malformed c = λ _ m s. c.in-Err-Malformed.ensures.malformed (ap (λ (f : Fault). Err f) c.in-Err-Malformed.field-0-is) m s
