use Rattle.soundness.proofs.Chapter4.Leads.{effect_leads}
use Rattle.soundness.proofs.execution.effect_leads.Goals as goal

pub returns : goal.returns
returns c = effect_leads
