use Rattle.soundness.proofs.Samples.{report_examples, end_texts, verdict_texts}
use Rattle.soundness.proofs.examples.reports.Goals as goal

pub returns : goal.returns
returns c = record { reports = report_examples; ends = end_texts; verdicts = verdict_texts }
