use Rattle.soundness.proofs.Samples.{control_examples, limit_examples, division_examples, memory_examples, table_examples}
use Rattle.soundness.proofs.examples.calls.Goals as goal

pub returns : goal.returns
returns c = record { control = control_examples; limits = limit_examples; division = division_examples; memory = memory_examples; table = table_examples }
