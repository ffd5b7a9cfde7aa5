use Rattle.soundness.proofs.CallTexts.{line_examples, good_texts, bad_texts}
use Rattle.soundness.proofs.examples.call_texts.Goals as goal

pub returns : goal.returns
returns c = record { lines = line_examples; good = good_texts; bad = bad_texts }
