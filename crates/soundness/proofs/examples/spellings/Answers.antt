use Rattle.soundness.proofs.Spellings.{unsigned_spellings, signed_spellings, block_type_readings, name_spellings}
use Rattle.soundness.proofs.examples.spellings.Goals as goal

pub returns : goal.returns
returns c = record { unsigned = unsigned_spellings; signed = signed_spellings; block_types = block_type_readings; names = name_spellings }
