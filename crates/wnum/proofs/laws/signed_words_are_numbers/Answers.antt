use Rattle.wnum.proofs.Signs.{signs_invert, compares_signed}
use Rattle.wnum.proofs.laws.signed_words_are_numbers.Goals as goal

pub returns : goal.returns
returns c = record { inverse = signs_invert; compared = compares_signed }
