use Rattle.std.proofs.Common.{inr}
use Rattle.command.proofs.reading.asks_help.Goals as goal

pub returns-else-contains_word : goal.returns-else-contains_word
returns-else-contains_word c = λ said. inr (inr (rw (← c.option_words-options.ensures) (c.contains_front.ensures said)))
