-- What is told of a bad line of a text of calls.
use Rattle.std.specs.Prelude.{◌≢◌, ℕ, List}
use Rattle.wsyntax.specs.declared.value.Value.{Value}
use Rattle.wsyntax.specs.Execution.Values.{IsWord}
use Rattle.wsyntax.specs.Texts.Words.{value_text}
use Rattle.batch_text.specs.declared.line_faults.LineFault.{LineFault}
use Rattle.batch_text.specs.declared.line_faults.LineFault.TheVariants.{Word}

-- the word is the text of no value
abbrev pub SaysNone : List ℕ → Type 0
SaysNone word = (v : Value) → IsWord v → word ≢ value_text v

-- a word that is named is the text of no value
abbrev pub TellsLine : LineFault → Type 0
TellsLine (Word number word fault) = SaysNone word.now
TellsLine _ = Unit {0}
