-- What a writer holds after a failed write.
use Rattle.std.specs.Prelude.{◌≡◌, ◌≢◌, ℕ, List, [], ◌++◌, Option}
use Rattle.std.specs.Io.KnownBytes.{Keeps, Appends}
use Rattle.batch.specs.declared.status.AnswerFault.{AnswerFault}
use Rattle.batch.specs.declared.status.AnswerFault.TheVariants.{Memory, Write}

-- known bytes grow by a beginning of the text
abbrev pub AppendsFront : Option (List ℕ) → Option (List ℕ) → List ℕ → Type 0
AppendsFront old new text = (front : List ℕ) × (rest : List ℕ) × (text ≡ front ++ rest) × Appends old new front

-- by a beginning that is not the whole text
abbrev pub AppendsLess : Option (List ℕ) → Option (List ℕ) → List ℕ → Type 0
AppendsLess old new text = (front : List ℕ) × (rest : List ℕ) × (text ≡ front ++ rest) × (rest ≢ []) × Appends old new front

-- a text with P is not written whole; nothing is written when out of memory
abbrev pub FallsShort : (List ℕ → Type 0) → Option (List ℕ) → Option (List ℕ) → AnswerFault → Type 0
FallsShort P old new Write = (out : List ℕ) × P out × AppendsLess old new out
FallsShort P old new Memory = Keeps old new
