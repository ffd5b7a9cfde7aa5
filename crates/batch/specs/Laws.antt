-- What holds of answers.
use Rattle.std.specs.Prelude.{◌≡◌, ℕ, Bool, IsTrue, List}
use Rattle.wsyntax.specs.Texts.Answer.{Limits, IsAnswer}

-- the same bytes, text and limits have one answer, where the same calls ran out of memory
abbrev pub OneAnswer : Type 0
OneAnswer =
    (bytes text : List ℕ) (l : Limits) (short : ℕ → Bool) (out other : List ℕ) → IsAnswer bytes text l (λ n. IsTrue (short n)) out → IsAnswer bytes text l (λ n. IsTrue (short n)) other → out ≡ other
