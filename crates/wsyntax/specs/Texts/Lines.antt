-- The verdict line.
use Rattle.std.specs.Prelude.{ℕ, List, ◌++◌, codes, decimal}
use Rattle.wsyntax.specs.Texts.Words.{newline}
use Rattle.wsyntax.specs.Validation.Verdict.{BodyFault, BodyMalformed, TooManyLocals, IllTyped, Verdict, Accepted, TooLarge, Malformed, RuleBroken, BodyRefused}

-- why a body is refused
abbrev pub body_fault_text : BodyFault → List ℕ
body_fault_text BodyMalformed = codes "malformed"
body_fault_text TooManyLocals = codes "too-many-locals"
body_fault_text (IllTyped at) = codes "ill-typed at " ++ decimal at

-- the words of a verdict (docs/FORMATS.md)
abbrev pub verdict_text : Verdict → List ℕ
verdict_text Accepted = codes "accepted"
verdict_text TooLarge = codes "refused too-large"
verdict_text Malformed = codes "refused malformed"
verdict_text (RuleBroken k) = codes "refused rule " ++ decimal k
verdict_text (BodyRefused f fault) = codes "refused body " ++ (decimal f ++ (codes " " ++ body_fault_text fault))

-- the verdict line: its words and a newline
abbrev pub verdict_line : Verdict → List ℕ
verdict_line v = verdict_text v ++ newline
