-- The object of an explanation.
use Rattle.std.specs.Prelude.{◌≡◌, ℕ, List, ◌++◌, Some, codes}
use Rattle.json.specs.Json.{Members, document, member, object, string}
use Rattle.wsyntax.specs.Texts.Lines.{verdict_text}
use Rattle.wsyntax.specs.Texts.Words.{newline}
use Rattle.wsyntax.specs.Validation.Verdict.{Verdict}

-- RFC 8259: the text is one JSON object and a newline, and the first member is the verdict
abbrev pub IsVerdictObject : Verdict → List ℕ → Type 0
IsVerdictObject v text = (bytes : List ℕ) × (others : Members) × (text ≡ bytes ++ newline) × (document bytes ≡ Some (object (member (codes "verdict") (string (verdict_text v)) others)))
