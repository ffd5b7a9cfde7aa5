-- The text of an answer, which lies in parts.
use Rattle.std.specs.Prelude.{ℕ, List, ◌++◌, string_bytes}
use Rattle.batch_text.specs.Parts.{parts_text}
use Rattle.batch.specs.declared.answering.Written.{Written}

abbrev pub text_of : Written → List ℕ
text_of a = parts_text a.parts.items ++ string_bytes a.last
