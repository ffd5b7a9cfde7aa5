-- The parts of a report.
use Rattle.std.specs.Prelude.{◌≡◌, ℕ, ◌+◌, List, [], ◌∷◌, ◌++◌, length, flat_map, string_bytes}
use Rattle.wsyntax.specs.Texts.Report.{CallEnd, call_lines, total_of}
use Rattle.batch_text.specs.Totals.{tally, IsWithin}
use Rattle.batch_text.specs.declared.part.Part.{Part}

-- the part has the lines of calls that ended so, from index n on, and their counts
pub record IsPart (n : ℕ) (ends : List CallEnd) (p : Part) : Type 0 where
  pub lines : string_bytes p.text ≡ call_lines n ends
  pub calls : p.total.calls ≡ length ends
  pub counts : tally p.total ≡ total_of ends
  pub within : IsWithin p.total

-- the parts have the lines of calls that ended so, from index n on: the first part has those in front, and the others have the rest
abbrev pub AreParts : ℕ → List CallEnd → List Part → Type 0
AreParts n ends [] = ends ≡ []
AreParts n ends (p ∷ ps) = (front : List CallEnd) × (rest : List CallEnd) × (ends ≡ front ++ rest) × IsPart n front p × AreParts (n + length front) rest ps

-- the texts of the parts one after another
abbrev pub parts_text : List Part → List ℕ
parts_text parts = flat_map (λ p. string_bytes p.text) parts
