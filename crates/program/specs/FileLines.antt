-- The lines of a check of many files.
use Rattle.std.specs.Prelude.{◌≡◌, ◌⊎◌, ℕ, Bool, ◌&&◌, not, ◌==◌, List, [], ◌∷◌, ◌++◌, Option, Result, IsNone, IsSomeAnd, codes, flat_map, map, nat_le, if◌then◌else◌}
use Rattle.wsyntax.specs.Binary.Shell.{module_limit}
use Rattle.wsyntax.specs.Texts.Lines.{verdict_line}
use Rattle.wsyntax.specs.Validation.Verdict.{Verdict, Accepted as accepted}
use Rattle.refusal.specs.declared.refusal.Refusal.{Refusal}
use Rattle.program.specs.Verdicts.{AreVerdicts}
use Rattle.batch.specs.Report.{given_verdict}
use Rattle.explain_text.specs.Texts.{hex_pair}
use Rattle.program.specs.Checks.{Judges}
use Rattle.program.specs.Reads.{IsRead}
use Rattle.program.specs.Sources.{reason_text}
use Rattle.program.specs.declared.file_outcome.FileOutcome.{FileOutcome}
use Rattle.program.specs.declared.file_outcome.FileOutcome.TheVariants.{Accepted, Refused, Unread}
use Rattle.program.specs.declared.source.Reason.{Reason}
use Rattle.program.specs.declared.taking.Taken.{Taken}
use Rattle.program.specs.declared.taking.Taken.TheVariants as taken

-- a byte that stands for itself: no control character and no backslash
abbrev pub is_shown : ℕ → Bool
is_shown b = nat_le 0x20 b && (not (b == 0x7F) && not (b == 0x5C))

-- any other as two digits after a backslash
abbrev pub shown_byte : ℕ → List ℕ
shown_byte b = if is_shown b then b ∷ [] else 0x5C ∷ hex_pair b

abbrev pub shown_name : List ℕ → List ℕ
shown_name name = flat_map shown_byte name

-- what comes of a module with this verdict
abbrev pub outcome_of : Verdict → FileOutcome
outcome_of accepted = Accepted
outcome_of _ = Refused

-- the one with the greater status
abbrev pub worse : FileOutcome → FileOutcome → FileOutcome
worse Unread p = Unread
worse p Unread = Unread
worse Refused p = Refused
worse p Refused = Refused
worse Accepted Accepted = Accepted

-- a line: the name, a tab, and an end with its newline
abbrev pub file_line : List ℕ → List ℕ → List ℕ
file_line name end = shown_name name ++ (9 ∷ end)

-- the end of the line of a file that cannot be read
abbrev pub unread_end : Reason → List ℕ
unread_end reason = codes "cannot read: " ++ (reason_text reason ++ (10 ∷ []))

-- the line of a file of this name that holds this, and what comes of it
abbrev pub IsFileLine : Option (List ℕ) → List ℕ → List ℕ → FileOutcome → Type 0
IsFileLine held name line file_outcome =
    ((v : Verdict) × Judges held v × (line ≡ file_line name (verdict_line v)) × (file_outcome ≡ outcome_of v))
    ⊎ ((reason : Reason) × IsNone held × (line ≡ file_line name (unread_end reason)) × (file_outcome ≡ Unread))

-- the lines of files of these names, in their order, and what comes of all
abbrev pub AreFileLines : (List ℕ → Option (List ℕ)) → List (List ℕ) → List ℕ → FileOutcome → Type 0
AreFileLines holds [] text file_outcome = (text ≡ []) × (file_outcome ≡ Accepted)
AreFileLines holds (name ∷ names) text file_outcome =
    (line : List ℕ) × (rest : List ℕ) × (p : FileOutcome) × (q : FileOutcome)
    × IsFileLine (holds name) name line p × AreFileLines holds names rest q × (text ≡ line ++ rest) × (file_outcome ≡ worse p q)

-- By what was read and judged.

-- what was read of a path that holds this
abbrev pub IsTaken : Option (List ℕ) → Taken → Type 0
IsTaken held (taken.Bytes bytes) = IsRead module_limit held bytes.items
IsTaken held (taken.Unread reason) = IsNone held

-- the same of many
abbrev pub AreTaken : (List ℕ → Option (List ℕ)) → List (List ℕ) → List Taken → Type 0
AreTaken holds [] [] = Unit {0}
AreTaken holds [] (t ∷ ts) = ⊥
AreTaken holds (n ∷ ns) [] = ⊥
AreTaken holds (n ∷ ns) (t ∷ ts) = IsTaken (holds n) t × AreTaken holds ns ts

-- the bytes that are judged: none of a file that cannot be read
abbrev pub taken_bytes : Taken → List ℕ
taken_bytes (taken.Bytes bytes) = bytes.items
taken_bytes (taken.Unread reason) = []

-- the end of the line of what was read and so judged
abbrev pub IsTakenEnd : Taken → Result (Unit {0}) Refusal → List ℕ → FileOutcome → Type 0
IsTakenEnd (taken.Bytes bytes) judged end file_outcome = IsSomeAnd (given_verdict judged) (λ v. (end ≡ verdict_line v) × (file_outcome ≡ outcome_of v))
IsTakenEnd (taken.Unread reason) judged end file_outcome = (end ≡ unread_end reason) × (file_outcome ≡ Unread)

-- the whole line
abbrev pub IsTakenLine : List ℕ → Taken → Result (Unit {0}) Refusal → List ℕ → FileOutcome → Type 0
IsTakenLine name t judged line file_outcome = (end : List ℕ) × IsTakenEnd t judged end file_outcome × (line ≡ file_line name end)

-- the same of many
abbrev pub AreTakenLines : List (List ℕ) → List Taken → List (Result (Unit {0}) Refusal) → List ℕ → FileOutcome → Type 0
AreTakenLines [] [] [] text file_outcome = (text ≡ []) × (file_outcome ≡ Accepted)
AreTakenLines (n ∷ ns) (t ∷ ts) (j ∷ js) text file_outcome =
    (line : List ℕ) × (rest : List ℕ) × (p : FileOutcome) × (q : FileOutcome)
    × IsTakenLine n t j line p × AreTakenLines ns ts js rest q × (text ≡ line ++ rest) × (file_outcome ≡ worse p q)
AreTakenLines _ _ _ text file_outcome = ⊥

-- the same by some verdicts on what was read
abbrev pub AreJudgedLines : List (List ℕ) → List Taken → List ℕ → FileOutcome → Type 0
AreJudgedLines names taken text file_outcome = (judged : List (Result (Unit {0}) Refusal)) × AreVerdicts (map taken_bytes taken) judged × AreTakenLines names taken judged text file_outcome
