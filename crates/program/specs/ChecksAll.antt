-- What a check of many files leaves.
use Rattle.std.specs.Prelude.{◌≡◌, ◌⊎◌, ℕ, Bool, List, [], ◌∷◌, Option, Result, Ok, Err, codes, take}
use Rattle.std.specs.Io.KnownBytes.{Keeps, Appends}
use Rattle.batch.specs.Output.{AppendsFront}
use Rattle.batch.specs.declared.status.Status.{Status}
use Rattle.batch.specs.declared.status.Status.TheVariants.{Good, ModuleRefused}
use Rattle.program.specs.FileLines.{AreFileLines}
use Rattle.program.specs.NameLists.{IsNameFault, IsSpread, listed_names, name_end}
use Rattle.program.specs.Reads.{IsRead, IsWant}
use Rattle.program.specs.Sources.{ReadsPaths}
use Rattle.program.specs.declared.fault.ProgramFault.{ProgramFault}
use Rattle.program.specs.declared.fault.ProgramFault.TheVariants as fault
use Rattle.program.specs.declared.file_outcome.FileOutcome.{FileOutcome}
use Rattle.program.specs.declared.file_outcome.FileOutcome.TheVariants.{Accepted, Refused, Unread}

-- each of these files is asked for, in their order, and their lines are written; this comes of all
pub record PrintsFiles (holds : List ℕ → Option (List ℕ)) (files : List (List ℕ)) (asked asked' : Option (List (List ℕ))) (old new : Option (List ℕ)) (file_outcome : FileOutcome) : Type 0 where
  pub text : List ℕ
  pub lines : AreFileLines holds files text file_outcome
  pub in_order : ReadsPaths asked asked' files
  pub written : Appends old new text

-- the first of them are asked for, and of the lines of the first this is written
pub record BeginsFiles (holds : List ℕ → Option (List ℕ)) (files : List (List ℕ)) (asked asked' : Option (List (List ℕ))) (Written : List ℕ → Type 0) : Type 0 where
  pub count : ℕ
  pub asked_count : ℕ
  pub file_outcome : FileOutcome
  pub text : List ℕ
  pub lines : AreFileLines holds (take count files) text file_outcome
  pub in_order : ReadsPaths asked asked' (take asked_count files)
  pub written : Written text

-- where a write failed a beginning of the lines of the first files is written, and where memory was wanted whole lines of the first
abbrev pub BeginsBy : (List ℕ → Option (List ℕ)) → List (List ℕ) → Option (List (List ℕ)) → Option (List (List ℕ)) → Option (List ℕ) → Option (List ℕ) → ProgramFault → Type 0
BeginsBy holds files asked asked' old new fault.Write = BeginsFiles holds files asked asked' (AppendsFront old new)
BeginsBy holds files asked asked' old new fault.Memory = BeginsFiles holds files asked asked' (Appends old new)
BeginsBy holds files asked asked' old new f = ⊥

-- how the program ends where this comes of all files
abbrev pub outcome_result : FileOutcome → Result Status ProgramFault
outcome_result Accepted = Ok Good
outcome_result Refused = Ok ModuleRefused
outcome_result Unread = Err fault.SomeUnread

-- these files are checked: all lines are written, and the end is by what comes of all; or not all
abbrev pub ChecksFiles : (List ℕ → Option (List ℕ)) → List (List ℕ) → Option (List (List ℕ)) → Option (List (List ℕ)) → Option (List ℕ) → Option (List ℕ) → Result Status ProgramFault → Type 0
ChecksFiles holds files asked asked' old new r =
    ((file_outcome : FileOutcome) × (r ≡ outcome_result file_outcome) × PrintsFiles holds files asked asked' old new file_outcome)
    ⊎ ((f : ProgramFault) × (r ≡ Err f) × BeginsBy holds files asked asked' old new f)

-- the files that names stand for are checked; or there is no memory for their names, and nothing is asked for or written
abbrev pub ChecksNames : (List (List ℕ) → Type 0) → (List ℕ → Option (List ℕ)) → Option (List (List ℕ)) → Option (List (List ℕ)) → Option (List ℕ) → Option (List ℕ) → Result Status ProgramFault → Type 0
ChecksNames StandFor holds asked asked' old new r =
    ((files : List (List ℕ)) × StandFor files × ChecksFiles holds files asked asked' old new r)
    ⊎ ((r ≡ Err fault.Memory) × ReadsPaths asked asked' [] × Keeps old new)

-- where standard input is read
abbrev pub input_path : List ℕ
input_path = codes "/dev/stdin"

-- of names all bytes are read: no memory holds more
abbrev pub list_limit : ℕ
list_limit = 0x7FFFFFFFFFFFFFF0

-- standard input is asked for, and then the files that the names in it stand for are checked; or it gives no names, and nothing is written
abbrev pub ChecksListed : Bool → Bool → (List ℕ → Option (List ℕ)) → (List ℕ → Option (List (List ℕ))) → Option (List (List ℕ)) → Option (List (List ℕ)) → Option (List ℕ) → Option (List ℕ) → Result Status ProgramFault → Type 0
ChecksListed is_null folders holds lists asked asked' old new r =
    (mid : Option (List (List ℕ))) × ReadsPaths asked mid (input_path ∷ [])
    × (((bytes : List ℕ) × IsRead list_limit (holds input_path) bytes
    × ChecksNames (IsSpread folders lists (listed_names (name_end is_null) [] bytes)) holds mid asked' old new r)
    ⊎ ((f : ProgramFault) × (r ≡ Err f) × (IsWant input_path f ⊎ IsNameFault f) × (asked' ≡ mid) × Keeps old new))
