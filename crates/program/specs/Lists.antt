-- What a list of exports leaves.
use Rattle.std.specs.Prelude.{◌≡◌, ℕ, List, Option, Result, Ok, Err, String, string_bytes}
use Rattle.std.specs.declared.alloc.AllocError.{AllocError}
use Rattle.std.specs.declared.alloc.Global.{Global}
use Rattle.std.specs.Io.KnownBytes.{Keeps, Appends}
use Rattle.wsyntax.specs.Binary.Shell.{module_limit}
use Rattle.wsyntax.specs.Modules.{module_shape}
use Rattle.wsyntax.specs.Execution.Start.{start_refusal}
use Rattle.wsyntax.specs.Texts.Lines.{verdict_line}
use Rattle.wsyntax.specs.Validation.ModuleContext.{module_context}
use Rattle.wsyntax.specs.Validation.Verdict.{Verdict, Accepted, IsVerdict}
use Rattle.accepted_module.specs.Judgement.{shapes_of}
use Rattle.accepted_module.specs.Kept.{IsAcceptedFrom}
use Rattle.accepted_module.specs.declared.accepted.Accepted.{Accepted as AcceptedModule}
use Rattle.batch.specs.Output.{AppendsFront}
use Rattle.batch.specs.Report.{status_of}
use Rattle.batch.specs.declared.status.Status.{Status}
use Rattle.explain_run.specs.Exports.{IsExportsText}
use Rattle.program.specs.Reads.{IsRead}
use Rattle.program.specs.declared.fault.ProgramFault.{ProgramFault}
use Rattle.program.specs.declared.fault.ProgramFault.TheVariants as fault

-- the lines of the imports and exports of that module, and the one on its start within the pages that a call has where the words say none
abbrev pub IsListOf : AcceptedModule → List ℕ → Type 0
IsListOf a text =
    let m = module_shape a.«module» in IsExportsText (module_context m) (start_refusal 256 m (shapes_of a.bodies.items)) m text

-- of an accepted module the list of its exports, of a refused one its verdict line
abbrev pub IsListBy : List ℕ → Verdict → List ℕ → Type 0
IsListBy bytes Accepted text = (a : AcceptedModule) × IsAcceptedFrom bytes a × IsListOf a text
IsListBy bytes v text = text ≡ verdict_line v

-- the list on what is read of a path that holds this
pub record IsList (held : Option (List ℕ)) (v : Verdict) (text : List ℕ) : Type 0 where
  pub bytes : List ℕ
  pub read : IsRead module_limit held bytes
  pub verdict : IsVerdict bytes v
  pub list : IsListBy bytes v text

-- the list on a path that holds this is written, with the status of the verdict; where there is none, nothing is written
abbrev pub Lists : Option (List ℕ) → Option (List ℕ) → Option (List ℕ) → Result Status ProgramFault → Type 0
Lists held old new (Ok status) = (v : Verdict) × (text : List ℕ) × IsList held v text × (status ≡ status_of v) × Appends old new text
Lists held old new (Err fault.Write) = (v : Verdict) × (text : List ℕ) × IsList held v text × AppendsFront old new text
Lists held old new (Err _) = Keeps old new

-- a text is written, with that status, or a beginning of it where a write failed; where there was no memory for it, nothing is written
abbrev pub ShowsText : Result (String Global) AllocError → Status → Option (List ℕ) → Option (List ℕ) → Result Status ProgramFault → Type 0
ShowsText (Ok text) status old new (Ok ended) = (ended ≡ status) × Appends old new (string_bytes text)
ShowsText (Ok text) status old new (Err fault.Write) = AppendsFront old new (string_bytes text)
ShowsText (Ok text) status old new (Err _) = ⊥
ShowsText (Err e) status old new r = (r ≡ Err fault.Memory) × Keeps old new
