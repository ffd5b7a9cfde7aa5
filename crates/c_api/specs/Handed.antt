-- What is handed to C behind a pointer.
use Rattle.std.specs.Prelude.{◌≡◌, ◌≢◌, ◌⊎◌, ℕ, List, length, IsSomeAnd, string_bytes}
use Rattle.accepted_module.specs.declared.accepted.Accepted.{Accepted as AcceptedModule}
use Rattle.batch.specs.declared.status.Status.{Status}
use Rattle.c_api.specs.declared.kept.Kept.{Kept}
use Rattle.c_api.specs.declared.module.ModuleSlot.{ModuleSlot}
use Rattle.c_api.specs.declared.report.ReportSlot.{ReportSlot}
use Rattle.c_api.specs.Statuses.{code_of}
use Rattle.c_api.specs.Texts.{IsWritten, Misses}

-- the handle that is written owns a module with P; or the slot is as it was
abbrev pub HandsModule : (AcceptedModule → Type 0) → ModuleSlot → ModuleSlot → ℕ → Type 0
HandsModule P old new answered = ((answered ≡ 0) × IsSomeAnd new.value (λ h. P h.accepted.value)) ⊎ ((answered ≢ 0) × (new ≡ old))

-- an answer with this text and status
abbrev pub IsOfText : List ℕ → Status → Kept → Type 0
IsOfText text status kept = (string_bytes kept.answer.text ≡ text) × (kept.answer.status ≡ status)

-- the text is written, and its length; or the buffer is short, only the length is written, and the handle that is written owns the answer
abbrev pub HandsOrKeeps : List ℕ → Status → List ℕ → List ℕ → ℕ → ReportSlot → ReportSlot → ℕ → Type 0
HandsOrKeeps text status old new now was kept answered =
    (now ≡ length text) × (((answered ≡ code_of status) × IsWritten text old new × (kept ≡ was))
    ⊎ ((answered ≡ 75) × Misses text old new × IsSomeAnd kept.value (IsOfText text status)))
