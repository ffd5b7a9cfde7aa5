-- What is read of a source, and in which order.
use Rattle.std.specs.Prelude.{◌≡◌, ◌⊎◌, ℕ, ◌+◌, List, [], ◌∷◌, Option, Result, Ok, Err, IfSome, take}
use Rattle.batch.specs.declared.status.Status.{Status}
use Rattle.program.specs.Sources.{ReadsPaths}
use Rattle.program.specs.declared.fault.ProgramFault.{ProgramFault}
use Rattle.program.specs.declared.fault.ProgramFault.TheVariants as fault

-- what is read of a path that holds this: no more than one byte past the limit
abbrev pub IsRead : ℕ → Option (List ℕ) → List ℕ → Type 0
IsRead limit held bytes = IfSome held (λ all. bytes ≡ take (limit + 1) all)

-- the file of this path cannot be read, or there is no memory for it
abbrev pub IsWant : List ℕ → ProgramFault → Type 0
IsWant path (fault.Unread p reason) = p.now ≡ path
IsWant path fault.Memory = Unit {0}
IsWant path _ = ⊥

-- the module is asked for first, and then the calls: both before anything is written, and the calls only where the module was had
abbrev pub ReadsInOrder : List ℕ → List ℕ → Option (List (List ℕ)) → Option (List (List ℕ)) → Result Status ProgramFault → Type 0
ReadsInOrder first second old new (Ok _) = ReadsPaths old new (first ∷ second ∷ [])
ReadsInOrder first second old new (Err fault.Write) = ReadsPaths old new (first ∷ second ∷ [])
ReadsInOrder first second old new (Err f) = (IsWant first f × ReadsPaths old new (first ∷ [])) ⊎ (IsWant second f × ReadsPaths old new (first ∷ second ∷ []))
