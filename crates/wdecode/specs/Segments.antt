-- 5.5.12 Element segments as they are read into one list.
use Rattle.std.specs.Prelude.{◌≡◌, ℕ, List, [], ◌∷◌, ◌++◌, Option, Some, Result, Ok, Err}
use Rattle.wsyntax.specs.HeldElement.{HeldElement}
use Rattle.wsyntax.specs.Elements.{with_function}
use Rattle.wsyntax.specs.Modules.{ElementShape, element_shape}
use Rattle.wdecode.specs.declared.fault.Fault.{Fault}
use Rattle.wdecode.specs.Gives.{Fails}

-- these functions more in the last segment
abbrev pub with_functions : List HeldElement → List ℕ → List HeldElement
with_functions es [] = es
with_functions es (f ∷ fs) = with_functions (with_function es f) fs

-- the last segment has the functions that are read
abbrev pub GivesFunctions : {X : Type 0} → (X → List ℕ) → List HeldElement → List HeldElement
    → Result X Fault → Option (List ℕ × List ℕ) → Type 0
GivesFunctions view old new (Ok rest) read = (fs : List ℕ) × (read ≡ Some (fs, view rest)) × (new ≡ with_functions old fs)
GivesFunctions view old new (Err e) read = Fails e read

-- the segment that is read stands after the others
abbrev pub GivesElement : {X : Type 0} → (X → List ℕ) → List HeldElement → List HeldElement
    → Result X Fault → Option (ElementShape × List ℕ) → Type 0
GivesElement view old new (Ok rest) read = (e : HeldElement) × (read ≡ Some (element_shape e, view rest)) × (new ≡ old ++ e ∷ [])
GivesElement view old new (Err e) read = Fails e read
