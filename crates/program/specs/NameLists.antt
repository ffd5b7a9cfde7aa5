-- Names of files: those that standard input holds, and what they stand for.
use Rattle.std.specs.Prelude.{◌≡◌, ℕ, Bool, true, false, ◌==◌, List, [], ◌∷◌, ◌++◌, Option, IfSome, if◌then◌else◌}
use Rattle.program.specs.declared.fault.ProgramFault.{ProgramFault}
use Rattle.program.specs.declared.fault.ProgramFault.TheVariants as fault

-- the byte that ends a name
abbrev pub name_end : Bool → ℕ
name_end is_null = if is_null then 0 else 10

-- the name that no byte ends
abbrev pub last_name : List ℕ → List (List ℕ)
last_name [] = []
last_name (b ∷ part) = (b ∷ part) ∷ []

-- the names in these bytes, each ended by that byte, after the part of a name that was read; the last one may be ended by the end
abbrev pub listed_names : ℕ → List ℕ → List ℕ → List (List ℕ)
listed_names end part [] = last_name part
listed_names end part (b ∷ bytes) = if b == end then part ∷ listed_names end [] bytes else listed_names end (part ++ (b ∷ [])) bytes

-- a name is no text, or there is no memory
abbrev pub IsNameFault : ProgramFault → Type 0
IsNameFault fault.Names = Unit {0}
IsNameFault fault.Memory = Unit {0}
IsNameFault _ = ⊥

-- the files that these names stand for: themselves; or where folders are walked, what each stands for, where that is known
abbrev pub IsSpread : Bool → (List ℕ → Option (List (List ℕ))) → List (List ℕ) → List (List ℕ) → Type 0
IsSpread false lists names files = files ≡ names
IsSpread true lists [] files = files ≡ []
IsSpread true lists (name ∷ names) files =
    (here : List (List ℕ)) × (rest : List (List ℕ)) × IfSome (lists name) (λ held. here ≡ held) × IsSpread true lists names rest × (files ≡ here ++ rest)
