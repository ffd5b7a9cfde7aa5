-- What a path of the system stands for.
use Rattle.std.specs.Prelude.{ℕ, List, Option}
use Rattle.program.specs.declared.disk.Opened.{Opened}
use Rattle.program.specs.declared.disk.Opened.TheVariants.{File, Input}

-- the bytes that are left of a file or of standard input, where they are known
abbrev pub opened_remaining : {F I : Type 0} → (F → Option (List ℕ)) → (I → Option (List ℕ)) → Opened F I → Option (List ℕ)
opened_remaining of_file of_input (File f) = of_file f
opened_remaining of_file of_input (Input i) = of_input i

-- standard input, and no file
abbrev pub IsInput : {F I : Type 0} → Opened F I → Type 0
IsInput (File f) = ⊥
IsInput (Input i) = Unit {0}
