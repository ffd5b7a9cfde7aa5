-- 5.5.15 What the first bytes tell of bytes that spell no module.
use Rattle.std.specs.Prelude.{◌≡◌, ◌≢◌, ◌<◌, ◌≤◌, ℕ, List, Some, IfSome, length, slice_get}
use Rattle.wsyntax.specs.Binary.Shell.{header}
use Rattle.explanation.specs.declared.explanation.NoModule.{NoModule}
use Rattle.explanation.specs.declared.explanation.NoModule.TheVariants.{Short, Magic, Version, Sections}
use Rattle.explain_bytes.specs.Shells.{TellsLocation}
use Rattle.explain.specs.Forms.{HasForm}

-- the byte at that offset is this one, and another than in the header of a module
abbrev pub IsOther : List ℕ → ℕ → ℕ → Type 0
IsOther bytes at found = (slice_get bytes at ≡ Some found) × (slice_get header at ≢ Some found)

-- what is told of the first bytes is so
abbrev pub TellsHeader : List ℕ → NoModule → Type 0
TellsHeader bytes Short = length bytes < 8
TellsHeader bytes (Magic at found form) = (at < 4) × IsOther bytes at found × IfSome form (HasForm bytes)
TellsHeader bytes (Version at found form) = (4 ≤ at) × IsOther bytes at found × IfSome form (HasForm bytes)
TellsHeader bytes (Sections location sign) = IfSome location (TellsLocation bytes)
