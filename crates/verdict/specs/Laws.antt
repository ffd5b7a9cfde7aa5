-- What holds of verdicts, and of modules that bytes spell.
use Rattle.std.specs.Prelude.{◌≡◌, ℕ, ◌<◌, List, get_or}
use Rattle.wsyntax.specs.Modules.{ModuleShape}
use Rattle.wsyntax.specs.Binary.Shell.{Shell}
use Rattle.wsyntax.specs.Validation.Verdict.{Verdict, IsVerdict}
use Rattle.soundness.specs.Instances.{SegmentsAreBytes}

-- bytes have one verdict at most
abbrev pub OneVerdict : Type 0
OneVerdict = (bytes : List ℕ) (v w : Verdict) → IsVerdict bytes v → IsVerdict bytes w → v ≡ w

-- 5.2.1 where bytes spell a module, what its data segments hold are bytes
abbrev pub SegmentsHoldBytes : Type 0
SegmentsHoldBytes = (bytes : List ℕ) (m : ModuleShape) → Shell bytes m → ((k : ℕ) → get_or bytes k 0 < 256) → SegmentsAreBytes m
