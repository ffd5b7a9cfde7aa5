-- 4.5.4 When each fault of an instance comes.
-- The first refusal of the start comes; or out of memory, where nothing refuses the start.
use Rattle.std.specs.Prelude.{◌≡◌, ℕ, List, Some, None}
use Rattle.wsyntax.specs.Modules.{ModuleShape, BodyShape}
use Rattle.wsyntax.specs.Execution.Start.{start_refusal}
use Rattle.wsyntax.specs.StartRefusals.{refusal_of}
use Rattle.wstore.specs.declared.fault.StartFault.{StartFault}
use Rattle.wstore.specs.declared.fault.StartFault.TheVariants.{Refused, Memory}

-- the refusal is the definition's; there is not enough memory only where nothing refuses the instance
abbrev pub IsFault : ℕ → ModuleShape → List BodyShape → StartFault → Type 0
IsFault pages m bodies (Refused r) = start_refusal pages m bodies ≡ Some (refusal_of r)
IsFault pages m bodies Memory = start_refusal pages m bodies ≡ None
