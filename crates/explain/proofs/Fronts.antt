-- What is so of the front of a module is so of the module.
use Rattle.std.proofs.Common.{◌≡◌, ℕ, List, sym, subst}
use Rattle.std.specs.Prelude.{◌↔◌, Result, Ok, Err, IfOk}
use Rattle.std.specs.declared.alloc.AllocError.{AllocError}
use Rattle.wsyntax.specs.Modules.{ModuleShape, DataShape, module_shape}
use Rattle.wsyntax.specs.Binary.Shell.{Shell}
use Rattle.wdecode.specs.declared.front.ModuleHead.{ModuleHead}
use Rattle.wdecode.specs.Fronts.{EndsFront, with_segments}
use Rattle.explanation.specs.declared.explanation.RefusedFunction.{RefusedFunction}
use Rattle.explain.specs.Placed.{IsSo, IsSoIn}

-- data segments are not spoken of
with_others : (bytes : List ℕ) (m : ModuleShape) (segments : List DataShape) (r : RefusedFunction) → IsSoIn bytes m r → IsSoIn bytes (with_segments m segments) r
with_others bytes m segments r so = record { «export» = so.«export»; signature = so.signature; body = so.body }

pub so_of_each : (bytes : List ℕ) (f : ModuleHead) (r : Result RefusedFunction AllocError)
    → ((m : ModuleShape) → Shell bytes m ↔ ((segments : List DataShape) × EndsFront f segments × (m ≡ with_segments (module_shape f.«module») segments)))
    → IfOk r (IsSoIn bytes (module_shape f.«module»)) → IfOk r (IsSo bytes)
so_of_each bytes f (Ok r) whole so =
    λ m shell. let w = (whole m).0 shell in
    subst (λ (n : ModuleShape). IsSoIn bytes n r) (sym w.2) (with_others bytes (module_shape f.«module») w.0 r so)
so_of_each bytes f (Err e) whole so = tt
