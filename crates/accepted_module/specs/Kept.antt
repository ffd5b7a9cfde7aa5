-- What is kept of a module that is accepted.
-- The bytes spell the module, and of each body the checked one is that of its bytes.
use Rattle.std.specs.Prelude.{◌≡◌, ◌-◌, ℕ, List, Option, Some, None, length, slice_get, nat_lt, if◌then◌else◌}
use Rattle.wsyntax.specs.Modules.{module_shape}
use Rattle.wsyntax.specs.Binary.Shell.{Shell}
use Rattle.wsyntax.specs.Validation.ModuleContext.{module_context, imported_functions, indexed_context}
use Rattle.checked_body.specs.declared.body.CheckedBody.{CheckedBody}
use Rattle.accepted_module.specs.Judgement.{AreChecked}
use Rattle.accepted_module.specs.declared.accepted.Accepted.{Accepted}

-- the module that the bytes spell, its context, and of each body the checked one
pub record IsAcceptedFrom (bytes : List ℕ) (a : Accepted) : Type 0 where
  pub shell : Shell bytes (module_shape a.«module»)
  pub context : a.context ≡ indexed_context (module_shape a.«module»)
  pub bodies : let m = module_shape a.«module» in AreChecked (module_context m) (length (imported_functions m)) m.bodies (length m.bodies) a.bodies.items

-- 2.5.1 the checked body of a function, imported ones counted
abbrev pub body_at : ℕ → List CheckedBody → ℕ → Option CheckedBody
body_at imported bodies f = if nat_lt f imported then None else slice_get bodies (f - imported)

-- the index among the bodies of the body of a function, imported ones counted
abbrev pub body_index : ℕ → ℕ → Option ℕ
body_index imported f = if nat_lt f imported then None else Some (f - imported)
