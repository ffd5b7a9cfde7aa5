-- 4.2.10 What an instance exports.
use Rattle.std.specs.Prelude.{◌≡◌, ℕ, List, Option, Some, None, slice_get}
use Rattle.wsyntax.specs.declared.module.ExportKind.TheVariants.{Global}
use Rattle.wsyntax.specs.declared.value.Value.{Value}
use Rattle.wsyntax.specs.Modules.{ModuleShape}
use Rattle.wsyntax.specs.Execution.Store.{Store}
use Rattle.accepted_module.specs.Exports.{IsExported}

-- 4.2.9 the value of the global that is exported under that name; or no global is
abbrev pub IsGlobalOf : ModuleShape → Store → List ℕ → Option Value → Type 0
IsGlobalOf m s name (Some v) = (x : ℕ) × IsExported m name Global x × (slice_get s.globals x ≡ Some v)
IsGlobalOf m s name None = (x : ℕ) → IsExported m name Global x → ⊥
