-- Stores whose parts are equal; and the declared types of globals.
use Rattle.std.proofs.Common.{◌≡◌, ℕ, ◌<◌, Option, Some, List, [], ◌++◌, length, get_or, map, sym, ap, ◌∙◌}
use Rattle.std.specs.Prelude.{slice_get, option_map, filter_map}
use Rattle.std.proofs.Math.Logic.{∥∥₁_elim}
use Rattle.std.proofs.Props.{props}
use Rattle.std.proofs.lemmas.List.{length-map}
use Rattle.std.proofs.lemmas.Option.{slice_get-map, slice_get-get_or}
use Rattle.wsyntax.specs.declared.types.GlobalType.{GlobalType}
use Rattle.wsyntax.specs.declared.module.Global.{Global}
use Rattle.wsyntax.specs.declared.module.Module.{Module}
use Rattle.wsyntax.specs.Modules.{ModuleShape, BodyShape, GlobalShape, module_shape, global_shape}
use Rattle.wsyntax.specs.Validation.ModuleContext.{globals_of, imported_global}
use Rattle.wsyntax.specs.Execution.ConfigTyped.{global_types}
use Rattle.soundness.specs.Instances.{Runnable}
use Rattle.wsyntax.specs.Execution.Store.{Memory, Entry}
use Rattle.soundness.specs.Slots.{SlotStore}

-- stores whose parts are equal are equal
abbrev pub store : Option Memory → Option (List Entry) → List ℕ → SlotStore
store m t g = record { memory = m; table = t; globals = g }

pub joined : {m n : Option Memory} {t u : Option (List Entry)} {g h : List ℕ} → m ≡ n → t ≡ u → g ≡ h → store m t g ≡ store n u h
joined {m} {n} {t} {u} {g} {h} a b c = ap (λ x. store x t g) a ∙ ap (λ x. store n x g) b ∙ ap (λ x. store n u x) c

-- The declared types.

without_imports : (m : ModuleShape) → m.imports ≡ [] → globals_of m ≡ map (λ g. g.global_type) m.globals
without_imports m none = ap (λ i. filter_map (λ x. imported_global x.kind) i ++ map (λ g. g.global_type) m.globals) none

-- the context has the globals of the module
pub declared_count : (m : Module) (bodies : List BodyShape) → ∥ Runnable (module_shape m) bodies ∥₁ → length (globals_of (module_shape m)) ≡ length m.globals.items
declared_count m bodies runnable =
    ∥∥₁_elim runnable (hlevel props) (λ r.
    ap length (without_imports (module_shape m) r.no_imports) ∙ length-map (map global_shape m.globals.items) (λ g. g.global_type) ∙ length-map m.globals.items global_shape)

pub declared_at : (m : Module) (bodies : List BodyShape) (x : ℕ) (g : Global) → ∥ Runnable (module_shape m) bodies ∥₁ → x < length m.globals.items → g ≡ get_or m.globals.items x g
    → slice_get (global_types (globals_of (module_shape m))) x ≡ Some g.global_type.val_type
declared_at m bodies x g runnable below is =
    let here : slice_get m.globals.items x ≡ Some g = slice_get-get_or m.globals.items x g below ∙ ap Some (sym is) in
    ∥∥₁_elim runnable (hlevel props) (λ r.
    ap (λ l. slice_get (global_types l) x) (without_imports (module_shape m) r.no_imports)
    ∙ slice_get-map (λ (y : GlobalType). y.val_type) (map (λ (y : GlobalShape). y.global_type) (map global_shape m.globals.items)) x
    ∙ ap (option_map (λ (y : GlobalType). y.val_type)) (slice_get-map (λ (y : GlobalShape). y.global_type) (map global_shape m.globals.items) x)
    ∙ ap (λ o. option_map (λ (y : GlobalType). y.val_type) (option_map (λ (y : GlobalShape). y.global_type) o)) (slice_get-map global_shape m.globals.items x)
    ∙ ap (λ o. option_map (λ (y : GlobalType). y.val_type) (option_map (λ (y : GlobalShape). y.global_type) (option_map global_shape o))) here)
