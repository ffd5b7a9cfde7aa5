-- What an accepted module exports, and that it has a type where it is a function.
use Rattle.std.proofs.Common.{◌≡◌, ℕ, ◌<◌, List, Option, Some, None, length, refl, sym, ap, ◌∙◌, subst, get_or, map}
use Rattle.std.specs.Prelude.{slice_get, Contains, IsSome, MatchOption, option_map}
use Rattle.std.proofs.lemmas.List.{length-map}
use Rattle.std.proofs.lemmas.Option.{slice_get-get_or, slice_get-map, slice_get_within, get_or_from_slice_get}
use Rattle.std.proofs.lemmas.List.Elements.{All-contains, Contains-get_or}
use Rattle.std.proofs.Math.Logic.{∥∥₁_elim, ∥∥₁_map}
use Rattle.wsyntax.specs.Types.{FuncType}
use Rattle.wsyntax.specs.declared.module.ExportKind.{ExportKind}
use Rattle.wsyntax.specs.declared.module.ExportKind.TheVariants.{Function, Table, Memory, Global}
use Rattle.wsyntax.specs.declared.module.Export.{Export}
use Rattle.wsyntax.specs.Modules.{ModuleShape, ExportShape, module_shape, export_shape}
use Rattle.wsyntax.specs.Validation.ModuleContext.{module_context, functions_of, empty_type, IndexedContext}
use Rattle.wsyntax.specs.Validation.Rules.{NoneBroken, count_of}
use Rattle.accepted_module.specs.Judgement.{IsJudged}
use Rattle.accepted_module.specs.Exports.{IsExported}
use Rattle.accepted_module.specs.declared.accepted.Accepted.{Accepted}
use Rattle.c_api.specs.declared.exported.GateExport.{GateExport}
use Rattle.c_api.specs.Exported.{IsTyped, exports_of, TellsExport, TellsOf, LeavesExport, export_fields}
use Rattle.c_api.specs.Exported as told

within_all : (m : ModuleShape) (name : List ℕ) (f : ℕ) → NoneBroken m → IsExported m name Function f → f < length (module_context m).functions
within_all m name f none e =
    let exists : f < length (functions_of m) = All-contains (λ (x : ExportShape). x.index < count_of m x.kind) m.exports (record { item_name = name; kind = Function; index = f }) (none 9) e in
    rw length-map exists

none_and_some : {A : Type 0} (found : Option A) (x : A) → found ≡ None → found ≡ Some x → ⊥
none_and_some found x a b = cc

past : (fs : List FuncType) (f : ℕ) → f < length fs → slice_get fs f ≡ None → ⊥
past fs f h e = none_and_some (slice_get fs f) (get_or fs f empty_type) e (slice_get-get_or fs f empty_type h)

some_within : (found : Option FuncType) (fs : List FuncType) (f : ℕ) → slice_get fs f ≡ found → ∥ f < length fs ∥₁ → IsSome found
some_within None fs f e h = absurd (∥∥₁_elim h (λ a b. absurd a) (λ (x : f < length fs). past fs f x e))
some_within (Some t) fs f e h = refl

abbrev Judged : Accepted → Type 0
Judged a = IsJudged (module_shape a.«module») a.context a.bodies.items

-- what an accepted module exports has a type, where it is a function
pub is_typed : (a : Accepted) (name : List ℕ) (kind : ExportKind) (index : ℕ) → ∥ IsJudged (module_shape a.«module») a.context a.bodies.items ∥₁
    → IsExported (module_shape a.«module») name kind index → IsTyped (told.functions_of a) kind index
is_typed a name Function f judged e =
    some_within (slice_get (told.functions_of a) f) (told.functions_of a) f refl
    (∥∥₁_map judged (λ (j : Judged a). subst (λ (y : IndexedContext). f < length y.context.functions) (sym j.context) (within_all (module_shape a.«module») name f j.rules e)))
is_typed a name Table index judged e = tt
is_typed a name Memory index judged e = tt
is_typed a name Global index judged e = tt

-- the export at a position
pub shaped_at : (xs : List Export) (k : ℕ) (x : Export) → slice_get xs k ≡ Some x → slice_get (map export_shape xs) k ≡ Some (export_shape x)
shaped_at xs k x h = slice_get-map export_shape xs k ∙ ap (option_map export_shape) h

contained_at : (xs : List ExportShape) (k : ℕ) (x : ExportShape) → slice_get xs k ≡ Some x → Contains xs x
contained_at xs k x h = subst (Contains xs) (get_or_from_slice_get xs k x x h) (Contains-get_or xs k x (slice_get_within xs k x h))

-- its fields tell it
pub tells : (a : Accepted) (position : ℕ) (x : Export) (old new : GateExport) → ∥ IsJudged (module_shape a.«module») a.context a.bodies.items ∥₁
    → slice_get a.«module».exports.items position ≡ Some x → new ≡ export_fields (told.functions_of a) x.kind x.index → TellsExport a position old new 0
tells a position x old new judged at same =
    let there : slice_get (exports_of a) position ≡ Some (export_shape x) = shaped_at a.«module».exports.items position x at in
    let typed = is_typed a x.name.now x.kind x.index judged (contained_at (exports_of a) position (export_shape x) there) in
    subst (λ (o : Option ExportShape). MatchOption o (LeavesExport old new 0) (TellsOf a new 0)) (sym there) (refl, same, typed)
