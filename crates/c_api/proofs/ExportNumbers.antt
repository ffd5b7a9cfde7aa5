-- What is called, by its name or its number.
use Rattle.std.proofs.Common.{◌≡◌, ◌≢◌, ◌↔◌, ℕ, List, All, Option, Some, None, map, refl, sym, ap, ◌∙◌, subst}
use Rattle.std.specs.Prelude.{slice_get, option_map, Contains, IsNone, IsSomeAnd}
use Rattle.std.proofs.lemmas.List.Elements.{All-contains, All-map}
use Rattle.std.proofs.lemmas.Option.{slice_get-map}
use Rattle.wsyntax.specs.Modules.{ExportShape, export_shape, module_shape}
use Rattle.wsyntax.specs.Texts.Answer.{IsMissing}
use Rattle.wsyntax.specs.declared.module.Export.{Export}
use Rattle.wsyntax.specs.declared.module.ExportKind.{ExportKind}
use Rattle.accepted_module.specs.Exports.{IsExported}
use Rattle.accepted_module.specs.declared.accepted.Accepted.{Accepted}
use Rattle.c_api.specs.CallsOn.{HasNumber, IsNamed, export_at}
use Rattle.c_api.proofs.ExportedTypes.{shaped_at}

-- an export of another name
abbrev pub IsOther : List ℕ → Export → Type 0
IsOther name e = e.name.now ≢ name

-- where all are, the name is missing
pub none_named : (name : List ℕ) (xs : List Export) → All (IsOther name) xs → (e : ExportShape) → Contains (map export_shape xs) e → e.item_name ≢ name
none_named name xs others e there =
    let other : ExportShape → Type 0 = λ s. s.item_name ≢ name in All-contains other (map export_shape xs) e (All-map other export_shape xs others) there

-- where one has the name, this is its number
pub numbered : (a : Accepted) (name : List ℕ) (i : ℕ) (x : Export) → slice_get a.«module».exports.items i ≡ Some x → x.name.now ≡ name → HasNumber a name i
numbered a name i x there same =
    subst (λ (o : Option ExportShape). IsSomeAnd o (λ (e : ExportShape). e.item_name ≡ name)) (sym (shaped_at a.«module».exports.items i x there)) same

-- what a search by the name answers
pub named : (a : Accepted) (name : List ℕ) (found : Option (ExportKind × ℕ))
    → ((kind : ExportKind) (x : ℕ) → (found ≡ Some (kind, x)) ↔ IsExported (module_shape a.«module») name kind x)
    → (IsNone found ↔ IsMissing (module_shape a.«module») name) → IsNamed a name found
named a name None some none = none.0 refl
named a name (Some e) some none = (some e.0 e.1).0 refl

-- what stands at a number
pub there_at : (a : Accepted) (i : ℕ) (x : Export) → slice_get a.«module».exports.items i ≡ Some x → export_at a i ≡ Some (x.kind, x.index)
there_at a i x there = ap (option_map (λ (e : ExportShape). (e.kind, e.index))) (shaped_at a.«module».exports.items i x there)

pub none_at : (a : Accepted) (i : ℕ) → slice_get a.«module».exports.items i ≡ None → export_at a i ≡ None
none_at a i none =
    ap (option_map (λ (e : ExportShape). (e.kind, e.index))) (slice_get-map export_shape a.«module».exports.items i ∙ ap (option_map export_shape) none)
