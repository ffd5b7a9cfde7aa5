-- What is exported is there.
use Rattle.std.proofs.Common.{◌≡◌, ◌≢◌, ℕ, ◌<◌, List, Option, Some, None, length, subst, sym, ap, ◌∙◌}
use Rattle.std.proofs.lemmas.List.Elements.{All-contains}
use Rattle.wsyntax.specs.declared.module.ExportKind.{ExportKind}
use Rattle.wsyntax.specs.declared.module.ExportKind.TheVariants.{Global}
use Rattle.wsyntax.specs.Modules.{ModuleShape, ExportShape}
use Rattle.wsyntax.specs.Validation.ModuleContext.{module_context}
use Rattle.wsyntax.specs.Validation.Rules.{NoneBroken, count_of}
use Rattle.wsyntax.specs.declared.value.Value.{Value}
use Rattle.wsyntax.specs.Execution.Store.{Store}
use Rattle.accepted_module.specs.Exports.{IsExported}
use Rattle.wstore.specs.ExportedGlobals.{IsGlobalOf}

-- an exported global is there
pub exported_within : (m : ModuleShape) (name : List ℕ) (x : ℕ) → NoneBroken m → IsExported m name Global x → x < length (module_context m).globals
exported_within m name x none e =
    All-contains (λ (y : ExportShape). y.index < count_of m y.kind) m.exports (record { item_name = name; kind = Global; index = x }) (none 9) e

-- an export of that kind is an exported global
pub global_of : (m : ModuleShape) (name : List ℕ) (kind : ExportKind) (x : ℕ) → kind ≡ Global → IsExported m name kind x → IsExported m name Global x
global_of m name kind x e h = subst (λ (k : ExportKind). IsExported m name k x) e h

abbrev Found : Type 0
Found = ExportKind × ℕ

-- nothing is exported, or an item of another kind
pub nothing_found : (found : Option Found) (y : Found) → found ≡ None → found ≡ Some y → ⊥
nothing_found found y a b = cc

same_found : (y z : Found) → Some y ≡ Some z → y ≡ z
same_found y z e = cc

pub other_found : (found : Option Found) (kind : ExportKind) (x x' : ℕ) → found ≡ Some (kind, x) → kind ≢ Global → found ≡ Some (Global, x') → ⊥
other_found found kind x x' a other b =
    let y : Found = (kind, x) in
    let z : Found = (Global, x') in
    other (ap (λ (f : Found). f.0) (same_found y z (sym a ∙ b)))

-- so no global is
pub none_is : (m : ModuleShape) (s : Store) (name : List ℕ) (result : Option Value) → result ≡ None → ((x : ℕ) → IsExported m name Global x → ⊥) → IsGlobalOf m s name result
none_is m s name None e h = h
none_is m s name (Some v) e h = absurd cc
