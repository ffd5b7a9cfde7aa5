-- The imports of a kind, counted one by one.
use Rattle.std.proofs.Common.{◌≡◌, ℕ, ◌+◌, ◌<◌, true, false, List, length, get_or, map, take, Some, ap, subst, sym, ◌∙◌}
use Rattle.std.specs.Prelude.{count_by, option_map, slice_get}
use Rattle.std.proofs.lemmas.List.Sums.{count_by_more_no, count_by_more_yes}
use Rattle.std.proofs.lemmas.Option.{get_or_from_slice_get, slice_get-get_or, slice_get-map, slice_get_within}
use Rattle.std.proofs.lemmas.Simd.{map-map}
use Rattle.wsyntax.specs.Modules.{ImportShape, import_shape, module_shape}
use Rattle.wsyntax.specs.declared.module.ExportKind.{ExportKind}
use Rattle.wsyntax.specs.declared.module.Import.{Import}
use Rattle.wsyntax.specs.declared.module.ImportKind.{ImportKind}
use Rattle.wsyntax.specs.declared.module.Module.{Module}
use Rattle.explain_rules.specs.Rules.{IsImportOf, adds, kinds_of}

-- the kind of an import
kind_there : (imports : List Import) (i : ℕ) (d : Import) → i < length imports → slice_get (map (λ j. j.kind) imports) i ≡ Some (get_or imports i d).kind
kind_there imports i d below = slice_get-map (λ j. j.kind) imports i ∙ ap (option_map (λ (j : Import). j.kind)) (slice_get-get_or imports i d below)

-- one import more of the kind
pub import_counted : (imports : List Import) (kind : ExportKind) (i : ℕ) (d : Import) → i < length imports → adds kind (get_or imports i d).kind ≡ true
    → count_by (adds kind) (take (i + 1) (map (λ j. j.kind) imports)) ≡ count_by (adds kind) (take i (map (λ j. j.kind) imports)) + 1
import_counted imports kind i d below hit =
    let k : ImportKind = (get_or imports i d).kind in
    let kinds : List ImportKind = map (λ (j : Import). j.kind) imports in
    let there : slice_get kinds i ≡ Some k = kind_there imports i d below in
    count_by_more_yes (adds kind) kinds i k (slice_get_within kinds i k there) (ap (adds kind) (get_or_from_slice_get kinds i k k there) ∙ hit)

-- one of another kind
pub import_passed : (imports : List Import) (kind : ExportKind) (i : ℕ) (d : Import) → i < length imports → adds kind (get_or imports i d).kind ≡ false
    → count_by (adds kind) (take (i + 1) (map (λ j. j.kind) imports)) ≡ count_by (adds kind) (take i (map (λ j. j.kind) imports))
import_passed imports kind i d below miss =
    let k : ImportKind = (get_or imports i d).kind in
    let kinds : List ImportKind = map (λ (j : Import). j.kind) imports in
    let there : slice_get kinds i ≡ Some k = kind_there imports i d below in
    count_by_more_no (adds kind) kinds i k (slice_get_within kinds i k there) (ap (adds kind) (get_or_from_slice_get kinds i k k there) ∙ miss)

-- the imports that were read are those of the module
pub import_held : (m : Module) (imports : List Import) (kind : ExportKind) (index position : ℕ) → imports ≡ m.imports.items
    → IsImportOf (map (λ j. j.kind) imports) kind index position → IsImportOf (kinds_of (module_shape m)) kind index position
import_held m imports kind index position same told = subst (λ kinds. IsImportOf kinds kind index position)
    (ap (map (λ (j : Import). j.kind)) same ∙ sym (map-map (λ (j : ImportShape). j.kind) import_shape m.imports.items)) told
