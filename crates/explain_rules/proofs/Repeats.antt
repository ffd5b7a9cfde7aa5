-- Two exports of one name.
use Rattle.std.proofs.Common.{◌≡◌, ◌≢◌, ℕ, ◌<◌, List, map, take, Option, Some, None, refl, ap, sym, subst, ◌∙◌}
use Rattle.std.specs.Prelude.{option_map, slice_get}
use Rattle.std.proofs.lemmas.Option.{slice_get-map}
use Rattle.std.specs.List.{AllPairs}
use Rattle.std.proofs.lemmas.List.{take-map}
use Rattle.wsyntax.specs.declared.module.Export.{Export}
use Rattle.wsyntax.specs.Modules.{export_shape}
use Rattle.explain_rules.specs.Exported.{name_at}
use Rattle.explain_rules.specs.Rules.{IsRepeated}

option_twice : (o : Option Export) → option_map (λ e. e.item_name) (option_map export_shape o) ≡ option_map (λ e. e.name.now) o
option_twice None = refl
option_twice (Some e) = refl

shown_name : (es : List Export) (k : ℕ) (name : List ℕ) → name_at es k ≡ Some name → option_map (λ e. e.item_name) (slice_get (map export_shape es) k) ≡ Some name
shown_name es k name is = ap (option_map (λ e. e.item_name)) (slice_get-map export_shape es k) ∙ option_twice (slice_get es k) ∙ is

-- the export at that position has the name of an earlier one, and those before it have different names
pub repeated_told : (fs short items : List Export) (position earlier : ℕ) (name : List ℕ) → fs ≡ items → short ≡ take position items → AllPairs (λ a b. a.item_name ≢ b.item_name) (map export_shape short)
    → (earlier < position) × (name_at fs position ≡ Some name) × (name_at fs earlier ≡ Some name) → IsRepeated (map export_shape items) position name earlier
repeated_told fs short items position earlier name same cut distinct told = record {
  order = told.0;
  there = shown_name items position name (ap (λ (l : List Export). name_at l position) (sym same) ∙ told.1);
  first = shown_name items earlier name (ap (λ (l : List Export). name_at l earlier) (sym same) ∙ told.2);
  before = subst (AllPairs (λ a b. a.item_name ≢ b.item_name)) (ap (map export_shape) cut ∙ sym (take-map export_shape position items)) distinct;
}
