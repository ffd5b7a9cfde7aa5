-- The first export of a function, export by export.
use Rattle.std.proofs.Common.{◌≡◌, ℕ, ◌+◌, ◌<◌, Bool, true, false, List, ◌∷◌, length, get_or, drop, refl, eq-eqb, inl, inr}
use Rattle.std.proofs.lemmas.Bool.{ne_eqb}
use Rattle.std.proofs.lemmas.List.{drop_more}
use Rattle.std.specs.Prelude.{◌⊎◌, ◌≢◌, ◌&&◌, ◌==◌, map, Some}
use Rattle.wsyntax.specs.declared.module.Export.{Export}
use Rattle.wsyntax.specs.Modules.{export_shape}
use Rattle.explanation.specs.Functions.{first_name, is_function}

named_here : (f : ℕ) (e : Export) (rest : List Export) → is_function e.kind ≡ true → e.index ≡ f → first_name f (map export_shape (e ∷ rest)) ≡ Some e.name.now
named_here f e rest k i = rw (k, eq-eqb e.index f i) refl

false_after : (b c : Bool) → c ≡ false → (b && c) ≡ false
false_after true c e = e
false_after false c e = refl

named_later : (f : ℕ) (e : Export) (rest : List Export) → (is_function e.kind ≡ false) ⊎ (e.index ≢ f)
    → first_name f (map export_shape (e ∷ rest)) ≡ first_name f (map export_shape rest)
named_later f e rest (inl k) = rw k refl
named_later f e rest (inr n) = rw (false_after (is_function e.kind) (e.index == f) (ne_eqb e.index f n)) refl

-- it is the one at position i
pub first_here : (f : ℕ) (es : List Export) (i : ℕ) (d : Export) → i < length es → is_function (get_or es i d).kind ≡ true → (get_or es i d).index ≡ f
    → first_name f (map export_shape (drop i es)) ≡ Some (get_or es i d).name.now
first_here f es i d h k e = rw (drop_more es i d h) (named_here f (get_or es i d) (drop (i + 1) es) k e)

-- it is one after position i
pub first_later : (f : ℕ) (es : List Export) (i : ℕ) (d : Export) → i < length es → (is_function (get_or es i d).kind ≡ false) ⊎ ((get_or es i d).index ≢ f)
    → first_name f (map export_shape (drop i es)) ≡ first_name f (map export_shape (drop (i + 1) es))
first_later f es i d h n = rw (drop_more es i d h) (named_later f (get_or es i d) (drop (i + 1) es) n)
