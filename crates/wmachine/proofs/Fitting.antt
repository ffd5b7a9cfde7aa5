-- The test of the arguments of a call says whether they have the parameter types.
use Rattle.std.proofs.Common.{◌≡◌, ◌↔◌, ℕ, List, [], ◌∷◌, length, Some, None, IsTrue, Bool, true, false, nat_eq, ◌&&◌, refl, sym, ap, ◌∙◌, subst, suc, arith}
use Rattle.std.proofs.lemmas.Bool.Decides.{nat_tests}
use Rattle.std.specs.Prelude.{slice_get}
use Rattle.std.specs.List.{list_all, zip}
use Rattle.std.proofs.Math.Logic.{∥∥₁_elim}
use Rattle.wsyntax.specs.declared.types.ValType.{ValType}
use Rattle.wsyntax.specs.declared.value.Value.{Value}
use Rattle.wsyntax.specs.Types.{FuncType, same_type, same_types}
use Rattle.wsyntax.specs.Modules.{ModuleShape}
use Rattle.wsyntax.specs.Validation.ModuleContext.{module_context, IndexedContext, indexed_context}
use Rattle.wsyntax.specs.Execution.Values.{type_of, types}
use Rattle.soundness.proofs.Chapter3.Basics.{same_types-true, same_types-same}
use Rattle.wmachine.specs.Arguments.{is_of_type, are_of_types}
use Rattle.wmachine.specs.Calls.{HasParams}
use Rattle.wmachine.proofs.Sets.{found_set}

-- ---- the test on lists

-- as many items in both lists, after one more in each
behind : (a b : ℕ) → nat_eq (suc a) (suc b) ≡ nat_eq a b
behind a b = grind (arith, nat_tests)

swapped : (a b d : Bool) → a && (b && d) ≡ b && (a && d)
swapped true true d = refl
swapped true false d = refl
swapped false true d = refl
swapped false false d = refl

-- it is the test of types
are_types : (vs : List Value) (ts : List ValType) → are_of_types vs ts ≡ same_types (types vs) ts
are_types [] [] = refl
are_types [] (t ∷ ts) = grind (arith, nat_tests)
are_types (v ∷ vs) [] = grind (arith, nat_tests)
are_types (v ∷ vs) (t ∷ ts) =
    ap (λ b. b && (same_type (type_of v) t && list_all is_of_type (zip vs ts))) (behind (length vs) (length ts))
    ∙ swapped (nat_eq (length vs) (length ts)) (same_type (type_of v) t) (list_all is_of_type (zip vs ts))
    ∙ ap (λ b. same_type (type_of v) t && b) (are_types vs ts)

tested : (vs : List Value) (ts : List ValType) → IsTrue (are_of_types vs ts) → types vs ≡ ts
tested vs ts h = same_types-true (types vs) ts (sym (are_types vs ts) ∙ h)

passes : (vs : List Value) (ts : List ValType) → types vs ≡ ts → IsTrue (are_of_types vs ts)
passes vs ts e = are_types vs ts ∙ subst (λ z. same_types (types vs) z ≡ true) e (same_types-same (types vs))

-- ---- the function

-- the context of an accepted module is that of the module
found : (m : ModuleShape) (x : IndexedContext) (f : ℕ) → ∥ x ≡ indexed_context m ∥₁ → slice_get x.context.functions f ≡ slice_get (module_context m).functions f
found m x f h = ∥∥₁_elim h (found_set _ _) (λ e. ap (λ (y : IndexedContext). slice_get y.context.functions f) e)

some_is : (a b : FuncType) → Some a ≡ Some b → a ≡ b
some_is a b e = cc

pub fits_some : (m : ModuleShape) (x : IndexedContext) (f : ℕ) (args : List Value) (sig : FuncType) → ∥ x ≡ indexed_context m ∥₁ → Some sig ≡ slice_get x.context.functions f
    → IsTrue (are_of_types args sig.params) ↔ HasParams (module_context m) f args
fits_some m x f args sig h e =
    let there : slice_get (module_context m).functions f ≡ Some sig = sym (found m x f h) ∙ sym e in (
      λ t. record { sig = sig; function = there; params = tested args sig.params t },
      λ p. let same : sig ≡ p.sig = some_is sig p.sig (sym there ∙ p.function) in passes args sig.params (p.params ∙ ap (λ (s : FuncType). s.params) (sym same)),
    )

pub fits_none : (m : ModuleShape) (x : IndexedContext) (f : ℕ) (args : List Value) → ∥ x ≡ indexed_context m ∥₁ → None ≡ slice_get x.context.functions f
    → HasParams (module_context m) f args → ⊥
fits_none m x f args h e p = let there : None ≡ Some p.sig = e ∙ found m x f h ∙ p.function in absurd cc
