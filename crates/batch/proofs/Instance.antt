-- The run-time module of a module that was judged. It is at hand, and not only known to be there.
use Rattle.std.proofs.Common.{◌≡◌, ℕ, suc, List, [], ◌∷◌, Some, length, refl, arith}
use Rattle.std.specs.Prelude.{slice_get}
use Rattle.std.proofs.Math.Logic.{∥∥₁_elim, ∥∥₁_map}
use Rattle.wsyntax.specs.Types.{FuncType}
use Rattle.wsyntax.specs.Modules.{ModuleShape, BodyShape}
use Rattle.wsyntax.specs.Validation.ModuleContext.{type_at, declared}
use Rattle.wsyntax.specs.Execution.Store.{Function, Module}
use Rattle.wsyntax.specs.Execution.Start.{FunctionsOf, InstanceOf}
use Rattle.soundness.specs.Instances.{TypedAt, Judged}
use Rattle.batch.proofs.Trees.{HasTree, tree_of}

-- of lists that are known to be as long as one another, none is empty alone
one_alone : (n : ℕ) → ∥ 0 ≡ suc n ∥₁ → ⊥
one_alone n h = ∥∥₁_elim h (λ a b. absurd a) (λ (e : 0 ≡ suc n). omega (arith, e))

other_alone : (n : ℕ) → ∥ suc n ≡ 0 ∥₁ → ⊥
other_alone n h = ∥∥₁_elim h (λ a b. absurd a) (λ (e : suc n ≡ 0). omega (arith, e))

functions_are : (types : List FuncType) (ys : List ℕ) (bs : List BodyShape) → ∥ length ys ≡ length bs ∥₁ → ((k : ℕ) (b : BodyShape) → slice_get bs k ≡ Some b → ∥ HasTree b.code ∥₁)
    → (fns : List Function) × FunctionsOf types ys bs fns
functions_are types [] [] count trees = ([], tt)
functions_are types [] (b ∷ bs) count trees = absurd (one_alone (length bs) count)
functions_are types (y ∷ ys) [] count trees = absurd (other_alone (length ys) count)
functions_are types (y ∷ ys) (b ∷ bs) count trees =
    let (code, tree) = tree_of b.code (trees 0 b refl) in
    let rest : ∥ length ys ≡ length bs ∥₁ = ∥∥₁_map count (λ (e : suc (length ys) ≡ suc (length bs)). omega (arith, e)) in
    let (fns, each) = functions_are types ys bs rest (λ k d e. trees (suc k) d e) in
    let fn : Function = record { func_type = type_at types y; locals = declared b.runs; body = code } in
    (fn ∷ fns, (refl, refl, tree, each))

has_tree : (m : ModuleShape) (position : ℕ) (b : BodyShape) → TypedAt m position b → HasTree b.code
has_tree m position b t = (t.code, t.tree)

pub instance_of : (m : ModuleShape) (bodies : List BodyShape) → ∥ Judged m bodies ∥₁ → (i : Module) × InstanceOf m bodies i
instance_of m bodies judged =
    let count = ∥∥₁_map judged (λ (j : Judged m bodies). j.count) in
    let (fns, each) = functions_are m.types m.functions bodies count (λ k b e. ∥∥₁_map judged (λ (j : Judged m bodies). has_tree m k b (j.bodies_typed k b e))) in
    (record { types = m.types; functions = fns }, record { same_types = refl; each = each })
