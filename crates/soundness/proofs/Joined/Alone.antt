-- There is a module that was judged, and an instance of it.
use Rattle.std.proofs.Common.{◌≡◌, ℕ, zero, suc, ◌<◌, List, [], ◌∷◌, Some, None, refl, subst, arith}
use Rattle.std.specs.Prelude.{slice_get, slice_index_or, All}
use Rattle.std.proofs.lemmas.Option.{same_Some}
use Rattle.std.proofs.lemmas.List.Elements.{All-nil, All-cons}
use Rattle.wsyntax.specs.Instructions.{Plain, Nop, Stop}
use Rattle.wsyntax.specs.Modules.{ModuleShape, BodyShape, DataShape}
use Rattle.wsyntax.specs.Validation.ModuleContext.{empty_type}
use Rattle.wsyntax.specs.Validation.Rules.{rules, NoneBroken, WithinRange, one_const, HasType, DataValid}
use Rattle.wsyntax.specs.Execution.Start.{start_refusal}
use Rattle.soundness.specs.Instances.{TypedAt}
use Rattle.soundness.specs.Sole.{sole, sole_body, SoleInstantiated}

-- each of these rules holds
abbrev pub Each : List (ModuleShape → Type 0) → ModuleShape → Type 0
Each [] m = Unit {0}
Each (r ∷ rs) m = r m × Each rs m

each_at : (rs : List (ModuleShape → Type 0)) (m : ModuleShape) → Each rs m → (i : ℕ) → slice_index_or rs i (λ n. Unit {0}) m
each_at [] m h zero = tt
each_at [] m h (suc i) = tt
each_at (r ∷ rs) m h zero = h.0
each_at (r ∷ rs) m h (suc i) = each_at rs m h.1 i

pub none_broken : (m : ModuleShape) → Each rules m → NoneBroken m
none_broken m h zero = tt
none_broken m h (suc i) = each_at rules m h i

one : {A : Type 0} (P : A → Type 0) (x : A) → P x → All P (x ∷ [])
one P x h = All-cons P x [] h (All-nil P)

starts : (f : ℕ) → Some 0 ≡ Some f → HasType sole empty_type f
starts f e = subst (HasType sole empty_type) (same_Some 0 f e) (0, refl, refl)

sole_unbroken : NoneBroken sole
sole_unbroken =
    none_broken sole (
      tt,
      (
        All-nil (λ y. y < 1),
        (
          one (λ y. y < 1) 0 (omega arith),
          (
            All-nil _,
            (
              one (WithinRange 65536) (record { min = 1; max = None }) (omega arith, (λ n e. absurd cc), (λ n e. absurd cc)),
              (
                omega arith,
                (
                  omega arith,
                  (
                    All-nil _,
                    (
                      All-nil _,
                      (
                        (λ i j d h k. absurd (omega arith)),
                        (
                          starts,
                          (
                            All-nil _,
                            (
                              one (DataValid sole) _ (record { in_memory = omega arith; constant = one_const 65534 }),
                              tt,
                            ),
                          ),
                        ),
                      ),
                    ),
                  ),
                ),
              ),
            ),
          ),
        ),
      ),
    )

sole_typed : (position : ℕ) (b : BodyShape) → slice_get (sole_body ∷ []) position ≡ Some b → TypedAt sole position b
sole_typed zero b e = subst (TypedAt sole 0) (same_Some sole_body b e) (record { code = Plain Nop Stop; tree = refl; typed = ([], [], [], (refl, refl), refl, refl) })
sole_typed (suc k) b e = absurd cc

pub sole_instantiated : SoleInstantiated
unfolding start_refusal
sole_instantiated = record {
  judged = record { unbroken = sole_unbroken; count = refl; bodies_typed = sole_typed };
  bytes = one (λ (d : DataShape). All (λ b. b < 256) d.bytes) _ (All-cons (λ b. b < 256) 7 (255 ∷ []) (omega arith) (one (λ b. b < 256) 255 (omega arith)));
  not_refused = refl;
  instance = record { same_types = refl; each = (refl, refl, refl, tt) };
}
