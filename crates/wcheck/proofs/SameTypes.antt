-- What the tests of types say.
use Rattle.std.proofs.Common.{◌≡◌, Bool, true, false, [], ◌∷◌, refl}
use Rattle.std.specs.Prelude.{◌&&◌}
use Rattle.wsyntax.specs.declared.ValType.{ValType}
use Rattle.wsyntax.specs.declared.ValType.TheVariants.{I32, I64, F32, F64}
use Rattle.wsyntax.specs.Validation.Context.{Stack}
use Rattle.wsyntax.specs.Types.{same_type, same_types}

both_true : (a b : Bool) → (a && b) ≡ true → (a ≡ true) × (b ≡ true)
both_true true b e = (refl, e)
both_true false b e = absurd cc

pub same_type-true : (t u : ValType) → same_type t u ≡ true → t ≡ u
same_type-true I32 I32 e = refl
same_type-true I64 I64 e = refl
same_type-true F32 F32 e = refl
same_type-true F64 F64 e = refl
same_type-true I32 I64 e = absurd cc
same_type-true I32 F32 e = absurd cc
same_type-true I32 F64 e = absurd cc
same_type-true I64 I32 e = absurd cc
same_type-true I64 F32 e = absurd cc
same_type-true I64 F64 e = absurd cc
same_type-true F32 I32 e = absurd cc
same_type-true F32 I64 e = absurd cc
same_type-true F32 F64 e = absurd cc
same_type-true F64 I32 e = absurd cc
same_type-true F64 I64 e = absurd cc
same_type-true F64 F32 e = absurd cc

pub same_types-true : (a b : Stack) → same_types a b ≡ true → a ≡ b
same_types-true [] [] e = refl
same_types-true [] (u ∷ b) e = absurd cc
same_types-true (t ∷ a) [] e = absurd cc
same_types-true (t ∷ a) (u ∷ b) e =
    let h = both_true (same_type t u) (same_types a b) e in
    let p = same_type-true t u h.0 in let q = same_types-true a b h.1 in cc
