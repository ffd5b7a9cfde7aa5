use Rattle.std.proofs.Common.{◌≡◌, ℕ, zero, suc, ◌<◌, ◌≤◌, length, List, [], ◌∷◌, ◌++◌, get_or, slice_set, map, take, drop, refl, ap, arith, add-one}
use Rattle.wsyntax.specs.declared.ValType.{ValType}
use Rattle.wsyntax.specs.declared.ValType.TheVariants.{I32}
use Rattle.c_api.specs.Exported.{type_byte}
use Rattle.c_api.proofs.exported.put_types.Goals as goal

-- one more
put_more : (i : ℕ) (ts : List ValType) (old : List ℕ) (d : ValType) → i < length ts → length ts ≤ length old
    → slice_set (map type_byte (take i ts) ++ drop i old) i (type_byte (get_or ts i d)) ≡ map type_byte (take (suc i) ts) ++ drop (suc i) old
put_more i [] old d h k = absurd (omega (arith, h))
put_more i (t ∷ ts) [] d h k = absurd (omega (arith, k))
put_more zero (t ∷ ts) (x ∷ old) d h k = refl
put_more (suc i) (t ∷ ts) (x ∷ old) d h k = ap (λ (r : List ℕ). type_byte t ∷ r) (put_more i ts old d (omega (arith, h)) (omega (arith, k)))

pub loop-position-preserved : goal.loop-position-preserved
loop-position-preserved c =
    let more = put_more c.loop-position.position c.args.types.now c.args.out.now I32 (omega arith) (omega arith) in
    rw add-one (cc more)
