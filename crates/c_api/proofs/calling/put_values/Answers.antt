use Rattle.std.proofs.Common.{◌≡◌, ℕ, zero, suc, ◌<◌, ◌≤◌, length, List, [], ◌∷◌, get_or, slice_set, min, take, refl, ap, arith, add-one}
use Rattle.wsyntax.specs.declared.value.Value.TheVariants.{I32}
use Rattle.wsyntax.specs.declared.value.Value.{Value}
use Rattle.c_api.specs.declared.value.GateValue.{GateValue}
use Rattle.c_api.specs.Values.{value_fields, overlay}
use Rattle.c_api.proofs.calling.put_values.Goals as goal

-- all stand there that there is room for
over_all : (n : ℕ) (vs : List Value) (old : List GateValue) → min (length vs) (length old) ≤ n → overlay (take n vs) old ≡ overlay vs old
over_all zero [] old h = refl
over_all zero (v ∷ vs) [] h = refl
over_all zero (v ∷ vs) (x ∷ old) h = absurd (omega (arith, h))
over_all (suc n) [] old h = refl
over_all (suc n) (v ∷ vs) [] h = refl
over_all (suc n) (v ∷ vs) (x ∷ old) h = ap (λ (r : List GateValue). value_fields v ∷ r) (over_all n vs old (omega (arith, h)))

-- one more
over_more : (i : ℕ) (vs : List Value) (old : List GateValue) (d : Value) → i < length vs → i < length old
    → slice_set (overlay (take i vs) old) i (value_fields (get_or vs i d)) ≡ overlay (take (suc i) vs) old
over_more i [] old d h k = absurd (omega (arith, h))
over_more i (v ∷ vs) [] d h k = absurd (omega (arith, k))
over_more zero (v ∷ vs) (x ∷ old) d h k = refl
over_more (suc i) (v ∷ vs) (x ∷ old) d h k = ap (λ (r : List GateValue). value_fields v ∷ r) (over_more i vs old d (omega (arith, h)) (omega (arith, k)))

pub loop-position-preserved : goal.loop-position-preserved
loop-position-preserved c =
    let more = over_more c.loop-position.position c.args.values.now c.args.results.now (I32 0) (omega arith) (omega arith) in
    rw add-one (cc more)

pub returns : goal.returns
returns c =
    let all = over_all c.loop-position.position c.args.values.now c.args.results.now (omega arith) in
    cc all
