-- A module that is typed: the laws are not empty.
use Rattle.std.proofs.Common.{subst, ◌≡◌, ℕ, zero, suc, [], ◌∷◌, Some, refl, arith}
use Rattle.std.specs.Prelude.{slice_get}
use Rattle.wsyntax.specs.declared.types.ValType.TheVariants.{I32}
use Rattle.wsyntax.specs.Execution.Store.{Function}
use Rattle.wsyntax.specs.Execution.ConfigTyped.{FunctionTyped}
use Rattle.soundness.specs.Samples.{one}
use Rattle.soundness.specs.Pair.{pair, pair_context, PairTyped}

same_some : {A : Type 0} {x y : A} → Some x ≡ Some y → x ≡ y
same_some e = cc

each : (f : ℕ) (fn : Function) → slice_get pair.functions f ≡ Some fn → FunctionTyped pair_context fn
each zero fn e = subst (FunctionTyped pair_context) (same_some e) (record {
  body = (
    record { params = []; results = [] },
    [],
    refl,
    (
      [],
      I32 ∷ [],
      [],
      (I32, refl, refl, refl),
      refl,
      (
        [],
        I32 ∷ [],
        I32 ∷ [],
        (refl, refl),
        refl,
        (
          I32 ∷ I32 ∷ [],
          I32 ∷ [],
          [],
          (refl, refl),
          refl,
          (
            I32 ∷ [],
            I32 ∷ [],
            [],
            (I32, refl, refl, refl),
            refl,
            (I32 ∷ [], [], [], ([], refl, refl, refl), refl, refl),
          ),
        ),
      ),
    ),
    refl,
    ([], I32 ∷ [], [], (I32, refl, refl, refl), refl, refl),
  );
  integer = ((tt, (tt, (tt, (tt, (tt, tt))))), (tt, tt));
  locals = tt;
})
each (suc zero) fn e = subst (FunctionTyped pair_context) (same_some e) (record {
  body = (
    [],
    I32 ∷ [],
    [],
    (I32, refl, refl, refl),
    refl,
    (
      I32 ∷ [],
      I32 ∷ [],
      [],
      (one, refl, refl, refl),
      refl,
      (
        [],
        I32 ∷ [],
        I32 ∷ [],
        (refl, refl),
        refl,
        (
          I32 ∷ I32 ∷ [],
          I32 ∷ [],
          [],
          (refl, refl),
          refl,
          (
            I32 ∷ [],
            [],
            [],
            (I32 ∷ [], [], refl, refl),
            refl,
            ([], I32 ∷ [], [], tt, refl, refl),
          ),
        ),
      ),
    ),
  );
  integer = (tt, (tt, (tt, (tt, (tt, (tt, tt))))));
  locals = (tt, tt);
})
each (suc (suc f)) fn e = absurd cc

pub pair_typed : PairTyped
pair_typed = record {
  typed_module = record { same_types = refl; same_functions = refl; each = each };
  typed_store = record { memory = record { count = 0; whole = refl; bounded = refl; bytes = tt }; table = tt; globals = record { typed = refl; words = tt } };
  function = refl;
  arguments = record { typed = refl; words = (omega arith, tt) };
}
