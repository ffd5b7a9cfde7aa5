-- An integer operator on operands of its types gives a word of its result type, or a trap.
use Rattle.std.proofs.Common.{◌≡◌, ℕ, ◌%◌, ◌^◌, Bool, true, false, List, [], ◌∷◌, Option, Some, Result, Ok, Err, refl, ap, arith}
use Rattle.std.specs.Prelude.{option_map, reverse, nat_eq}
use Rattle.wsyntax.specs.declared.types.ValType.{ValType}
use Rattle.wsyntax.specs.declared.types.ValType.TheVariants.{I32, I64}
use Rattle.wsyntax.specs.Instructions.{Width, Width32, Width64, NumOp, OfOne, OfTwo, Eqz, Comparing, Wrap, ExtendS, ExtendU, ExtendLow, FloatOp}
use Rattle.wnum.specs.declared.trap.NumTrap.{NumTrap}
use Rattle.wnum.specs.Arithmetic.{bits, unary, binary, compare_by, extended}
use Rattle.wsyntax.specs.Validation.Typing.{type_at, operands, results}
use Rattle.wsyntax.specs.declared.value.Value.{Value}
use Rattle.wsyntax.specs.Execution.Values.{type_of, IsWord, word, truth}
use Rattle.wsyntax.specs.Execution.Numerics.{Computed, with_one, with_two, in_word, apply}
use Rattle.wsyntax.specs.Execution.ConfigTyped.{ValuesTyped, IntegerNum}
use Rattle.soundness.proofs.Chapter4.Stacks.{number_ok, push, no_values}

-- a value of these types, or a trap
abbrev pub Computes : List ValType → Computed → Type 0
Computes q (Ok v) = ValuesTyped (v ∷ []) q
Computes q (Err trap) = Unit {0}

pub record Applies (q : List ValType) (o : Option Computed) : Type 0 where
  pub result : Computed
  pub is : o ≡ Some result
  pub typed : Computes q result

with_one_ok : (t : ValType) (q : List ValType) (vs : List Value) (f : ℕ → Computed) → ValuesTyped vs (t ∷ []) → ((n : ℕ) → Computes q (f n)) → Applies q (with_one t vs f)
with_one_ok t q [] f h k = let e = h.typed in absurd cc
with_one_ok t q (v ∷ []) f h k =
    let e = h.typed in
    let tv : type_of v ≡ t = cc in
    let n = number_ok v tv in record { result = f n.0; is = ap (option_map f) n.1; typed = k n.0 }
with_one_ok t q (v ∷ u ∷ vs) f h k = let e = h.typed in absurd cc

with_two_ok : (t : ValType) (q : List ValType) (vs : List Value) (f : ℕ → ℕ → Computed) → ValuesTyped vs (t ∷ t ∷ []) → ((x y : ℕ) → Computes q (f x y)) → Applies q (with_two t vs f)
with_two_ok t q [] f h k = let e = h.typed in absurd cc
with_two_ok t q (v ∷ []) f h k = let e = h.typed in absurd cc
with_two_ok t q (v ∷ u ∷ []) f h k =
    let e = h.typed in
    let tv : type_of v ≡ t = cc in
    let tu : type_of u ≡ t = cc in
    let x = number_ok u tu in
    let y = number_ok v tv in
    record { result = f x.0 y.0; is = cc (x.1, y.1); typed = k x.0 y.0 }
with_two_ok t q (v ∷ u ∷ w ∷ vs) f h k = let e = h.typed in absurd cc

pub is_word : (w : Width) (n : ℕ) → IsWord (word w n)
is_word Width32 n = omega arith
is_word Width64 n = omega arith

pub word_type : (w : Width) (n : ℕ) → type_of (word w n) ≡ type_at w
word_type Width32 n = refl
word_type Width64 n = refl

one_word : (w : Width) (n : ℕ) → ValuesTyped (word w n ∷ []) (type_at w ∷ [])
one_word w n = push (word w n) (word_type w n) (is_word w n) no_values

truth_typed : (b : Bool) → ValuesTyped (truth b ∷ []) (I32 ∷ [])
truth_typed true = record { typed = refl; words = (omega arith, tt) }
truth_typed false = record { typed = refl; words = (omega arith, tt) }

in_word_ok : (w : Width) (r : Result ℕ NumTrap) → Computes (type_at w ∷ []) (in_word w r)
in_word_ok w (Ok x) = one_word w x
in_word_ok w (Err trap) = tt

pub apply_ok : (op : NumOp) (vs : List Value) → IntegerNum op → ValuesTyped vs (reverse (operands op)) → Applies (reverse (results op)) (apply op vs)
apply_ok (OfOne w f) vs i h = with_one_ok (type_at w) _ vs _ h (λ x. one_word w (unary (bits w) f x))
apply_ok (OfTwo w f) vs i h = with_two_ok (type_at w) _ vs _ h (λ x y. in_word_ok w (binary (bits w) f x y))
apply_ok (Eqz w) vs i h = with_one_ok (type_at w) _ vs _ h (λ x. truth_typed (nat_eq x 0))
apply_ok (Comparing w f) vs i h = with_two_ok (type_at w) _ vs _ h (λ x y. truth_typed (compare_by (bits w) f x y))
apply_ok Wrap vs i h = with_one_ok I64 _ vs _ h (λ x. one_word Width32 x)
apply_ok ExtendS vs i h = with_one_ok I32 _ vs _ h (λ x. one_word Width64 (extended 32 64 x))
apply_ok ExtendU vs i h = with_one_ok I32 _ vs _ h (λ x. one_word Width64 x)
apply_ok (ExtendLow w n) vs i h = with_one_ok (type_at w) _ vs _ h (λ x. one_word w (extended n (bits w) (x % 2 ^ n)))
apply_ok (FloatOp f) vs i h = absurd i
