-- Where no float is mentioned, there is none in types, locals and code.
use Rattle.std.proofs.Common.{◌≡◌, ℕ, zero, suc, Bool, false, List, [], ◌∷◌, ◌++◌, replicate, arith, inl, inr, refl, subst}
use Rattle.std.specs.Prelude.{slice_get, nat_lt, ◌&&◌, Some}
use Rattle.std.proofs.lemmas.Bool.{or_parts, or_from, and_cases, ltb-false}
use Rattle.wsyntax.specs.declared.types.ValType.{ValType}
use Rattle.wsyntax.specs.declared.types.ValType.TheVariants.{I32, I64, F32, F64}
use Rattle.wsyntax.specs.Instructions.{NumOp, FloatOp, Op, MemoryLoad, MemoryStore, Const, Numeric, Code, Stop, Plain, Block, Loop, If, IfElse, Token, End, Else, flat, flat_body}
use Rattle.wsyntax.specs.Validation.ModuleContext.{declared}
use Rattle.wsyntax.specs.declared.module.LocalRun.{LocalRun}
use Rattle.wsyntax.specs.Execution.ConfigTyped.{IsInteger, AreIntegers, IntegerNum, IntegerOp, IntegerCode}
use Rattle.wsyntax.specs.Execution.Start.{is_float, any, is_float_operator, is_float_op, token_has_floats, run_has_floats}

-- none of a list, none of its parts
any_join : {A : Type 0} (test : A → Bool) (xs ys : List A) → any test (xs ++ ys) ≡ false → (any test xs ≡ false) × (any test ys ≡ false)
any_join test [] ys e = (refl, e)
any_join test (x ∷ xs) ys e =
    let h = or_parts (test x) (any test (xs ++ ys)) e in
    let k = any_join test xs ys h.1 in
    (or_from (test x) (any test xs) h.0 k.0, k.1)

-- none of a list, not the one at a position
pub any_at : {A : Type 0} (test : A → Bool) (xs : List A) (k : ℕ) (x : A) → any test xs ≡ false → slice_get xs k ≡ Some x → test x ≡ false
any_at test [] k x e is = absurd cc
any_at {A = A} test (y ∷ xs) zero x e is =
    let h = or_parts (test y) (any test xs) e in
    let same : y ≡ x = cc in
    subst (λ (z : A). test z ≡ false) same h.0
any_at test (y ∷ xs) (suc k) x e is = any_at test xs k x (or_parts (test y) (any test xs) e).1 is

pub integer_type : (t : ValType) → is_float t ≡ false → IsInteger t
integer_type I32 e = tt
integer_type I64 e = tt
integer_type F32 e = absurd cc
integer_type F64 e = absurd cc

integer_num : (f : NumOp) → is_float_operator f ≡ false → IntegerNum f
integer_num (FloatOp f) e = absurd cc
integer_num _ e = tt

integer_op : (i : Op) → is_float_op i ≡ false → IntegerOp i
integer_op (Const t n) e = integer_type t e
integer_op (Numeric f) e = integer_num f e
integer_op (MemoryLoad a) e = integer_type a.of_type e
integer_op (MemoryStore a) e = integer_type a.of_type e
integer_op _ e = tt

-- the tokens of a body and of what follows it
after_end : (ts : List Token) → any token_has_floats (End ∷ ts) ≡ false → any token_has_floats ts ≡ false
after_end ts e = (or_parts false (any token_has_floats ts) e).1

after_else : (ts : List Token) → any token_has_floats (Else ∷ ts) ≡ false → any token_has_floats ts ≡ false
after_else ts e = (or_parts false (any token_has_floats ts) e).1

integer_flat : (code : Code) → any token_has_floats (flat code) ≡ false → IntegerCode code
integer_flat Stop e = tt
integer_flat (Plain i rest) e = let h = or_parts (is_float_op i) _ e in (integer_op i h.0, integer_flat rest h.1)
integer_flat (Block t body rest) e =
    let h = any_join token_has_floats (flat body) (End ∷ flat rest) (or_parts _ (any token_has_floats (flat body ++ End ∷ flat rest)) e).1 in
    (integer_flat body h.0, integer_flat rest (after_end (flat rest) h.1))
integer_flat (Loop t body rest) e =
    let h = any_join token_has_floats (flat body) (End ∷ flat rest) (or_parts _ (any token_has_floats (flat body ++ End ∷ flat rest)) e).1 in
    (integer_flat body h.0, integer_flat rest (after_end (flat rest) h.1))
integer_flat (If t body rest) e =
    let h = any_join token_has_floats (flat body) (End ∷ flat rest) (or_parts _ (any token_has_floats (flat body ++ End ∷ flat rest)) e).1 in
    (integer_flat body h.0, integer_flat rest (after_end (flat rest) h.1))
integer_flat (IfElse t body other rest) e =
    let h = any_join token_has_floats (flat body) (Else ∷ (flat other ++ End ∷ flat rest)) (or_parts _ (any token_has_floats (flat body ++ Else ∷ (flat other ++ End ∷ flat rest))) e).1 in
    let k = any_join token_has_floats (flat other) (End ∷ flat rest) (after_else (flat other ++ End ∷ flat rest) h.1) in
    (integer_flat body h.0, integer_flat other k.0, integer_flat rest (after_end (flat rest) k.1))

pub integer_code : (code : Code) → any token_has_floats (flat_body code) ≡ false → IntegerCode code
integer_code code e = integer_flat code (any_join token_has_floats (flat code) (End ∷ []) e).0

-- Declared locals.

integers_join : (ts us : List ValType) → AreIntegers ts → AreIntegers us → AreIntegers (ts ++ us)
integers_join [] us h k = k
integers_join (t ∷ ts) us h k = (h.0, integers_join ts us h.1 k)

integers_again : (n : ℕ) (t : ValType) → IsInteger t → AreIntegers (replicate n t)
integers_again zero t h = tt
integers_again (suc n) t h = (h, integers_again n t h)

integers_run : (n : ℕ) (t : ValType) → (nat_lt 0 n && is_float t) ≡ false → AreIntegers (replicate n t)
integers_run zero t e = tt
integers_run (suc n) t e = elim (and_cases (nat_lt 0 (suc n)) (is_float t) e) [
  | inl h ↦ absurd (omega (arith, ltb-false 0 (suc n) h))
  | inr h ↦ integers_again (suc n) t (integer_type t h)
]

pub integer_locals : (runs : List LocalRun) → any run_has_floats runs ≡ false → AreIntegers (declared runs)
integer_locals [] e = tt
integer_locals (run ∷ runs) e =
    let h = or_parts (run_has_floats run) (any run_has_floats runs) e in
    integers_join (replicate run.count run.val_type) (declared runs) (integers_run run.count run.val_type h.0) (integer_locals runs h.1)
