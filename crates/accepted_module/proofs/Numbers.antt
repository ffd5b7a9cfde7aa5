-- The numbers of expressions that are not one `t.const`.
use Rattle.std.proofs.Common.{◌≡◌, ◌⊎◌, inl, inr, ℕ, ℤ, false, List, [], ◌∷◌, refl, sym, ap, ◌∙◌}
use Rattle.wsyntax.specs.declared.types.ValType.{ValType}
use Rattle.wsyntax.specs.declared.types.ValType.TheVariants.{I32, I64, F32, F64}
use Rattle.wsyntax.specs.declared.types.GlobalType.{GlobalType}
use Rattle.wsyntax.specs.declared.module.ConstExpr.{ConstExpr}
use Rattle.wsyntax.specs.declared.module.ConstExpr.TheVariants as initial
use Rattle.wsyntax.specs.declared.other_expression.OtherExpression.{OtherExpression}
use Rattle.wsyntax.specs.Instructions.{Token, Do, Const, End}
use Rattle.wsyntax.specs.Initials.{tokens_read, has_constant_form}
use Rattle.wsyntax.specs.Modules.{initial_tokens}
use Rattle.wsyntax.specs.Validation.Rules.{ConstantOf, one_const, one_get}
use Rattle.wsyntax.specs.Execution.Start.{constant_in}
use Rattle.accepted_module.specs.Segments.{IsOffset}

-- of no constant form
no_form : (tokens : List Token) → has_constant_form tokens ≡ false → 0 ≡ constant_in tokens
no_form (Do (Const t n) ∷ End ∷ []) other = absurd cc
no_form _ other = refl

-- a global.get, or no constant
pub no_word : (e : ConstExpr) → ((x : ℕ) × (e ≡ initial.GlobalGet x)) ⊎ ((x : OtherExpression) × (e ≡ initial.Other x)) → 0 ≡ constant_in (initial_tokens e)
no_word e (inl h) = sym (ap (λ (d : ConstExpr). constant_in (initial_tokens d)) h.1)
no_word e (inr h) = no_form (tokens_read h.0.bytes.now) h.0.other ∙ sym (ap (λ (d : ConstExpr). constant_in (initial_tokens d)) h.1)

-- An offset that is no i32.const.

its_type : (globals : List GlobalType) (t : ValType) (n : ℕ) (tokens : List Token) → ConstantOf globals I32 tokens → tokens ≡ Do (Const t n) ∷ End ∷ [] → t ≡ I32
its_type globals t n _ (one_const m) is = cc
its_type globals t n _ (one_get x there) is = cc

pub other_offset : (e : ConstExpr) → IsOffset e → ((m : ℤ) → e ≡ initial.I32Const m → ⊥) → 0 ≡ constant_in (initial_tokens e)
other_offset (initial.I32Const m) constant other = absurd (other m refl)
other_offset (initial.I64Const m) constant other = let same : I64 ≡ I32 = its_type constant.0 I64 _ _ constant.1 refl in cc
other_offset (initial.F32Const bytes) constant other = let same : F32 ≡ I32 = its_type constant.0 F32 _ _ constant.1 refl in cc
other_offset (initial.F64Const bytes) constant other = let same : F64 ≡ I32 = its_type constant.0 F64 _ _ constant.1 refl in cc
other_offset (initial.GlobalGet x) constant other = refl
other_offset (initial.Other x) constant other = no_form (tokens_read x.bytes.now) x.other
