-- An expression of one instruction and its end, as it is read.
use Rattle.std.proofs.Common.{◌≡◌, ℕ, ℤ, suc, ◌-◌, true, List, [], ◌∷◌, length, Some, refl, sym, ap, ◌∙◌, arith}
use Rattle.wnum.specs.Arithmetic.{unsigned}
use Rattle.wsyntax.specs.declared.ValType.TheVariants.{I32}
use Rattle.wsyntax.specs.declared.instructions.Token.TheVariants as held
use Rattle.wsyntax.specs.declared.module.ConstExpr.{ConstExpr}
use Rattle.wsyntax.specs.declared.module.ConstExpr.TheVariants as initial
use Rattle.wsyntax.specs.Instructions.{Op, Token, Do, End, Const}
use Rattle.wsyntax.specs.Initials.{is_const_or_get}
use Rattle.wsyntax.specs.Modules.{initial_tokens}
use Rattle.wsyntax.specs.Binary.Nesting.{token_at, tokens_at, expression}
use Rattle.wdecode.specs.Gives.{Begins, ReadsPlain}
use Rattle.wdecode.proofs.FlatLoop.{token_shorter}

end_read : (rest : List ℕ) → token_at (0x0B ∷ rest) ≡ Some (End, rest)
unfolding token_at
end_read rest = refl

two_read : (n : ℕ) (bytes rest after : List ℕ) (i : Op) → Begins bytes (Do i) rest → rest ≡ 0x0B ∷ after
    → tokens_at (suc (suc n)) [] bytes ≡ Some (Do i ∷ End ∷ [], after)
two_read n bytes rest after i first is = rw (first, is, end_read after) refl

one_alone : (bytes rest after : List ℕ) (i : Op) → Begins bytes (Do i) rest → rest ≡ 0x0B ∷ after
    → expression.read bytes ≡ Some (Do i ∷ End ∷ [], after)
unfolding expression
one_alone bytes rest after i first is =
    let shorter = token_shorter bytes (Do i) rest first in
    let some : length rest ≡ suc (length after) = ap length is in
    let fuel : length bytes ≡ suc (suc (length bytes - 2)) = omega arith in
    ap (λ (n : ℕ). tokens_at n [] bytes) fuel ∙ two_read (length bytes - 2) bytes rest after i first is

-- a constant and a global.get are instructions
instruction_is : (t : Token) → true ≡ is_const_or_get t → (i : Op) × (t ≡ Do i)
instruction_is (Do i) is = (i, refl)
instruction_is _ is = absurd cc

-- one of these and an end
pub single_given : (bytes rest after : List ℕ) (t : Token) (x : ConstExpr) → Begins bytes t rest → rest ≡ 0x0B ∷ after
    → true ≡ is_const_or_get t → initial_tokens x ≡ t ∷ End ∷ [] → expression.read bytes ≡ Some (initial_tokens x, after)
single_given bytes rest after t x begins is form tokens =
    let i = instruction_is t form in
    one_alone bytes rest after i.0 (begins ∙ ap (λ (u : Token). let y : Token × List ℕ = (u, rest) in Some y) i.1) is
    ∙ ap (λ (l : List Token). let y : List Token × List ℕ = (l, after) in Some y)
    (sym (tokens ∙ ap (λ (u : Token). u ∷ End ∷ []) i.1))

-- a constant i32 and an end
pub number_given : (bytes front rest after : List ℕ) (b : ℕ) (n : ℤ) → bytes ≡ b ∷ front
    → ReadsPlain (b ∷ front) (held.I32Const n) rest → rest ≡ 0x0B ∷ after
    → expression.read bytes ≡ Some (initial_tokens (initial.I32Const n), after)
number_given bytes front rest after b n whole reads is =
    let j = reads.2 [] in
    let first = ap token_at whole ∙ j.2 ∙ ap (λ (u : Token). let y : Token × List ℕ = (u, rest) in Some y) (sym j.1) in
    one_alone bytes rest after (Const I32 (unsigned 32 n)) first is
