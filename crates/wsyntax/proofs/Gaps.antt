-- The gaps in the table of opcodes (5.4).
use Rattle.std.proofs.Common.{◌≡◌, ℕ, ◌+◌, ◌-◌, ◌<◌, ◌≤◌, Bool, true, Option, Some, None, is_none, arith, refl, subst}
use Rattle.std.proofs.lemmas.Bool.{agree_below, agree_below_at}
use Rattle.wsyntax.specs.Table.{opcode_of}
use Rattle.wsyntax.specs.declared.opcode.Opcode.{Opcode}

-- no instruction begins with one of the `count` bytes from `first` on
abbrev pub is_gap : ℕ → ℕ → Bool
is_gap first count = agree_below (λ k. is_none (opcode_of (first + k))) (λ _. true) count

none_from : (o : Option Opcode) → is_none o ≡ true → o ≡ None
none_from None e = refl
none_from (Some x) e = cc

pub in_gap : (first count byte : ℕ) → is_gap first count ≡ true → first ≤ byte → byte < first + count → opcode_of byte ≡ None
in_gap first count byte gap low high =
    let position : first + (byte - first) ≡ byte = omega arith in
    let none = agree_below_at (λ k. is_none (opcode_of (first + k))) (λ _. true) count (byte - first) gap (omega arith) in
    none_from (opcode_of byte) (subst (λ k. is_none (opcode_of k) ≡ true) position none)
