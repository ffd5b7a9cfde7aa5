-- Bytes that are read and written from an address on.
use Rattle.std.proofs.Common.{◌≡◌, ℕ, zero, suc, ◌+◌, ◌<◌, ◌≤◌, Bool, true, false, Some, None, if◌then◌else◌, List, [], ◌∷◌, ◌++◌, length, take, drop, get_or, slice_set, sym, ap, ◌∙◌, arith, length-drop}
use Rattle.std.specs.Prelude.{nat_le}
use Rattle.std.proofs.lemmas.Bool.{le-leb}
use Rattle.std.proofs.lemmas.List.{get_or-drop}
use Rattle.wsyntax.specs.Table.{little_endian}
use Rattle.wsyntax.specs.Execution.Store.{read}

-- the number in the byte at an address is that byte
one_byte : (bytes : List ℕ) (at : ℕ) → at < length bytes → little_endian (take 1 (drop at bytes)) ≡ get_or bytes at 0
one_byte [] at h = absurd (omega (arith, h))
one_byte (b ∷ bytes) zero h = omega arith
one_byte (b ∷ bytes) (suc at) h = one_byte bytes at (omega (arith, h))

passes : (b : Bool) (x v : ℕ) → b ≡ true → Some v ≡ (if b then Some x else None) → v ≡ x
passes true x v e is = cc
passes false x v e is = absurd cc

-- what is read there
pub byte_read : (bytes : List ℕ) (at v : ℕ) → at < length bytes → Some v ≡ read bytes at 1 → v ≡ get_or bytes at 0
byte_read bytes at v within is =
    passes (nat_le (at + 1) (length bytes)) (little_endian (take 1 (drop at bytes))) v (le-leb (at + 1) (length bytes) (omega (arith, within))) is ∙ one_byte bytes at within

-- the first n bytes of `source` over those of `old`
abbrev pub over : ℕ → List ℕ → List ℕ → List ℕ
over n source old = take n source ++ drop n old

-- one more
over_more : (i v : ℕ) (source old : List ℕ) → i < length source → i < length old → v ≡ get_or source i 0 → slice_set (over i source old) i v ≡ over (suc i) source old
over_more i v [] old h k e = absurd (omega (arith, h))
over_more i v (x ∷ source) [] h k e = absurd (omega (arith, k))
over_more zero v (x ∷ source) (y ∷ old) h k e = ap (λ z. z ∷ old) e
over_more (suc i) v (x ∷ source) (y ∷ old) h k e = ap (λ (r : List ℕ). x ∷ r) (over_more i v source old (omega (arith, h)) (omega (arith, k)) e)

-- one more byte of those from an address on
pub copied_more : (at i v : ℕ) (bytes old : List ℕ) → at + length old ≤ length bytes → i < length old → v ≡ get_or bytes (at + i) 0
    → slice_set (over i (drop at bytes) old) i v ≡ over (suc i) (drop at bytes) old
copied_more at i v bytes old within below is =
    over_more i v (drop at bytes) old (omega (arith, within, below, length-drop at bytes)) below (is ∙ sym (get_or-drop at bytes i 0))
