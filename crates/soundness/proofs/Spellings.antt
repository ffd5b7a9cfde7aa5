-- Examples of bytes that spell a number, a block type or a name, and of bytes just past the edges that spell none.
use Rattle.std.proofs.Common.{◌≡◌, ℕ, ◌<◌, List, [], ◌∷◌, ◌++◌, length, true, false, Some, None, refl, sym, ap, ◌∙◌, subst, append-nil, arith}
use Rattle.std.specs.Str.{IsUtf8, is_utf8, chars}
use Rattle.std.proofs.lemmas.Str.{is_utf8-from_IsUtf8}
use Rattle.wnum.specs.Number.{SpellsUnsigned}
use Rattle.wnum.specs.Reading.{unsigned_at, signed_at}
use Rattle.wnum.proofs.Numbers.{unsigned_reads, signed_reads}
use Rattle.wsyntax.specs.Binary.Production.{Production, Agrees}
use Rattle.wsyntax.specs.Binary.Values.{u32, s32, s33, s64, name}
use Rattle.wsyntax.specs.Binary.Types.{block_type}
use Rattle.soundness.specs.Spellings.{SpellNone, UnsignedSpellings, SignedSpellings, BlockTypeReadings, NameSpellings}

-- What is read is spelled.

whole : {A : Type 0} (p : Production A) → Agrees p → (bytes : List ℕ) (a : A) → p.read bytes ≡ Some (a, []) → p.spells bytes a
whole {A} p agrees bytes a e =
    let h = agrees.sound bytes a [] e in
    subst (λ bs. p.spells bs a) (sym (h.2 ∙ append-nil h.0)) h.1

none : {A : Type 0} (p : Production A) → Agrees p → (bytes : List ℕ) → p.read bytes ≡ None → SpellNone p bytes
none {A} p agrees bytes e a h =
    let r : p.read bytes ≡ Some (a, []) = subst (λ bs. p.read bs ≡ Some (a, [])) (append-nil bytes) (agrees.complete bytes a [] h) in
    absurd cc

-- Numbers.

spelled_u32 : (bytes : List ℕ) (n : ℕ) → unsigned_at 32 bytes ≡ Some (n, []) → u32.spells bytes n
spelled_u32 = whole u32 (unsigned_reads 32)

none_u32 : (bytes : List ℕ) → unsigned_at 32 bytes ≡ None → SpellNone u32 bytes
none_u32 = none u32 (unsigned_reads 32)

pub unsigned_spellings : UnsignedSpellings
unfolding unsigned_at
unsigned_spellings = record {
  zero_in_one = spelled_u32 _ _ refl;
  zero_in_two = spelled_u32 _ _ refl;
  zero_in_five = spelled_u32 _ _ refl;
  not_in_six = none_u32 _ refl;
  two_groups = spelled_u32 _ _ refl;
  greatest = spelled_u32 _ _ refl;
  past_the_greatest = none_u32 _ refl;
  not_ended = none_u32 _ refl;
  ended_before = λ a h. omega (arith, h.number.0);
  no_byte = none_u32 _ refl;
}

pub signed_spellings : SignedSpellings
unfolding signed_at
signed_spellings = record {
  minus_one = whole s32 (signed_reads 32) _ _ refl;
  minus_one_in_five = whole s32 (signed_reads 32) _ _ refl;
  sixty_three = whole s32 (signed_reads 32) _ _ refl;
  minus_sixty_four = whole s32 (signed_reads 32) _ _ refl;
  sixty_four = whole s32 (signed_reads 32) _ _ refl;
  greatest = whole s32 (signed_reads 32) _ _ refl;
  least = whole s32 (signed_reads 32) _ _ refl;
  not_with_sign = none s32 (signed_reads 32) _ refl;
  past_the_least = none s32 (signed_reads 32) _ refl;
  not_in_six = none s32 (signed_reads 32) _ refl;
  of_33_bits = whole s33 (signed_reads 33) _ _ refl;
  least_of_33_bits = whole s33 (signed_reads 33) _ _ refl;
  least_of_64_bits = whole s64 (signed_reads 64) _ _ refl;
}

pub block_type_readings : BlockTypeReadings
unfolding block_type unsigned_at signed_at
block_type_readings = record { index = refl; longer_index = refl; value_type = refl; minus_one = refl; least = refl }

-- Names.

-- a count in one byte is that byte
count_is : (n k : ℕ) (x y rest : List ℕ) → n < 128 → SpellsUnsigned 32 x k → n ∷ rest ≡ x ++ y → (n ≡ k) × (rest ≡ y)
count_is n k [] y rest l h e = absurd h.number
count_is n k (b ∷ []) y rest l h e =
    let same : n ≡ b = cc in
    (omega (arith, h.value, l), cc)
count_is n k (b ∷ c ∷ x) y rest l h e =
    let same : n ≡ b = cc in
    absurd (omega (arith, h.number.0, l))

-- so a name after the count n is all of the other bytes: there are n of them, and they are UTF-8
name_is : (n : ℕ) (rest a : List ℕ) → n < 128 → name.spells (n ∷ rest) a → (length rest ≡ n) × IsUtf8 rest
unfolding name
name_is n rest a l (x, y, s, e, (x', y', k, e', num, (same, count)), (nil, is, utf8)) =
    let one : n ∷ rest ≡ x' ++ y' = e ∙ ap (λ z. x ++ z) nil ∙ append-nil x ∙ e' in
    let r = count_is n k x' y' rest l num one in
    let all : rest ≡ s = r.1 ∙ same in
    (ap length all ∙ count ∙ sym r.0, subst IsUtf8 (sym all) utf8)

-- bytes that are no UTF-8 are no name
no_name : (n : ℕ) (rest : List ℕ) → n < 128 → is_utf8 rest ≡ false → SpellNone name (n ∷ rest)
no_name n rest l e a h =
    let t : is_utf8 rest ≡ true = is_utf8-from_IsUtf8 rest (name_is n rest a l h).1 in
    absurd cc

pub name_spellings : NameSpellings
unfolding name is_utf8 chars unsigned_at lib.Utf8.encode
name_spellings = record {
  no_bytes = (0 ∷ [], [], [], refl, (0 ∷ [], [], 0, refl, spelled_u32 _ _ refl, (refl, refl)), (refl, refl, ([], (refl, refl))));
  two_bytes = (0x02 ∷ 0xC3 ∷ 0xA9 ∷ [], [], 0xC3 ∷ 0xA9 ∷ [], refl, (0x02 ∷ [], 0xC3 ∷ 0xA9 ∷ [], 2, refl, spelled_u32 _ _ refl, (refl, refl)), (refl, refl, (0xE9 ∷ [], (refl, refl))));
  overlong = no_name _ _ (omega arith) refl;
  surrogate = no_name _ _ (omega arith) refl;
  past_the_last = no_name _ _ (omega arith) refl;
  continuation_alone = no_name _ _ (omega arith) refl;
  short = λ a h. omega (arith, (name_is 2 (0x61 ∷ []) a (omega arith) h).0);
}
