-- Bytes that are written one by one are written together.
use Rattle.std.proofs.Common.{◌≡◌, ℕ, suc, ◌+◌, ◌/◌, ◌%◌, ◌≤◌, List, [], ◌∷◌, length, set, ◌∙◌, arith, append_assoc}
use Rattle.std.proofs.lemmas.List.Edits.{sets, sets-eq}
use Rattle.wsyntax.specs.Execution.Store.{to_bytes}
use Rattle.wsyntax.specs.Execution.Allocation.{overwrite}

-- bytes set one after the other
pub sets-overwrite : (vs bs : List ℕ) (at : ℕ) → at + length vs ≤ length bs → sets bs at vs ≡ overwrite at vs bs
sets-overwrite vs bs at within = sets-eq vs bs at within ∙ simp append_assoc

-- four bytes
pub put_four : (bs : List ℕ) (at a b c d : ℕ) → at + 4 ≤ length bs
    → set (set (set (set bs at a) (at + 1) b) (at + 2) c) (at + 3) d ≡ overwrite at (a ∷ b ∷ c ∷ d ∷ []) bs
put_four bs at a b c d within =
    let one : at + 1 ≡ suc at = omega arith in
    let two : at + 2 ≡ suc (suc at) = omega arith in
    let three : at + 3 ≡ suc (suc (suc at)) = omega arith in
    rw (one, two, three) (sets-overwrite (a ∷ b ∷ c ∷ d ∷ []) bs at within)

-- eight bytes
pub put_eight : (bs : List ℕ) (at a b c d e f g h : ℕ) → at + 8 ≤ length bs
    → set (set (set (set (set (set (set (set bs at a) (at + 1) b) (at + 2) c) (at + 3) d) (at + 4) e) (at + 5) f) (at + 6) g) (at + 7) h
    ≡ overwrite at (a ∷ b ∷ c ∷ d ∷ e ∷ f ∷ g ∷ h ∷ []) bs
put_eight bs at a b c d e f g h within =
    let one : at + 1 ≡ suc at = omega arith in
    let two : at + 2 ≡ suc (suc at) = omega arith in
    let three : at + 3 ≡ suc (suc (suc at)) = omega arith in
    let four : at + 4 ≡ suc (suc (suc (suc at))) = omega arith in
    let five : at + 5 ≡ suc (suc (suc (suc (suc at)))) = omega arith in
    let six : at + 6 ≡ suc (suc (suc (suc (suc (suc at))))) = omega arith in
    let seven : at + 7 ≡ suc (suc (suc (suc (suc (suc (suc at)))))) = omega arith in
    rw (one, two, three, four, five, six, seven) (sets-overwrite (a ∷ b ∷ c ∷ d ∷ e ∷ f ∷ g ∷ h ∷ []) bs at within)

-- the third byte and those after it, by one division each
pub byte_two : (n : ℕ) → n / 65536 ≡ n / 256 / 256
byte_two n = omega arith

pub byte_three : (n : ℕ) → n / 16777216 ≡ n / 256 / 256 / 256
byte_three n = omega arith

pub byte_four : (n : ℕ) → n / 4294967296 ≡ n / 256 / 256 / 256 / 256
byte_four n = omega arith

pub byte_five : (n : ℕ) → n / 1099511627776 ≡ n / 256 / 256 / 256 / 256 / 256
byte_five n = omega arith

pub byte_six : (n : ℕ) → n / 281474976710656 ≡ n / 256 / 256 / 256 / 256 / 256 / 256
byte_six n = omega arith

pub byte_seven : (n : ℕ) → n / 72057594037927936 ≡ n / 256 / 256 / 256 / 256 / 256 / 256 / 256
byte_seven n = omega arith

-- the four and eight lowest bytes of a number
pub put_32 : (bs : List ℕ) (at n : ℕ) → at + 4 ≤ length bs
    → set (set (set (set bs at (n % 256)) (at + 1) (n / 256 % 256)) (at + 2) (n / 65536 % 256)) (at + 3) (n / 16777216 % 256) ≡ overwrite at (to_bytes 4 n) bs
put_32 bs at n within = rw (byte_two n, byte_three n) (put_four bs at _ _ _ _ within)

pub put_64 : (bs : List ℕ) (at n : ℕ) → at + 8 ≤ length bs
    → set (set (set (set (set (set (set (set bs at (n % 256)) (at + 1) (n / 256 % 256)) (at + 2) (n / 65536 % 256)) (at + 3) (n / 16777216 % 256))
    (at + 4) (n / 4294967296 % 256)) (at + 5) (n / 1099511627776 % 256)) (at + 6) (n / 281474976710656 % 256)) (at + 7) (n / 72057594037927936 % 256)
    ≡ overwrite at (to_bytes 8 n) bs
put_64 bs at n within = rw (byte_two n, byte_three n, byte_four n, byte_five n, byte_six n, byte_seven n) (put_eight bs at _ _ _ _ _ _ _ _ within)
