-- A number below 2^N is the number of its word.
use Rattle.std.proofs.Common.{◌≡◌, ℕ, suc, ◌+◌, ◌*◌, ◌/◌, ◌%◌, ◌^◌, ◌<◌, ◌≤◌, Bool, true, false, cond, List, [], ◌∷◌, length, take, drop, Some, None, ap, ◌∙◌, arith, leb-true}
use Rattle.std.proofs.Math.Pow.{pow_mono}
use Rattle.std.proofs.lemmas.Nat.{pow-add}
use Rattle.std.proofs.lemmas.List.{length-take}
use Rattle.std.specs.Prelude.{nat_le}
use Rattle.wnum.specs.Arithmetic.{Width, Width32, Width64, bits}
use Rattle.wsyntax.specs.Table.{little_endian}
use Rattle.wsyntax.specs.Execution.Store.{Memory, page, read, within}
use Rattle.wsyntax.specs.Execution.ConfigTyped.{AreBytes, MemoryTyped}
use Rattle.soundness.specs.Exact.{IsExact}
use Rattle.soundness.proofs.Chapter3.Basics.{both_true}
use Rattle.soundness.proofs.Chapter4.Stores.{bytes_front, bytes_back, pages_of}

pub exact : (w : Width) (n : ℕ) → n < 2 ^ bits w → IsExact w n
exact Width32 n h = let same : n % 2 ^ 32 ≡ n = omega arith in ap (λ k. Some k) same
exact Width64 n h = let same : n % 2 ^ 64 ≡ n = omega arith in ap (λ k. Some k) same

-- Loads.

-- the number of that many bytes
bytes_below : (bytes : List ℕ) → AreBytes bytes → little_endian bytes < 2 ^ (8 * length bytes)
bytes_below [] h = omega arith
bytes_below (b ∷ bs) h =
    let more : 2 ^ (8 * suc (length bs)) ≡ 256 * 2 ^ (8 * length bs) = ap (λ k. 2 ^ k) (omega arith) ∙ pow-add 2 8 (8 * length bs) in
    let below = bytes_below bs h.1 in
    let byte : b < 256 = h.0 in
    omega arith

some_is : (b : Bool) (k n : ℕ) → cond b (Some k) None ≡ Some n → k ≡ n
some_is true k n e = cc
some_is false k n e = absurd cc

pub load_exact : (w : Width) (bytes : List ℕ) (at width n : ℕ) → AreBytes bytes → 8 * width ≤ bits w → read bytes at width ≡ Some n → IsExact w n
load_exact w bytes at width n h le e =
    let part = take width (drop at bytes) in
    let is : little_endian part ≡ n = some_is (nat_le (at + width) (length bytes)) (little_endian part) n e in
    let small : little_endian part < 2 ^ (8 * length part) = bytes_below part (bytes_front width (drop at bytes) (bytes_back at bytes h)) in
    let fits : 2 ^ (8 * length part) ≤ 2 ^ bits w = pow_mono (omega (arith, length-take width (drop at bytes))) in
    exact w n (omega arith)

-- Sizes.

pub size_exact : (m : Memory) → MemoryTyped m → IsExact Width32 (length m.bytes / page)
size_exact m t =
    let bounds = both_true (within m.most t.count) _ t.bounded in
    let most = both_true (nat_le t.count 65536) _ bounds.1 in
    let le : t.count ≤ 65536 = leb-true _ _ most.0 in
    exact Width32 (length m.bytes / page) (omega (arith, pages_of (length m.bytes) t.count t.whole))
