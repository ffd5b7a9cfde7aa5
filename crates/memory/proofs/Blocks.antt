-- A byte is zero where neither its block nor that of the address 7 before it is marked: clearing, storing and writing keep this.
use Rattle.std.proofs.Common.{◌≡◌, ◌≢◌, ℕ, ◌+◌, ◌-◌, ◌*◌, ◌/◌, ◌<◌, ◌≤◌, min, List, length, set, get_or, Bool, true, false, true≢false, sym, ap, ◌∙◌, ⊎_elim, ◌⊎◌, inl, inr, arith, get_or-set_same, get_or-set_other}
use Rattle.std.proofs.lemmas.List.{get_or_past}
use Rattle.std.proofs.lemmas.Bool.{cases_eq, cases_lt}
use Rattle.memory.specs.Zeros.{AreZeroUnmarked}

-- a mark that is taken away leaves the others
pub unset : (marks : List Bool) (i b : ℕ) → i < length marks → get_or marks b false ≡ false → get_or (set marks i false) b false ≡ false
unset marks i b within was =
    ⊎_elim (λ (e : b ≡ i). rw e (get_or-set_same marks i false false within)) (λ (ne : b ≢ i). get_or-set_other marks i b false false ne ∙ was) (cases_eq b i)

-- a block that has no mark after one is set is another
pub other_block : (marks : List Bool) (i b : ℕ) → i < length marks → get_or (set marks i true) b false ≡ false → b ≢ i
other_block marks i b within unmarked same =
    let at_i : get_or (set marks i true) i false ≡ false = ap (λ j. get_or (set marks i true) j false) (sym same) ∙ unmarked in
    true≢false (sym (get_or-set_same marks i true false within) ∙ at_i)

-- and it had none before
pub was_unmarked : (marks : List Bool) (i b : ℕ) → i < length marks → get_or (set marks i true) b false ≡ false → get_or marks b false ≡ false
was_unmarked marks i b within unmarked = sym (get_or-set_other marks i b true false (other_block marks i b within unmarked)) ∙ unmarked

-- an address that is not below the lesser of two ends lies past one of them
ends_by : (a b to k : ℕ) → to ≡ min a b → to ≤ k → (b ≤ k) ⊎ (a ≤ k)
ends_by a b to k is past = ⊎_elim (λ (h : k < b). inr (omega arith)) (λ (h : b ≤ k). inl h) (cases_lt k b)

-- the bytes of a block and of its reach are zero, and its mark is taken away
pub cleared : (bytes new : List ℕ) (marks : List Bool) (block to : ℕ) → to ≡ min (block * 4096 + 4096 + 7) (length bytes)
    → ((k : ℕ) → block * 4096 ≤ k → k < to → get_or new k 0 ≡ 0) → ((k : ℕ) → k < block * 4096 → get_or new k 0 ≡ get_or bytes k 0)
    → ((k : ℕ) → to ≤ k → get_or new k 0 ≡ get_or bytes k 0) → AreZeroUnmarked bytes marks → AreZeroUnmarked new (set marks block false)
cleared bytes new marks block to ends inside below above zero k own before =
    let kept : k / 4096 ≢ block → (k - 7) / 4096 ≢ block → get_or bytes k 0 ≡ 0 =
    λ ne ne'. zero k (sym (get_or-set_other marks block (k / 4096) false false ne) ∙ own) (sym (get_or-set_other marks block ((k - 7) / 4096) false false ne') ∙ before) in
    ⊎_elim
    (λ (h : k < block * 4096). below k h ∙ kept (omega arith) (omega arith))
    (λ (h : block * 4096 ≤ k).
    ⊎_elim
    (λ (h' : k < to). inside k h h')
    (λ (h' : to ≤ k). above k h' ∙ ⊎_elim
    (λ (past : length bytes ≤ k). get_or_past bytes k 0 past)
    (λ (past : block * 4096 + 4096 + 7 ≤ k). kept (omega arith) (omega arith))
    (ends_by (block * 4096 + 4096 + 7) (length bytes) to k ends h'))
    (cases_lt k to))
    (cases_lt k (block * 4096))

-- bytes that a store may write, and the mark of its block
pub stored : (bytes new : List ℕ) (marks : List Bool) (at width : ℕ) → at / 4096 < length marks → width ≤ 8
    → ((k : ℕ) → k < at → get_or new k 0 ≡ get_or bytes k 0) → ((k : ℕ) → at + width ≤ k → get_or new k 0 ≡ get_or bytes k 0)
    → AreZeroUnmarked bytes marks → AreZeroUnmarked new (set marks (at / 4096) true)
stored bytes new marks at width within narrow below above zero k own before =
    let ne : k / 4096 ≢ at / 4096 = other_block marks (at / 4096) (k / 4096) within own in
    let ne' : (k - 7) / 4096 ≢ at / 4096 = other_block marks (at / 4096) ((k - 7) / 4096) within before in
    let was : get_or bytes k 0 ≡ 0 = zero k (was_unmarked marks (at / 4096) (k / 4096) within own) (was_unmarked marks (at / 4096) ((k - 7) / 4096) within before) in
    ⊎_elim (λ (h : k < at). below k h ∙ was) (λ (h : at ≤ k). above k (omega arith) ∙ was) (cases_lt k at)

-- bytes that were written, and the marks of all their blocks
pub segment : (bytes new : List ℕ) (marks after : List Bool) (from to : ℕ)
    → ((k : ℕ) → k < from → get_or new k 0 ≡ get_or bytes k 0) → ((k : ℕ) → to ≤ k → get_or new k 0 ≡ get_or bytes k 0)
    → ((b : ℕ) → from / 4096 ≤ b → b * 4096 < to → get_or after b false ≡ true) → ((b : ℕ) → get_or after b false ≡ false → get_or marks b false ≡ false)
    → AreZeroUnmarked bytes marks → AreZeroUnmarked new after
segment bytes new marks after from to below above inside kept zero k own before =
    let was : get_or bytes k 0 ≡ 0 = zero k (kept (k / 4096) own) (kept ((k - 7) / 4096) before) in
    ⊎_elim (λ (h : k < from). below k h ∙ was)
    (λ (h : from ≤ k). ⊎_elim
    (λ (h' : k < to). absurd (true≢false (sym (inside (k / 4096) (omega arith) (omega arith)) ∙ own)))
    (λ (h' : to ≤ k). above k h' ∙ was)
    (cases_lt k to))
    (cases_lt k from)
