-- What the operations on a memory in its buffer leave is what the definitions say.
use Rattle.std.proofs.Common.{◌≡◌, ◌≢◌, ℕ, zero, suc, ◌+◌, ◌*◌, ◌/◌, ◌<◌, ◌≤◌, List, Bool, false, ◌++◌, length, take, drop, replicate, set, get_or, true, Option, Some, refl, sym, ap, subst, ◌∙◌, arith, length-set, get_or-set_other}
use Rattle.std.specs.Prelude.{nat_le}
use Rattle.std.proofs.lemmas.List.{length-take-le, take_all, take-append-le, take-take, ext_get_or, get_or-take}
use Rattle.std.proofs.lemmas.Bool.{le-leb}
use Rattle.wsyntax.specs.Table.{little_endian}
use Rattle.wsyntax.specs.Execution.Store.{Memory, may_have, to_bytes, read, write, write_if, grow_if}
use Rattle.wsyntax.specs.Execution.Allocation.{overwrite}
use Rattle.wsyntax.specs.Execution.ConfigTyped.{AreBytes, MemoryTyped}
use Rattle.memory.specs.Zeros.{AreZero, AreZeroUnmarked}
use Rattle.memory.specs.Buffered.{Buffered, front_of, zeros, Writes, Overwrites, Grows, IsBuffered}
use Rattle.memory.proofs.Blocks.{stored, segment}
use Rattle.memory.proofs.Parts.{length-overwrite, overwrite-below, overwrite-above, take-overwrite, read_front, take-zeros, take_grown, take_bytes}

-- the bytes of a number are as many as asked for
length-to_bytes : (width n : ℕ) → length (to_bytes width n) ≡ width
length-to_bytes zero n = refl
length-to_bytes (suc width) n = ap suc (length-to_bytes width (n / 256))

-- a write within the bytes
write_within : (bs : List ℕ) (at width n : ℕ) → at + width ≤ length bs → write bs at width n ≡ Some (overwrite at (to_bytes width n) bs)
write_within bs at width n within =
    ap (λ t. write_if t bs at width n) (le-leb (at + width) (length bs) within)
    ∙ ap (λ w. Some (take at bs ++ (to_bytes width n ++ drop (at + w) bs))) (sym (length-to_bytes width n))

-- a read within the memory
pub did_read : (old : Buffered) (items slice : List ℕ) (n room at width result : ℕ) (most : Option ℕ) (pages : ℕ) → front_of items n most pages room ≡ old
    → n ≤ length items → at + width ≤ n → slice ≡ items → result ≡ little_endian (take width (drop at slice)) → Some result ≡ read old.memory.bytes at width
did_read old items slice n room at width result most pages view fits within whole is =
    let P : Buffered → Type 0 = λ o. Some result ≡ read o.memory.bytes at width in
    subst P view
    (let l : length (take n items) ≡ n = length-take-le n items fits in
    let t : nat_le (at + width) (length (take n items)) ≡ true = le-leb (at + width) (length (take n items)) (omega arith) in
    rw t (ap Some (is ∙ ap (λ ys. little_endian (take width (drop at ys))) whole ∙ ap little_endian (sym (read_front n at width items within)))))

-- what is written to the buffer within the memory is written to the memory
front_written : (items slice put xs : List ℕ) (n room at : ℕ) → n ≤ length items → room ≡ length items → at + length xs ≤ n → slice ≡ items → put ≡ overwrite at xs slice
    → take n (take room (put ++ drop (length put) items)) ≡ overwrite at xs (take n items)
front_written items slice put xs n room at fits all within whole wrote =
    let is : put ≡ overwrite at xs items = wrote ∙ ap (overwrite at xs) whole in
    let same : length put ≡ length items = ap length is ∙ length-overwrite at xs items (omega arith) in
    take-take n room (put ++ drop (length put) items) (omega arith)
    ∙ take-append-le n put (drop (length put) items) (omega arith)
    ∙ ap (take n) is ∙ take-overwrite at xs items n within fits

pub did_write : (old : Buffered) (items slice put : List ℕ) (n room at width bits : ℕ) (most : Option ℕ) (pages : ℕ) → front_of items n most pages room ≡ old
    → n ≤ length items → room ≡ length items → at + width ≤ n → slice ≡ items → put ≡ overwrite at (to_bytes width bits) slice
    → Writes old at width bits true (front_of (take room (put ++ drop (length put) items)) n most pages room)
did_write old items slice put n room at width bits most pages view fits all within whole wrote =
    let new = front_of (take room (put ++ drop (length put) items)) n most pages room in
    let P : Buffered → Type 0 = λ o. Writes o at width bits true new in
    let l : length (take n items) ≡ n = length-take-le n items fits in
    let few : at + length (to_bytes width bits) ≤ n = omega (arith, length-to_bytes width bits) in
    subst P view (
      write_within (take n items) at width bits (omega arith) ∙ ap Some (sym (front_written items slice put (to_bytes width bits) n room at fits all few whole wrote)),
      refl,
      refl,
    )

-- and so is a data segment
pub did_overwrite : (old : Buffered) (items slice put xs : List ℕ) (n room at : ℕ) (most : Option ℕ) (pages : ℕ) → front_of items n most pages room ≡ old
    → n ≤ length items → room ≡ length items → at + length xs ≤ length old.memory.bytes → slice ≡ items → put ≡ overwrite at xs slice
    → Overwrites old at xs (front_of (take room (put ++ drop (length put) items)) n most pages room)
did_overwrite old items slice put xs n room at most pages view fits all within whole wrote =
    let new = front_of (take room (put ++ drop (length put) items)) n most pages room in
    let P : Buffered → Type 0 = λ o. at + length xs ≤ length o.memory.bytes → Overwrites o at xs new in
    let l : length (take n items) ≡ n = length-take-le n items fits in
    subst P view (λ h.
    ap (λ ys. let b : Buffered = record { memory = record { bytes = ys; most = most; pages = pages }; room = room } in b)
    (front_written items slice put xs n room at fits all (omega arith) whole wrote)) within

-- what a `Vec` that was lent as a slice of as many elements has then
lent_back : {A : Type 0} (items put : List A) (room : ℕ) → room ≡ length items → length put ≡ length items → take room (put ++ drop (length put) items) ≡ put
lent_back items put room all same = take-append-le room put (drop (length put) items) (omega arith) ∙ take_all room put (omega arith)

-- it is still whole pages in its buffer where bytes within them are other ones
still_buffered : (items new : List ℕ) (marks after : List Bool) (n : ℕ) (most : Option ℕ) (pages : ℕ) → IsBuffered items marks n most pages
    → length new ≡ length items → length after ≡ length marks → ((b : ℕ) → n ≤ b * 4096 → get_or after b false ≡ get_or marks b false)
    → ((k : ℕ) → n ≤ k → get_or new k 0 ≡ get_or items k 0) → AreZeroUnmarked new after → IsBuffered new after n most pages
still_buffered items new marks after n most pages b same same' unused behind clean =
    record {
      count = b.count;
      whole = b.whole;
      bounded = b.bounded;
      fits = let h : n ≤ length items = b.fits in omega arith;
      covered = let h : length items ≤ length marks * 4096 = b.covered in omega arith;
      unused = λ i h. unused i h ∙ b.unused i h;
      behind = λ k h. behind k h ∙ b.behind k h;
      zero = clean;
    }

-- as after a write, which marks the block of its first byte
pub store_buffered : (items slice put : List ℕ) (marks lent after : List Bool) (n room count at width bits : ℕ) (most : Option ℕ) (pages : ℕ)
    → IsBuffered items marks n most pages → room ≡ length items → count ≡ length marks → 0 < width → width ≤ 8 → at + width ≤ n
    → slice ≡ items → put ≡ overwrite at (to_bytes width bits) slice → lent ≡ marks → after ≡ set lent (at / 4096) true
    → IsBuffered (take room (put ++ drop (length put) items)) (take count (after ++ drop (length after) marks)) n most pages
store_buffered items slice put marks lent after n room count at width bits most pages b all each some narrow within whole wrote whole' marked =
    let xs = to_bytes width bits in
    let few : length xs ≡ width = length-to_bytes width bits in
    let fits : n ≤ length items = b.fits in
    let covered : length items ≤ length marks * 4096 = b.covered in
    let is : put ≡ overwrite at xs items = wrote ∙ ap (overwrite at xs) whole in
    let is' : after ≡ set marks (at / 4096) true = marked ∙ ap (λ ms. set ms (at / 4096) true) whole' in
    let same : length put ≡ length items = ap length is ∙ length-overwrite at xs items (omega arith) in
    let same' : length after ≡ length marks = ap length is' ∙ length-set marks (at / 4096) true in
    let other : (k : ℕ) → at + width ≤ k → get_or (overwrite at xs items) k 0 ≡ get_or items k 0 = λ k h. overwrite-above at xs items k (omega arith) (omega arith) in
    rw (lent_back items put room all same, lent_back marks after count each same', is, is')
    (still_buffered items (overwrite at xs items) marks (set marks (at / 4096) true) n most pages b (sym (ap length is) ∙ same) (sym (ap length is') ∙ same')
    (λ i h. let ne : i ≢ at / 4096 = omega arith in get_or-set_other marks (at / 4096) i true false ne)
    (λ k h. other k (omega arith))
    (stored items (overwrite at xs items) marks at width (omega arith) narrow (λ k h. overwrite-below at xs items k (omega arith) h) other b.zero))

-- and after a data segment, which marks all its blocks
pub segment_buffered : (items slice put xs : List ℕ) (marks lent after : List Bool) (n room count at to : ℕ) (most : Option ℕ) (pages : ℕ) → (old : Buffered)
    → front_of items n most pages room ≡ old
    → IsBuffered items marks n most pages → room ≡ length items → count ≡ length marks → at + length xs ≤ length old.memory.bytes → to ≡ at + length xs
    → slice ≡ items → put ≡ overwrite at xs slice → lent ≡ marks → length after ≡ length lent
    → ((b : ℕ) → at / 4096 ≤ b → b * 4096 < to → get_or after b false ≡ true)
    → ((b : ℕ) → get_or after b false ≡ false → get_or lent b false ≡ false)
    → ((b : ℕ) → to ≤ b * 4096 → get_or after b false ≡ get_or lent b false)
    → IsBuffered (take room (put ++ drop (length put) items)) (take count (after ++ drop (length after) marks)) n most pages
segment_buffered items slice put xs marks lent after n room count at to most pages old view b all each within ends whole wrote whole' as_many inside kept above =
    let P : Buffered → Type 0 = λ o. at + length xs ≤ length o.memory.bytes in
    let l : length (take n items) ≡ n = length-take-le n items b.fits in
    let within' : at + length xs ≤ length (take n items) = subst P (sym view) within in
    let fits : n ≤ length items = b.fits in
    let is : put ≡ overwrite at xs items = wrote ∙ ap (overwrite at xs) whole in
    let same : length put ≡ length items = ap length is ∙ length-overwrite at xs items (omega arith) in
    let same' : length after ≡ length marks = as_many ∙ ap length whole' in
    let other : (k : ℕ) → to ≤ k → get_or (overwrite at xs items) k 0 ≡ get_or items k 0 = λ k h. overwrite-above at xs items k (omega arith) (omega arith) in
    rw (lent_back items put room all same, lent_back marks after count each same', is)
    (still_buffered items (overwrite at xs items) marks after n most pages b (sym (ap length is) ∙ same) same'
    (λ i h. above i (omega arith) ∙ ap (λ ms. get_or ms i false) whole')
    (λ k h. other k (omega arith))
    (segment items (overwrite at xs items) marks after at to (λ k h. overwrite-below at xs items k (omega arith) h) other
    inside (λ i h. sym (ap (λ ms. get_or ms i false) whole') ∙ kept i h) b.zero))

-- the law of a memory in its buffer
pub is_typed : (old : Buffered) (items : List ℕ) (marks : List Bool) (n room : ℕ) (most : Option ℕ) (pages : ℕ) → front_of items n most pages room ≡ old
    → IsBuffered items marks n most pages → (slice : List ℕ) → slice ≡ items → ((k : ℕ) → get_or slice k 0 < 256) → MemoryTyped old.memory
is_typed old items marks n room most pages view b slice same each =
    let P : Buffered → Type 0 = λ o. MemoryTyped o.memory in
    let ap_bytes : AreBytes (take n items) = rw (← same) (take_bytes n slice each) in
    subst P view (record { count = b.count; whole = length-take-le n items b.fits ∙ b.whole; bounded = b.bounded; bytes = ap_bytes })

-- the front of a buffer with more zeros
same_front : (items more : List ℕ) (n : ℕ) → n ≤ length items → n ≤ length more → ((k : ℕ) → get_or more k 0 ≡ get_or items k 0) → take n more ≡ take n items
same_front items more n fits fits' same =
    let l : length (take n items) ≡ n = length-take-le n items fits in
    let l' : length (take n more) ≡ n = length-take-le n more fits' in
    ext_get_or 0 (take n more) (take n items) (l' ∙ sym l)
    (λ i below. let h : i < n = omega arith in get_or-take n more i 0 h ∙ same i ∙ sym (get_or-take n items i 0 h))

-- and it is the definition's
pub did_grow : (old : Buffered) (items more : List ℕ) (marks : List Bool) (n room by : ℕ) (most : Option ℕ) (pages : ℕ) → front_of items n most pages room ≡ old
    → IsBuffered items marks n most pages → (room' : ℕ) → may_have (zeros 0 most pages) (n / 65536 + by) ≡ true → (n / 65536 + by) * 65536 ≤ length more
    → ((k : ℕ) → get_or more k 0 ≡ get_or items k 0)
    → Grows old.memory by (Some (n / 65536)) (front_of more ((n / 65536 + by) * 65536) most pages room').memory
did_grow old items more marks n room by most pages view b room' allowed fits same =
    let new = (front_of more ((n / 65536 + by) * 65536) most pages room').memory in
    let P : Buffered → Type 0 = λ o. Grows o.memory by (Some (n / 65536)) new in
    let whole : n ≡ b.count * 65536 = b.whole in
    let in_items : n ≤ length items = b.fits in
    let l : length (take n items) ≡ n = length-take-le n items in_items in
    let together : (n / 65536 + by) * 65536 ≡ n + by * 65536 = omega arith in
    let in_more : n + by * 65536 ≤ length more = omega arith in
    let bytes : take ((n / 65536 + by) * 65536) more ≡ take n items ++ replicate (by * 65536) 0 =
    ap (λ i. take i more) together ∙ take_grown n (by * 65536) more (λ k h. same k ∙ b.behind k (omega arith)) in_more
    ∙ ap (λ ys. ys ++ replicate (by * 65536) 0) (same_front items more n in_items (omega arith) same) in
    let was : Memory = record { bytes = take n items; most = most; pages = pages } in
    subst P view (
      ap (λ i. i / 65536) (sym l),
      ap (λ i. grow_if (may_have was (i / 65536 + by)) was by) l ∙ ap (λ t. grow_if t was by) allowed
          ∙ ap (λ ys. let m : Memory = record { bytes = ys; most = most; pages = pages } in Some m) (sym bytes),
    )

-- the front of a buffer of zeros is pages of zeros
pub did_allocate : (items more : List ℕ) (min : ℕ) (most : Option ℕ) (pages : ℕ) → AreZero items → ((k : ℕ) → get_or more k 0 ≡ get_or items k 0)
    → min * 65536 ≤ length more → (front_of more (min * 65536) most pages 0).memory ≡ zeros min most pages
did_allocate items more min most pages clean same fits =
    ap (λ ys. let m : Memory = record { bytes = ys; most = most; pages = pages } in m) (take-zeros more (min * 65536) (λ k. same k ∙ clean k) fits)
