-- What the instructions do to a store keeps its type.
use Rattle.std.proofs.Common.{◌≡◌, ℕ, zero, suc, ◌+◌, ◌*◌, ◌/◌, ◌≤◌, Bool, true, false, List, [], ◌∷◌, ◌++◌, length, take, drop, replicate, Option, Some, None, refl, ap, ◌∙◌, subst, arith, length-append, leb-true}
use Rattle.std.specs.Prelude.{slice_get, nat_le}
use Rattle.std.proofs.lemmas.List.{length-take, length-drop, length-replicate}
use Rattle.wsyntax.specs.declared.types.ValType.{ValType}
use Rattle.wsyntax.specs.declared.types.ValType.TheVariants.{I32, I64, F32, F64}
use Rattle.wsyntax.specs.declared.types.GlobalType.{GlobalType}
use Rattle.wsyntax.specs.Instructions.{Width32, Width64, Access}
use Rattle.wsyntax.specs.Validation.Context.{Context}
use Rattle.wsyntax.specs.declared.value.Value.{Value}
use Rattle.wsyntax.specs.Execution.Values.{type_of, IsWord, value_in, word}
use Rattle.wsyntax.specs.Execution.Store.{Memory, Store, page, to_bytes, write_if, write, loaded, grow_if, grown}
use Rattle.wsyntax.specs.Execution.Step.{put_global, put_memory}
use Rattle.wsyntax.specs.Execution.ConfigTyped.{global_types, IsInteger, AreBytes, MemoryTyped, Has, StoreTyped}
use Rattle.soundness.proofs.Chapter4.Stacks.{values_set}
use Rattle.soundness.proofs.Chapter4.Numerics.{is_word}

-- what should stand there stands there
pub record There {A : Type 0} (P : A → Type 0) (o : Option A) : Type 0 where
  pub thing : A
  pub is : o ≡ Some thing
  pub typed : P thing

pub has_there : {A : Type 0} (P : A → Type 0) (b : Bool) (o : Option A) → Has b P o → b ≡ true → There P o
has_there P true None h e = absurd h
has_there P true (Some x) h e = record { thing = x; is = refl; typed = h }
has_there P false o h e = absurd cc

-- and what stands there is as it should be
pub has_still : {A : Type 0} (P : A → Type 0) (b : Bool) (x : A) → P x → Has b P (Some x)
has_still P true x h = h
has_still P false x h = h

-- Bytes.

pub bytes_join : (a b : List ℕ) → AreBytes a → AreBytes b → AreBytes (a ++ b)
bytes_join [] b h k = k
bytes_join (x ∷ a) b h k = (h.0, bytes_join a b h.1 k)

pub bytes_front : (n : ℕ) (a : List ℕ) → AreBytes a → AreBytes (take n a)
bytes_front zero a h = tt
bytes_front (suc n) [] h = tt
bytes_front (suc n) (x ∷ a) h = (h.0, bytes_front n a h.1)

pub bytes_back : (n : ℕ) (a : List ℕ) → AreBytes a → AreBytes (drop n a)
bytes_back zero a h = h
bytes_back (suc n) [] h = tt
bytes_back (suc n) (x ∷ a) h = bytes_back n a h.1

pub bytes_zero : (n : ℕ) → AreBytes (replicate n 0)
bytes_zero zero = tt
bytes_zero (suc n) = (omega arith, bytes_zero n)

bytes_of : (width n : ℕ) → AreBytes (to_bytes width n)
bytes_of zero n = tt
bytes_of (suc width) n = (omega arith, bytes_of width (n / 256))

length-to_bytes : (width n : ℕ) → length (to_bytes width n) ≡ width
length-to_bytes zero n = refl
length-to_bytes (suc width) n = ap suc (length-to_bytes width _)

-- Memories.

-- as long as before, and bytes
abbrev Written : ℕ → Option (List ℕ) → Type 0
Written n None = Unit {0}
Written n (Some bytes) = (length bytes ≡ n) × AreBytes bytes

written_length : (bytes : List ℕ) (at width n : ℕ) → at + width ≤ length bytes → length (take at bytes ++ (to_bytes width n ++ drop (at + width) bytes)) ≡ length bytes
written_length bytes at width n h =
    omega (arith, length-append (take at bytes) (to_bytes width n ++ drop (at + width) bytes), length-append (to_bytes width n) (drop (at + width) bytes), length-take at bytes, length-drop (at + width) bytes, length-to_bytes width n)

write_if_ok : (b : Bool) (bytes : List ℕ) (at width n : ℕ) → AreBytes bytes → (b ≡ true → at + width ≤ length bytes) → Written (length bytes) (write_if b bytes at width n)
write_if_ok true bytes at width n k h =
    (written_length bytes at width n (h refl), bytes_join (take at bytes) _ (bytes_front at bytes k) (bytes_join (to_bytes width n) _ (bytes_of width n) (bytes_back (at + width) bytes k)))
write_if_ok false bytes at width n k h = tt

write_ok : (bytes : List ℕ) (at width n : ℕ) → AreBytes bytes → Written (length bytes) (write bytes at width n)
write_ok bytes at width n k =
    write_if_ok (nat_le (at + width) (length bytes)) bytes at width n k (λ e. leb-true _ _ e)

-- a memory that is written stays whole pages of bytes
pub written : (m : Memory) (at width n : ℕ) (bytes : List ℕ) → MemoryTyped m → write m.bytes at width n ≡ Some bytes → MemoryTyped (record m { bytes = bytes })
written m at width n bytes t e =
    let same : Written (length m.bytes) (Some bytes) = subst (Written (length m.bytes)) e (write_ok m.bytes at width n t.bytes) in
    record { count = t.count; whole = same.0 ∙ t.whole; bounded = t.bounded; bytes = same.1 }

abbrev Grows : Option Memory → Type 0
Grows None = Unit {0}
Grows (Some m) = MemoryTyped m

grow_if_grows : (b : Bool) (m : Memory) (more : ℕ) → (b ≡ true → MemoryTyped (record m { bytes = m.bytes ++ replicate (more * page) 0 })) → Grows (grow_if b m more)
grow_if_grows true m more h = h refl
grow_if_grows false m more h = tt

pub pages_of : (n k : ℕ) → n ≡ k * page → n / page ≡ k
pages_of n k e = omega arith

grows : (m : Memory) (more : ℕ) → MemoryTyped m → Grows (grown m more)
grows m more t =
    grow_if_grows _ m more (λ e. record { count = length m.bytes / page + more; whole = length-append m.bytes (replicate (more * page) 0) ∙ sum; bounded = e; bytes = bytes_join m.bytes _ t.bytes (bytes_zero (more * page)) })
  where
    sum : length m.bytes + length (replicate {A = ℕ} (more * page) 0) ≡ (length m.bytes / page + more) * page
    sum = omega (arith, length-replicate {A = ℕ} (more * page) 0, pages_of (length m.bytes) t.count t.whole, t.whole)

pub grown_typed : (m more : Memory) (n : ℕ) → MemoryTyped m → grown m n ≡ Some more → MemoryTyped more
grown_typed m more n t e = subst Grows e (grows m n t)

-- Bits as values.

pub record Made (t : ValType) (o : Option Value) : Type 0 where
  pub value : Value
  pub is : o ≡ Some value
  pub of_type : type_of value ≡ t
  pub word : IsWord value

pub value_ok : (t : ValType) (k : ℕ) → IsInteger t → Made t (value_in t k)
value_ok I32 k i = record { value = word Width32 k; is = refl; of_type = refl; word = is_word Width32 k }
value_ok I64 k i = record { value = word Width64 k; is = refl; of_type = refl; word = is_word Width64 k }
value_ok F32 k i = absurd i
value_ok F64 k i = absurd i

pub loaded_ok : (a : Access) (n : ℕ) → IsInteger a.of_type → Made a.of_type (loaded a n)
loaded_ok a n i = value_ok a.of_type _ i

-- Whole stores.

pub with_memory : {C : Context} {s : Store} (m : Memory) → StoreTyped C s → MemoryTyped m → StoreTyped C (put_memory s m)
with_memory {C} {s} m t h = record { memory = has_still MemoryTyped C.has_memory m h; table = t.table; globals = t.globals }

pub global_type : (gs : List GlobalType) (x : ℕ) (g : GlobalType) → slice_get gs x ≡ Some g → slice_get (global_types gs) x ≡ Some g.val_type
global_type [] x g e = absurd cc
global_type (h ∷ gs) zero g e = let same : h ≡ g = cc in ap (λ (k : GlobalType). Some k.val_type) same
global_type (h ∷ gs) (suc x) g e = global_type gs x g e

pub with_global : {C : Context} {s : Store} (x : ℕ) (v was : Value) → StoreTyped C s → slice_get s.globals x ≡ Some was → type_of v ≡ type_of was → IsWord v → StoreTyped C (put_global s x v)
with_global {C} {s} x v was t e f w = record { memory = t.memory; table = t.table; globals = values_set s.globals x v was e f w t.globals }
