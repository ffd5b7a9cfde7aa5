-- A fresh store is typed.
use Rattle.std.proofs.Common.{◌≡◌, ℕ, zero, suc, ◌+◌, ◌*◌, ◌≤◌, Bool, true, false, List, [], ◌∷◌, ◌++◌, length, take, drop, replicate, map, Option, Some, None, ◌∙◌, subst, arith, length-append}
use Rattle.std.specs.Prelude.{option_map}
use Rattle.std.proofs.lemmas.List.{length-take, length-drop, length-replicate}
use Rattle.wsyntax.specs.Execution.Store.{Entry, Unset, SetTo, page}
use Rattle.wsyntax.specs.Validation.Context.{Context}
use Rattle.wsyntax.specs.Execution.ConfigTyped.{AreBytes, Has, MemoryTyped, EntryTyped, TableTyped}
use Rattle.soundness.proofs.Chapter4.Stores.{bytes_join, bytes_front, bytes_back, bytes_zero}
use Rattle.wsyntax.specs.Execution.Allocation.{Segment, overwrite, put_data, put_elements, fresh_memory, AllWithin, AllBytes, AllFunctions, AllElements, FreshTyped}

overwrite_length : (offset : ℕ) (items xs : List ℕ) → offset + length items ≤ length xs → length (overwrite offset items xs) ≡ length xs
overwrite_length offset items xs h =
    omega (arith, length-append (take offset xs) (items ++ drop (offset + length items) xs), length-append items (drop (offset + length items) xs), length-take offset xs, length-drop (offset + length items) xs)

data_length : (n : ℕ) (ss : List Segment) (bytes : List ℕ) → AllWithin n ss → length bytes ≡ n → length (put_data ss bytes) ≡ n
data_length n [] bytes h e = e
data_length n (s ∷ ss) bytes h e = data_length n ss (overwrite s.offset s.items bytes) h.1 (overwrite_length s.offset s.items bytes (omega (arith, h.0, e)) ∙ e)

data_bytes : (ss : List Segment) (bytes : List ℕ) → AllBytes ss → AreBytes bytes → AreBytes (put_data ss bytes)
data_bytes [] bytes h k = k
data_bytes (s ∷ ss) bytes h k =
    data_bytes ss (overwrite s.offset s.items bytes) h.1
    (bytes_join (take s.offset bytes) _ (bytes_front s.offset bytes k) (bytes_join s.items _ h.0 (bytes_back (s.offset + length s.items) bytes k)))

-- entries that are typed, by recursion
abbrev Entries : Context → List Entry → Type 0
Entries C [] = Unit {0}
Entries C (e ∷ es) = EntryTyped C e × Entries C es

entries_front : (C : Context) (n : ℕ) (es : List Entry) → Entries C es → Entries C (take n es)
entries_front C zero es h = tt
entries_front C (suc n) [] h = tt
entries_front C (suc n) (e ∷ es) h = (h.0, entries_front C n es h.1)

entries_back : (C : Context) (n : ℕ) (es : List Entry) → Entries C es → Entries C (drop n es)
entries_back C zero es h = h
entries_back C (suc n) [] h = tt
entries_back C (suc n) (e ∷ es) h = entries_back C n es h.1

entries_join : (C : Context) (es fs : List Entry) → Entries C es → Entries C fs → Entries C (es ++ fs)
entries_join C [] fs h k = k
entries_join C (e ∷ es) fs h k = (h.0, entries_join C es fs h.1 k)

entries_set : (C : Context) (fs : List ℕ) → AllFunctions C fs → Entries C (map SetTo fs)
entries_set C [] h = tt
entries_set C (f ∷ fs) h = (h.0, entries_set C fs h.1)

entries_unset : (C : Context) (n : ℕ) → Entries C (replicate n Unset)
entries_unset C zero = tt
entries_unset C (suc n) = (tt, entries_unset C n)

entries_put : (C : Context) (ss : List Segment) (es : List Entry) → AllElements C ss → Entries C es → Entries C (put_elements ss es)
entries_put C [] es h k = k
entries_put C (s ∷ ss) es h k =
    entries_put C ss (overwrite s.offset (map SetTo s.items) es) h.1
    (entries_join C (take s.offset es) _ (entries_front C s.offset es k)
    (entries_join C (map SetTo s.items) _ (entries_set C s.items h.0) (entries_back C _ es k)))

by_index : (C : Context) (es : List Entry) → Entries C es → TableTyped C es
by_index C [] h i e is = absurd (cc)
by_index C (x ∷ es) h zero e is = let same : x ≡ e = cc in subst (EntryTyped C) same h.0
by_index C (x ∷ es) h (suc i) e is = by_index C es h.1 i e is

has_map : {A B : Type 0} (P : A → Type 0) (Q : B → Type 0) (f : A → B) (b : Bool) (o : Option A) → ((x : A) → P x → Q (f x)) → Has b P o → Has b Q (option_map f o)
has_map P Q f true None g h = h
has_map P Q f false None g h = h
has_map P Q f true (Some x) g h = g x h
has_map P Q f false (Some x) g h = g x h

pub fresh_typed : FreshTyped
fresh_typed C pages l t = record {
  memory = has_map _ MemoryTyped (fresh_memory pages l.data') C.has_memory l.memory (λ x h. record { count = x.min; whole = data_length (x.min * page) l.data' (replicate (x.min * page) 0) h.1 (length-replicate (x.min * page) 0); bounded = h.0; bytes = data_bytes l.data' (replicate (x.min * page) 0) h.2 (bytes_zero (x.min * page)) }) t.memory;
  table = has_map _ (TableTyped C) (λ n. put_elements l.elements (replicate n Unset)) C.has_table l.table (λ n h. by_index C _ (entries_put C l.elements (replicate n Unset) h (entries_unset C n))) t.table;
  globals = t.globals;
}
