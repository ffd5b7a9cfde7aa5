-- The slots of a typed store, tagged by their types again, are the store (`tagged_again`); another memory keeps it so.
use Rattle.std.proofs.Common.{◌≡◌, ℕ, zero, suc, ◌<◌, ◌%◌, ◌^◌, Bool, true, false, List, [], ◌∷◌, Some, refl, sym, ap, ◌∙◌, subst, arith}
use Rattle.std.specs.Prelude.{slice_get, length}
use Rattle.std.proofs.Math.Logic.{∥∥₁_elim}
use Rattle.std.proofs.Props.{props}
use Rattle.std.proofs.lemmas.List.{length-map}
use Rattle.wsyntax.specs.declared.types.GlobalType.{GlobalType}
use Rattle.wsyntax.specs.declared.types.ValType.{ValType}
use Rattle.wsyntax.specs.declared.value.Value.{Value}
use Rattle.wsyntax.specs.declared.value.Value.TheVariants.{I32 as V32, I64 as V64}
use Rattle.wsyntax.specs.Validation.Context.{Context}
use Rattle.wsyntax.specs.Execution.Values.{type_of, types, IsWord, AreWords}
use Rattle.wsyntax.specs.Execution.Store.{Memory, Store}
use Rattle.wsyntax.specs.Execution.ConfigTyped.{IsInteger, Has, MemoryTyped, StoreTyped, global_types}
use Rattle.soundness.specs.Slots.{SlotStore, bits, slots, tagged, all_tagged, slot_store}
use Rattle.wstore.specs.Held.{store_of, IsHeld}

-- Values of their types, tagged again, are themselves.

low : (n : ℕ) → n < 2 ^ 32 → n % 2 ^ 32 ≡ n
low n w = omega arith

tagged_bits : {t : ValType} (v : Value) → type_of v ≡ t → IsWord v → tagged t (bits v) ≡ v
tagged_bits (V32 n) e w = ap (λ t. tagged t n) (sym e) ∙ ap V32 (low n w)
tagged_bits (V64 n) e w = ap (λ t. tagged t n) (sym e)

all_tagged_slots : (ts : List ValType) (vs : List Value) → types vs ≡ ts → AreWords vs → all_tagged ts (slots vs) ≡ vs
all_tagged_slots [] [] e w = refl
all_tagged_slots [] (v ∷ vs) e w = absurd cc
all_tagged_slots (t ∷ ts) [] e w = absurd cc
all_tagged_slots (t ∷ ts) (v ∷ vs) e w =
    let h : type_of v ≡ t = cc in
    let k : types vs ≡ ts = cc in
    cc (tagged_bits v h w.0, all_tagged_slots ts vs k w.1)

pub tagged_again : (C : Context) (s : Store) → StoreTyped C s → store_of C (slot_store s) ≡ s
tagged_again C s h = ap (λ vs. record s { globals = vs }) (all_tagged_slots (global_types C.globals) s.globals h.globals.typed h.globals.words)

pub is_held : (C : Context) (s : Store) → StoreTyped C s → IsHeld C (slot_store s)
is_held C s h = record { typed = subst (StoreTyped C) (sym (tagged_again C s h)) h; same = ap slot_store (tagged_again C s h) }

-- Another memory.

has_some : {A : Type 0} (P : A → Type 0) (b : Bool) (x : A) → P x → Has b P (Some x)
has_some P true x h = h
has_some P false x h = h

pub other_memory : (C : Context) (s : SlotStore) (m : Memory) → MemoryTyped m → IsHeld C s → IsHeld C (record s { memory = Some m })
other_memory C s m t h =
    let new : Store = record (store_of C s) { memory = Some m } in
    let typed : StoreTyped C new = record { memory = has_some MemoryTyped C.has_memory m t; table = h.typed.table; globals = h.typed.globals } in
    subst (IsHeld C) (ap (λ (x : SlotStore). record x { memory = Some m }) h.same) (is_held C new typed)

-- One global.

pub tagged_at : (ts : List ValType) (ns : List ℕ) (x : ℕ) (t : ValType) (n : ℕ) → slice_get ts x ≡ Some t → slice_get ns x ≡ Some n → slice_get (all_tagged ts ns) x ≡ Some (tagged t n)
tagged_at [] ns x t n e f = absurd cc
tagged_at (u ∷ ts) [] x t n e f = absurd cc
tagged_at (u ∷ ts) (k ∷ ns) zero t n e f =
    let h : u ≡ t = cc in
    let g : k ≡ n = cc in
    ap (λ y. Some (tagged y k)) h ∙ ap (λ y. Some (tagged t y)) g
tagged_at (u ∷ ts) (k ∷ ns) (suc x) t n e f = tagged_at ts ns x t n e f

integer : (v : Value) → IsInteger (type_of v)
integer (V32 n) = tt
integer (V64 n) = tt

no_type : (ts : List ValType) (x : ℕ) (t : ValType) → ts ≡ [] → slice_get ts x ≡ Some t → ⊥
no_type [] x t e at = cc
no_type (u ∷ ts) x t e at = cc

integer_at : (vs : List Value) (ts : List ValType) (x : ℕ) (t : ValType) → types vs ≡ ts → slice_get ts x ≡ Some t → IsInteger t
integer_at [] ts x t e at = let none : ts ≡ [] = cc in absurd (no_type ts x t none at)
integer_at (u ∷ vs) [] x t e at = absurd cc
integer_at (u ∷ vs) (s ∷ ts) zero t e at = let h : type_of u ≡ t = cc in subst IsInteger h (integer u)
integer_at (u ∷ vs) (s ∷ ts) (suc x) t e at = let h : types vs ≡ ts = cc in integer_at vs ts x t h at

-- a global is read, whose type is an integer type
pub global_there : (C : Context) (s : SlotStore) (x : ℕ) (t : ValType) (n : ℕ) (v : Value) → ∥ IsHeld C s ∥₁ → slice_get (global_types C.globals) x ≡ Some t → slice_get s.globals x ≡ Some n → (IsInteger t → v ≡ tagged t n)
    → slice_get (store_of C s).globals x ≡ Some v
global_there C s x t n v held at is reads =
    let same : v ≡ tagged t n = ∥∥₁_elim held (hlevel props) (λ h. reads (integer_at (store_of C s).globals (global_types C.globals) x t h.typed.globals.typed at)) in
    tagged_at (global_types C.globals) s.globals x t n at is ∙ ap Some (sym same)

-- there are as many words as globals
pub as_many : (C : Context) (s : SlotStore) → ∥ IsHeld C s ∥₁ → length s.globals ≡ length C.globals
as_many C s held =
    ∥∥₁_elim held (hlevel props) (λ h.
    let vs : List Value = (store_of C s).globals in
    sym (ap (λ (y : SlotStore). length y.globals) h.same) ∙ length-map vs bits ∙ sym (length-map vs type_of) ∙ ap length h.typed.globals.typed ∙ length-map C.globals (λ (g : GlobalType). g.val_type))
