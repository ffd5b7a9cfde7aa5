-- On typed values the effect of an instruction on slots is its step in the standard: the theorem is `effect_is_step`.
-- It goes by the instructions that neither branch nor call; lemmas such as `two_top` take operands off the values and the slots at once.
-- The laws `effect_is_step` and `tee_is_set` of src/execution.rt cite it, and so does Leads.antt.
use Rattle.std.proofs.Common.{◌≡◌, ℕ, zero, suc, ◌+◌, Bool, true, false, cond, List, [], ◌∷◌, ◌++◌, length, reverse, Option, Some, None, Ok, Err, refl, sym, ap, ◌∙◌, subst, arith, ◌%◌, ◌^◌, ◌<◌}
use Rattle.std.specs.Prelude.{slice_get, slice_set, nat_eq}
use Rattle.std.proofs.lemmas.List.{length-reverse}
use Rattle.wsyntax.specs.declared.types.ValType.{ValType}
use Rattle.wsyntax.specs.declared.types.ValType.TheVariants.{I32}
use Rattle.wsyntax.specs.Instructions.{Unreachable, Nop, Return, Br, BrIf, Call, CallIndirect, BrTable, Drop, Select, LocalGet, LocalSet, LocalTee, GlobalGet, GlobalSet, MemoryLoad, MemoryStore, MemorySize, MemoryGrow, Const, Numeric, Code, Access}
use Rattle.wsyntax.specs.Validation.Context.{Stack}
use Rattle.wsyntax.specs.Validation.Typing.{operands}
use Rattle.wsyntax.specs.declared.value.Value.{Value}
use Rattle.wsyntax.specs.declared.value.Value.TheVariants.{I32 as V32, I64 as V64}
use Rattle.wsyntax.specs.declared.value.Trap.{Trap as TrapKind}
use Rattle.wsyntax.specs.declared.value.Trap.TheVariants.{OutOfBounds}
use Rattle.wsyntax.specs.Execution.Values.{type_of, types, number, IsWord, AreWords}
use Rattle.wsyntax.specs.Execution.Numerics.{Computed, apply}
use Rattle.wsyntax.specs.Execution.Store.{Memory, Store, read, write, grown, loaded}
use Rattle.wsyntax.specs.Execution.Step.{Working, Next, on_some, on_top, on_number, on_top_of, grab, put_on, or_trap, traps, computed, after_grow, act}
use Rattle.wsyntax.specs.Execution.ConfigTyped.{ValuesTyped, MemoryTyped}
use Rattle.soundness.specs.Slots.{bits, slots, tagged, all_tagged, slot_store, SlotStore, Effect, Puts, Fails, on_slot, on_there, on_slots, or_fail, put_computed, put_grown, Mirrors, EffectIsStep, TeeIsSet}
use Rattle.soundness.proofs.Chapter4.Stacks.{values_at, push, no_values, held}
use Rattle.soundness.proofs.Chapter4.Numerics.{apply_ok}
use Rattle.soundness.proofs.Chapter4.Stores.{has_there, value_ok, loaded_ok, global_type}

pub slots_get : (vs : List Value) (x : ℕ) (v : Value) → slice_get vs x ≡ Some v → slice_get (slots vs) x ≡ Some (bits v)
slots_get [] x v e = absurd cc
slots_get (u ∷ vs) zero v e = let h : u ≡ v = cc in ap (λ w. Some (bits w)) h
slots_get (u ∷ vs) (suc x) v e = slots_get vs x v e

pub slots_set : (vs : List Value) (x : ℕ) (v : Value) → slots (slice_set vs x v) ≡ slice_set (slots vs) x (bits v)
slots_set [] x v = refl
slots_set (u ∷ vs) zero v = refl
slots_set (u ∷ vs) (suc x) v = ap (λ ns. bits u ∷ ns) (slots_set vs x v)

number_bits : {t : ValType} (v : Value) → type_of v ≡ t → number t v ≡ Some (bits v)
number_bits (V32 n) e = ap (λ t. number t (V32 n)) (sym e)
number_bits (V64 n) e = ap (λ t. number t (V64 n)) (sym e)

-- a word is its lowest 32 bits
low : (n : ℕ) → n < 2 ^ 32 → n % 2 ^ 32 ≡ n
low n w = omega arith

tagged_bits : {t : ValType} (v : Value) → type_of v ≡ t → IsWord v → tagged t (bits v) ≡ v
tagged_bits (V32 n) e w = ap (λ t. tagged t n) (sym e) ∙ ap V32 (low n w)
tagged_bits (V64 n) e w = ap (λ t. tagged t n) (sym e)

all_tagged_slots : (ts : List ValType) (vs : List Value) → types vs ≡ ts → AreWords vs → all_tagged ts (slots vs) ≡ vs
all_tagged_slots [] [] e w = refl
all_tagged_slots [] (v ∷ vs) e w = absurd cc
all_tagged_slots (t ∷ ts) [] e w = absurd cc
all_tagged_slots (t ∷ ts) (v ∷ vs) e w =
    let h : type_of v ≡ t = cc in
    let k : types vs ≡ ts = cc in
    cc (tagged_bits v h w.0, all_tagged_slots ts vs k w.1)

-- both sides take the topmost
two_top : (P : Next → Effect → Type 0) {t : ValType} {c : List ValType} (lower vs : List Value) (go : Value → List Value → Next) (eff : ℕ → List ℕ → Effect) → ValuesTyped vs (t ∷ c) → ((v : Value) (below : List Value) → type_of v ≡ t → IsWord v → ValuesTyped below c → P (go v below) (eff (bits v) (slots (below ++ lower)))) → P (on_top vs go) (on_slot (slots (vs ++ lower)) eff)
two_top P lower [] go eff h f = let e = h.typed in absurd cc
two_top P lower (v ∷ vs) go eff h f =
    let e = h.typed in f v vs (cc) h.words.0 record { typed = cc; words = h.words.1 }

two_some : {A B : Type 0} (P : Next → Effect → Type 0) {o : Option A} {r : Option B} {x : A} {y : B} (go : A → Next) (eff : B → Effect) → o ≡ Some x → r ≡ Some y → P (go x) (eff y) → P (on_some o go) (on_there r eff)
two_some P {o} {r} {x} {y} go eff e d h = subst (λ o. P (on_some o go) (on_there r eff)) (sym e) (subst (λ r. P (go x) (on_there r eff)) (sym d) h)

two_number : (P : Next → Effect → Type 0) {t : ValType} {c : List ValType} (lower vs : List Value) (go : ℕ → List Value → Next) (eff : ℕ → List ℕ → Effect) → ValuesTyped vs (t ∷ c) → ((n : ℕ) (below : List Value) → ValuesTyped below c → P (go n below) (eff n (slots (below ++ lower)))) → P (on_number t vs go) (on_slot (slots (vs ++ lower)) eff)
two_number P {t} lower vs go eff h f =
    two_top P lower vs _ eff h (λ v below tv wv tb.
    subst (λ o. P (on_some o (λ n. go n below)) (eff (bits v) (slots (below ++ lower)))) (sym (number_bits v tv)) (f (bits v) below tb))

bits_low : (v : Value) → type_of v ≡ I32 → IsWord v → bits v % 2 ^ 32 ≡ bits v
bits_low (V32 n) e w = low n w
bits_low (V64 n) e w = absurd cc

-- the same of an i32, of whose slot the lowest 32 bits are read
two_low : (P : Next → Effect → Type 0) {c : List ValType} (lower vs : List Value) (go : ℕ → List Value → Next) (eff : ℕ → List ℕ → Effect) → ValuesTyped vs (I32 ∷ c) → ((n : ℕ) (below : List Value) → ValuesTyped below c → P (go n below) (eff n (slots (below ++ lower)))) → P (on_number I32 vs go) (on_slot (slots (vs ++ lower)) (λ n ns. eff (n % 2 ^ 32) ns))
two_low P lower vs go eff h f =
    two_top P lower vs _ (λ n ns. eff (n % 2 ^ 32) ns) h (λ v below tv wv tb.
    subst (λ o. P (on_some o (λ n. go n below)) (eff (bits v % 2 ^ 32) (slots (below ++ lower)))) (sym (number_bits v tv))
    (subst (λ k. P (go (bits v) below) (eff k (slots (below ++ lower)))) (sym (bits_low v tv wv)) (f (bits v) below tb)))

two_trap : {A : Type 0} (P : Next → Effect → Type 0) (o : Option A) {trap : TrapKind} {s : Store} {l vs : List Value} {rest : Code} (go : A → Next) (eff : A → Effect) → P (traps Working s l vs trap rest) (Fails trap) → ((x : A) → o ≡ Some x → P (go x) (eff x)) → P (or_trap o trap s l vs rest go) (or_fail o trap eff)
two_trap P None go eff h f = h
two_trap P (Some x) go eff h f = f x refl

-- the topmost values and their slots
record Both (ts c : List ValType) (lower vs : List Value) : Type 0 where
  taken : List Value
  below : List Value
  values : grab (length ts) vs ≡ Some (taken, below)
  numbers : grab (length ts) (slots (vs ++ lower)) ≡ Some (slots taken, slots (below ++ lower))
  taken_typed : ValuesTyped taken ts
  below_typed : ValuesTyped below c

both : (ts c : List ValType) (lower vs : List Value) → ValuesTyped vs (ts ++ c) → Both ts c lower vs
both [] c lower vs h = record { taken = []; below = vs; values = refl; numbers = refl; taken_typed = no_values; below_typed = h }
both (t ∷ ts) c lower [] h = let e = h.typed in absurd cc
both (t ∷ ts) c lower (v ∷ vs) h =
    let e = h.typed in
    let tail : types vs ≡ ts ++ c = cc in
    let head : type_of v ≡ t = cc in
    let g = both ts c lower vs record { typed = tail; words = h.words.1 } in
    record { taken = v ∷ g.taken; below = g.below; values = ap (put_on v) g.values; numbers = ap (put_on (bits v)) g.numbers; taken_typed = push v head h.words.0 g.taken_typed; below_typed = g.below_typed }

two_top_of : (P : Next → Effect → Type 0) (p c : List ValType) (n : ℕ) (lower vs : List Value) (go : List Value → List Value → Next) (eff : List ℕ → List ℕ → Effect) → length p ≡ n → ValuesTyped vs (p ++ c) → ((taken below : List Value) → ValuesTyped taken p → ValuesTyped below c → P (go taken below) (eff (slots taken) (slots (below ++ lower)))) → P (on_top_of n vs go) (on_slots n (slots (vs ++ lower)) eff)
two_top_of P p c n lower vs go eff len e f =
    let g = both p c lower vs e in
    subst (λ n. P (on_top_of n vs go) (on_slots n (slots (vs ++ lower)) eff)) len
    (two_some P (λ (q : List Value × List Value). go q.0 q.1) (λ (q : List ℕ × List ℕ). eff q.0 q.1) g.values g.numbers (f g.taken g.below g.taken_typed g.below_typed))

over : {vs : List Value} {p p' : Stack} (c : Stack) → ValuesTyped vs (p ++ c) → p ≡ p' → ValuesTyped vs (p' ++ c)
over c e h = values_at e (ap (λ z. z ++ c) h)

choice : (s : Store) (l lower below : List Value) (rest : Code) (b : Bool) (u w : Value) → slots ((cond b u w ∷ below) ++ lower) ≡ cond b (bits u) (bits w) ∷ slots (below ++ lower)
choice s l lower below rest true u w = refl
choice s l lower below rest false u w = refl

computed_two : (s : Store) (l lower below : List Value) (rest : Code) (r : Computed) → Mirrors s lower rest (computed s l below rest r) (put_computed (slot_store s) (slots l) (slots (below ++ lower)) r)
computed_two s l lower below rest (Ok v) = (refl, refl, refl, refl, refl)
computed_two s l lower below rest (Err t) = (refl, refl, refl)

grown_two : (s : Store) (l lower below : List Value) (rest : Code) (mem : Memory) (o : Option Memory) → Mirrors s lower rest (after_grow s l mem below rest o) (put_grown (slot_store s) (slots l) mem (slots (below ++ lower)) o)
grown_two s l lower below rest mem None = (refl, refl, refl, refl, refl)
grown_two s l lower below rest mem (Some more) = (refl, refl, refl, refl, refl)

-- the effects of memory instructions, from their address or their number of pages on
abbrev load_at : Access → SlotStore → List ℕ → ℕ → List ℕ → Effect
load_at a s l i ns =
    on_there s.memory (λ mem. or_fail (read mem.bytes (i + a.offset) a.width) OutOfBounds (λ n. on_there (loaded a n) (λ v. Puts s l (bits v ∷ ns))))

abbrev store_at : Access → ℕ → SlotStore → List ℕ → ℕ → List ℕ → Effect
store_at a n s l i ns =
    on_there s.memory (λ mem. or_fail (write mem.bytes (i + a.offset) a.width n) OutOfBounds (λ bytes. Puts (record s { memory = Some (record mem { bytes = bytes }) }) l ns))

abbrev grow_by : SlotStore → List ℕ → ℕ → List ℕ → Effect
grow_by s l n ns = on_there s.memory (λ mem. put_grown s l mem ns (grown mem n))

pub effect_is_step : EffectIsStep
unfolding act
effect_is_step C m s l vs lower Unreachable rest p q c st lt str nf h e = (refl, refl, refl)
effect_is_step C m s l vs lower Nop rest p q c st lt str nf h e = (refl, refl, refl, refl, refl)
effect_is_step C m s l vs lower (Br x) rest p q c st lt str nf h e = absurd str
effect_is_step C m s l vs lower (BrIf x) rest p q c st lt str nf h e = absurd str
effect_is_step C m s l vs lower (BrTable xs x) rest p q c st lt str nf h e = absurd str
effect_is_step C m s l vs lower Return rest p q c st lt str nf h e = absurd str
effect_is_step C m s l vs lower (Call f) rest p q c st lt str nf h e = absurd str
effect_is_step C m s l vs lower (CallIndirect y) rest p q c st lt str nf h e = absurd str
effect_is_step C m s l vs lower (LocalTee x) rest p q c st lt str nf h e = absurd str
effect_is_step C m s l vs lower Drop rest p q c st lt str nf h e =
    two_top (Mirrors s lower rest) lower vs _ _ (over c e h.1) (λ v below tv wv tb. (refl, refl, refl, refl, refl))
effect_is_step C m s l vs lower Select rest p q c st lt str nf h e =
    two_number (Mirrors s lower rest) lower vs _ _ (over c e h.1) (λ n vs1 e1.
    two_top (Mirrors s lower rest) lower vs1 _ _ e1 (λ upper vs2 tu wu e2.
    two_top (Mirrors s lower rest) lower vs2 _ _ e2 (λ under vs3 tl wl e3.
    (refl, refl, refl, choice s l lower vs3 rest (nat_eq n 0) upper under, refl))))
effect_is_step C m s l vs lower (LocalGet x) rest p q c st lt str nf h e =
    let g = held l x lt h.1 in
    two_some (Mirrors s lower rest) _ _ g.is (slots_get l x g.value g.is) (refl, refl, refl, refl, refl)
effect_is_step C m s l vs lower (LocalSet x) rest p q c st lt str nf h e =
    let g = held l x lt h.1 in
    two_top (Mirrors s lower rest) lower vs _ _ (over c e h.2) (λ v below tv wv tb.
    two_some (Mirrors s lower rest) _ _ g.is (slots_get l x g.value g.is) (refl, refl, slots_set l x v, refl, refl))
effect_is_step C m s l vs lower (GlobalGet x) rest p q c st lt str nf h e =
    let g = held s.globals x st.globals (global_type C.globals x h.0 h.1) in
    two_some (Mirrors s lower rest) _ _ g.is (slots_get s.globals x g.value g.is) (refl, refl, refl, refl, refl)
effect_is_step C m s l vs lower (GlobalSet x) rest p q c st lt str nf h e =
    let g = held s.globals x st.globals (global_type C.globals x h.0 h.1) in
    two_top (Mirrors s lower rest) lower vs _ _ (over c e h.3) (λ v below tv wv tb.
    two_some (Mirrors s lower rest) _ _ g.is (slots_get s.globals x g.value g.is)
    (refl, ap (λ gs. record (slot_store s) { globals = gs }) (slots_set s.globals x v), refl, refl, refl))
effect_is_step C m s l vs lower (MemoryLoad a) rest p q c st lt str nf h e =
    two_low (Mirrors s lower rest) lower vs _ (load_at a (slot_store s) (slots l)) (over c e h.2) (λ i below tb.
    let mem = has_there MemoryTyped C.has_memory _ st.memory h.0 in
    two_some (Mirrors s lower rest) _ _ mem.is mem.is
    (two_trap (Mirrors s lower rest) (read (mem.thing).bytes (i + a.offset) a.width) _ _ (refl, refl, refl) (λ n is.
    let v = loaded_ok a n nf in
    two_some (Mirrors s lower rest) _ _ v.is v.is (refl, refl, refl, refl, refl))))
effect_is_step C m s l vs lower (MemoryStore a) rest p q c st lt str nf h e =
    two_number (Mirrors s lower rest) lower vs _ _ (over c e h.2) (λ n vs1 e1.
    two_low (Mirrors s lower rest) lower vs1 _ (store_at a n (slot_store s) (slots l)) e1 (λ i below tb.
    let mem = has_there MemoryTyped C.has_memory _ st.memory h.0 in
    two_some (Mirrors s lower rest) _ _ mem.is mem.is
    (two_trap (Mirrors s lower rest) (write (mem.thing).bytes (i + a.offset) a.width n) _ _ (refl, refl, refl) (λ bytes is.
    (refl, refl, refl, refl, refl)))))
effect_is_step C m s l vs lower MemorySize rest p q c st lt str nf h e =
    let mem = has_there MemoryTyped C.has_memory _ st.memory h.0 in
    two_some (Mirrors s lower rest) _ _ mem.is mem.is (refl, refl, refl, refl, refl)
effect_is_step C m s l vs lower MemoryGrow rest p q c st lt str nf h e =
    two_low (Mirrors s lower rest) lower vs _ (grow_by (slot_store s) (slots l)) (over c e h.1) (λ n below tb.
    let mem = has_there MemoryTyped C.has_memory _ st.memory h.0 in
    two_some (Mirrors s lower rest) _ _ mem.is mem.is (grown_two s l lower below rest mem.thing (grown mem.thing n)))
effect_is_step C m s l vs lower (Const t n) rest p q c st lt str nf h e =
    let v = value_ok t n nf in
    two_some (Mirrors s lower rest) _ _ v.is v.is (refl, refl, refl, refl, refl)
effect_is_step C m s l vs lower (Numeric op) rest p q c st lt str nf h e =
    two_top_of (Mirrors s lower rest) (reverse (operands op)) c _ lower vs _ _ (length-reverse (operands op)) (over c e h.0) (λ args below ta tb.
    let r = apply_ok op args nf ta in
    two_some (Mirrors s lower rest) _ _ r.is (ap (apply op) (all_tagged_slots (reverse (operands op)) args ta.typed ta.words) ∙ r.is)
    (computed_two s l lower below rest r.result))

pub tee_is_set : TeeIsSet
tee_is_set s l ns n x = refl
