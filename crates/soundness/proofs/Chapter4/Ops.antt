-- One instruction without a body: it steps to a typed configuration, or leaves the level over values of the type of label or function.
-- The theorem is `act_ok`, with a case for each instruction; `NextTyped` says what may come next of typed work, which is never `Stuck`.
-- Sound.antt and Straight.antt cite it; Chains.antt takes `NextTyped` from here, and Weight.antt the lemma `cond_ok`.
use Rattle.std.proofs.Common.{◌≡◌, ℕ, zero, suc, arith, ◌+◌, ◌/◌, Bool, true, false, cond, List, [], ◌∷◌, ◌++◌, length, map, Option, Some, None, Ok, Err, refl, sym, ap, ◌∙◌, get_or, append_assoc, append-nil}
use Rattle.std.specs.Prelude.{slice_get, nat_eq, All}
use Rattle.std.proofs.lemmas.List.{length-reverse}
use Rattle.std.proofs.lemmas.List.Elements.{All-head, All-tail, All-cons}
use Rattle.wsyntax.specs.declared.types.ValType.TheVariants.{I32}
use Rattle.wsyntax.specs.Types.{FuncType, same_types, same_func_type}
use Rattle.wsyntax.specs.Instructions.{Width32, Op, Unreachable, Nop, Return, Br, BrIf, Call, CallIndirect, BrTable, Drop, Select, LocalGet, LocalSet, LocalTee, GlobalGet, GlobalSet, MemoryLoad, MemoryStore, MemorySize, MemoryGrow, Const, Numeric, Code, Stop}
use Rattle.wsyntax.specs.Validation.Context.{Stack, enter, leave, Context}
use Rattle.wsyntax.specs.Validation.Typing.{OpTyped, operands}
use Rattle.wsyntax.specs.declared.value.Value.{Value}
use Rattle.wsyntax.specs.declared.value.Value.TheVariants.{I32 as V32}
use Rattle.wsyntax.specs.declared.value.Trap.{Trap as TrapKind}
use Rattle.wsyntax.specs.declared.value.Trap.TheVariants.{UndefinedElement}
use Rattle.wsyntax.specs.Execution.Values.{type_of, word}
use Rattle.wsyntax.specs.Execution.Numerics.{Computed}
use Rattle.wsyntax.specs.Execution.Store.{Function, Module, Memory, Entry, Unset, SetTo, Store, page, read, write, grown}
use Rattle.wsyntax.specs.Execution.Step.{Work, Source, Trap, Kind, Working, Quiet, Next, Steps, Breaks, Returns, Finished, Trapped, Traps, Stuck, leaves, traps, or_trap, computed, after_grow, enter_entry, act}
use Rattle.wsyntax.specs.Execution.ConfigTyped.{ValuesTyped, IntegerOp, CodeTyped, FunctionTyped, ModuleTyped, MemoryTyped, EntryTyped, TableTyped, StoreTyped, WorkTyped}
use Rattle.soundness.proofs.Chapter3.Basics.{both_true, same_types-true}
use Rattle.soundness.proofs.Chapter4.Stacks.{values_at, push, on_top_ok, on_some_ok, on_number_ok, on_top_of_ok, held, values_set}
use Rattle.soundness.proofs.Chapter4.Codes.{code_at}
use Rattle.soundness.proofs.Chapter4.Numerics.{is_word, Computes, apply_ok}
use Rattle.soundness.proofs.Chapter4.Stores.{has_there, written, grown_typed, value_ok, loaded_ok, with_memory, with_global, global_type}

-- a step leads to a typed configuration
pub record StepTyped (C : Context) (b : Stack) (s : Store) (l : List Value) (w : Work) : Type 0 where
  pub store : StoreTyped C s
  pub locals : ValuesTyped l C.locals
  pub work : WorkTyped C w b

-- values that end with those of a type
pub record Carries (r : Stack) (vs : List Value) : Type 0 where
  pub below : Stack
  pub over : ValuesTyped vs (r ++ below)

-- what comes next of typed work: never `Stuck`
abbrev pub NextTyped : Context → Work → Stack → Next → Type 0
NextTyped C w b (Steps kind s l w') = StepTyped C b s l w'
NextTyped C w b (Breaks x vs) = (r : Stack) × (slice_get C.labels x ≡ Some r) × Carries r vs
NextTyped C w b (Returns vs) = (r : Stack) × (C.return ≡ Some r) × Carries r vs
NextTyped C w b (Finished vs) = ValuesTyped vs b × (w ≡ Source vs Stop)
NextTyped C w b (Trapped kind) = w ≡ Trap [] kind Stop
NextTyped C w b (Traps kind) = Unit {0}
NextTyped C w b Stuck = ⊥

pub same_func_type-true : (a b : FuncType) → same_func_type a b ≡ true → a ≡ b
same_func_type-true a b e =
    let h = both_true (same_types a.params b.params) (same_types a.results b.results) e in
    let p = same_types-true a.params b.params h.0 in
    let q = same_types-true a.results b.results h.1 in
    λ i. record { params = p i; results = q i }

-- a function of the context is one of the module, and typed
pub record HasFunction (C : Context) (m : Module) (f : ℕ) (t : FuncType) : Type 0 where
  pub fn : Function
  pub is : slice_get m.functions f ≡ Some fn
  pub same : fn.func_type ≡ t
  pub typed : FunctionTyped C fn

function_at : (fns : List Function) (f : ℕ) (t : FuncType) → slice_get (map (λ (fn : Function). fn.func_type) fns) f ≡ Some t → (fn : Function) × (slice_get fns f ≡ Some fn) × (fn.func_type ≡ t)
function_at [] f t e = absurd cc
function_at (fn ∷ fns) zero t e = (fn, refl, cc)
function_at (fn ∷ fns) (suc f) t e = function_at fns f t e

pub function : {C : Context} {m : Module} → ModuleTyped C m → (f : ℕ) (t : FuncType) → slice_get C.functions f ≡ Some t → HasFunction C m f t
function {C} {m} mt f t h =
    let x = function_at m.functions f t (ap (λ fs. slice_get fs f) mt.same_functions ∙ h) in
    record { fn = x.0; is = x.1; same = x.2; typed = mt.each f x.0 x.1 }

-- each label of a table has the type of the others
all_labels : (labels : List Stack) (r : Stack) (ls : List ℕ) (d i : ℕ) → All (λ l. slice_get labels l ≡ Some r) (d ∷ ls) → slice_get labels (get_or ls i d) ≡ Some r
all_labels labels r [] d i h = All-head (λ l. slice_get labels l ≡ Some r) d [] h
all_labels labels r (l ∷ ls) d zero h = All-head (λ k. slice_get labels k ≡ Some r) l ls (All-tail (λ k. slice_get labels k ≡ Some r) d (l ∷ ls) h)
all_labels labels r (l ∷ ls) d (suc i) h =
    all_labels labels r ls d i (All-cons (λ k. slice_get labels k ≡ Some r) d ls (All-head (λ k. slice_get labels k ≡ Some r) d (l ∷ ls) h) (All-tail (λ k. slice_get labels k ≡ Some r) l ls (All-tail (λ k. slice_get labels k ≡ Some r) d (l ∷ ls) h)))

pub cond_ok : {A : Type 0} (P : A → Type 0) (b : Bool) (x y : A) → (b ≡ true → P x) → (b ≡ false → P y) → P (cond b x y)
cond_ok P true x y f g = f refl
cond_ok P false x y f g = g refl

or_trap_ok : {A : Type 0} (P : Next → Type 0) (o : Option A) {trap : TrapKind} {s : Store} {l vs : List Value} {rest : Code} (go : A → Next) → P (traps Working s l vs trap rest) → ((x : A) → o ≡ Some x → P (go x)) → P (or_trap o trap s l vs rest go)
or_trap_ok P None go h f = h
or_trap_ok P (Some x) go h f = f x refl

-- the operands and the rest, where the instruction's types are known
over : {vs : List Value} {p p' : Stack} (c : Stack) → ValuesTyped vs (p ++ c) → p ≡ p' → ValuesTyped vs (p' ++ c)
over c e h = values_at e (ap (λ z. z ++ c) h)

from : {C : Context} {rest : Code} {b q q' : Stack} (c : Stack) → CodeTyped C rest (q ++ c) b → q ≡ q' → CodeTyped C rest (q' ++ c) b
from c k h = code_at k (ap (λ z. z ++ c) h)

module _ {C : Context} {b : Stack} (w : Work) where
  -- the instruction leaves values of these types
  pub leaves_ok : {s : Store} {l vs : List Value} {rest : Code} {a : Stack} (kind : Kind) → StoreTyped C s → ValuesTyped l C.locals → ValuesTyped vs a → CodeTyped C rest a b → NextTyped C w b (leaves kind s l vs rest)
  leaves_ok {a = a} kind st lt e fine = record { store = st; locals = lt; work = (a, e, fine) }

  pub traps_ok : {s : Store} {l vs : List Value} {rest : Code} {a : Stack} {t : TrapKind} (kind : Kind) → StoreTyped C s → ValuesTyped l C.locals → CodeTyped C rest a b → NextTyped C w b (traps kind s l vs t rest)
  traps_ok {a = a} kind st lt fine = record { store = st; locals = lt; work = (a, fine) }

  computed_ok : {s : Store} (l vs : List Value) {rest : Code} (q c : Stack) (r : Computed) → StoreTyped C s → ValuesTyped l C.locals → Computes q r → ValuesTyped vs c → CodeTyped C rest (q ++ c) b → NextTyped C w b (computed s l vs rest r)
  computed_ok l vs q c (Ok v) st lt h e fine =
      let k : (type_of v ∷ []) ≡ q = h.typed in
      leaves_ok Working st lt (values_at (push v refl h.words.0 e) (ap (λ ts. ts ++ c) k)) fine
  computed_ok l vs q c (Err t) st lt h e fine = traps_ok Working st lt fine

  after_grow_ok : {s : Store} (l vs : List Value) {rest : Code} {c : Stack} (mem : Memory) (o : Option Memory) → StoreTyped C s → ValuesTyped l C.locals → ((more : Memory) → o ≡ Some more → MemoryTyped more) → ValuesTyped vs c → CodeTyped C rest (I32 ∷ c) b → NextTyped C w b (after_grow s l mem vs rest o)
  after_grow_ok l vs mem None st lt h e fine = leaves_ok Working st lt (push (V32 4294967295) refl (omega arith) e) fine
  after_grow_ok l vs mem (Some more) st lt h e fine =
      leaves_ok Working (with_memory more st (h more refl)) lt (push (word Width32 (length mem.bytes / page)) refl (is_word Width32 (length mem.bytes / page)) e) fine

  module _ {m : Module} (mt : ModuleTyped C m) where
    enter_entry_ok : {s : Store} (l vs : List Value) {rest : Code} (c : Stack) (t : FuncType) (entry : Entry) → StoreTyped C s → ValuesTyped l C.locals → EntryTyped C entry → ValuesTyped vs (enter t ++ c) → CodeTyped C rest (leave t ++ c) b → NextTyped C w b (enter_entry m t s l vs rest entry)
    enter_entry_ok l vs c t Unset st lt h e fine = traps_ok Working st lt fine
    enter_entry_ok l vs c t (SetTo f) st lt h e fine =
        let g = function mt f h.0 h.1 in
        on_some_ok (NextTyped C w b) _ g.is
        (cond_ok (NextTyped C w b) (same_func_type (g.fn).func_type t) _ _
        (λ same.
        let here : slice_get C.functions f ≡ Some t = h.1 ∙ ap Some (sym g.same ∙ same_func_type-true (g.fn).func_type t same) in
        record { store = st; locals = lt; work = (t, c, here, e, fine) })
        (λ _. traps_ok Working st lt fine))

    pub act_ok : {s : Store} {rest : Code} (i : Op) (p q c : Stack) (l vs : List Value) → StoreTyped C s → ValuesTyped l C.locals → IntegerOp i → OpTyped C i p q → ValuesTyped vs (p ++ c) → CodeTyped C rest (q ++ c) b → NextTyped C w b (act m s l i vs rest)
    unfolding act
    act_ok Unreachable p q c l vs st lt nf h e fine = traps_ok Quiet st lt fine
    act_ok Nop p q c l vs st lt nf h e fine = leaves_ok Quiet st lt (over c e h.0) (from c fine h.1)
    act_ok (Br x) p q c l vs st lt nf h e fine =
        (h.0, h.2, record { below = h.1 ++ c; over = values_at (over c e h.3) (append_assoc h.0 h.1 c) })
    act_ok (BrIf x) p q c l vs st lt nf h e fine =
        on_number_ok (NextTyped C w b) vs _ (over c e h.2) (λ n below te.
        cond_ok (NextTyped C w b) (nat_eq n 0) _ _
        (λ _. leaves_ok Quiet st lt te (from c fine h.3))
        (λ _. leaves_ok Quiet st lt te (record { typed = (h.0, q, c, (h.0, [], h.1, sym (append-nil h.0)), refl, fine.typed); integer = (tt, fine.integer) })))
    act_ok (BrTable xs x) p q c l vs st lt nf h e fine =
        on_number_ok (NextTyped C w b) vs _ (over c e h.3) (λ i below te.
        leaves_ok Quiet st lt te (record { typed = (h.0 ++ h.1, q, c, (h.0, h.1, all_labels C.labels h.0 xs x i h.2, refl), refl, fine.typed); integer = (tt, fine.integer) }))
    act_ok Return p q c l vs st lt nf h e fine =
        (h.0, h.2, record { below = h.1 ++ c; over = values_at (over c e h.3) (append_assoc h.0 h.1 c) })
    act_ok (Call f) p q c l vs st lt nf h e fine =
        record { store = st; locals = lt; work = (h.0, c, h.1, over c e h.2, from c fine h.3) }
    act_ok {s} {rest} (CallIndirect y) p q c l vs st lt nf h e fine =
        on_number_ok (NextTyped C w b) vs _ (over c e h.3) (λ i below te.
        let table = has_there (TableTyped C) C.has_table _ st.table h.1 in
        on_some_ok (NextTyped C w b) _ table.is
        (on_some_ok (NextTyped C w b) (λ t. or_trap (slice_get table.thing i) UndefinedElement s l below rest (enter_entry m t s l below rest)) (ap (λ ts. slice_get ts y) mt.same_types ∙ h.2)
        (or_trap_ok (NextTyped C w b) (slice_get table.thing i) (enter_entry m h.0 s l below rest) (traps_ok Working st lt fine)
        (λ entry is. enter_entry_ok l below c h.0 entry st lt (table.typed i entry is) te (from c fine h.4)))))
    act_ok Drop p q c l vs st lt nf h e fine =
        on_top_ok (NextTyped C w b) vs _ (over c e h.1) (λ v below tv wv te. leaves_ok Working st lt te (from c fine h.2))
    act_ok Select p q c l vs st lt nf h e fine =
        on_number_ok (NextTyped C w b) vs _ (over c e h.1) (λ n vs1 e1.
        on_top_ok (NextTyped C w b) vs1 _ e1 (λ upper vs2 tu wu e2.
        on_top_ok (NextTyped C w b) vs2 _ e2 (λ lower vs3 tl wl e3.
        leaves_ok Working st lt (cond_ok (λ v. ValuesTyped (v ∷ vs3) (h.0 ∷ c)) (nat_eq n 0) upper lower (λ _. push upper tu wu e3) (λ _. push lower tl wl e3)) (from c fine h.2))))
    act_ok (LocalGet x) p q c l vs st lt nf h e fine =
        let g = held l x lt h.1 in
        on_some_ok (NextTyped C w b) _ g.is (leaves_ok Working st lt (push g.value g.of_type g.word (over c e h.2)) (from c fine h.3))
    act_ok (LocalSet x) p q c l vs st lt nf h e fine =
        let g = held l x lt h.1 in
        on_top_ok (NextTyped C w b) vs _ (over c e h.2) (λ v below tv wv te.
        on_some_ok (NextTyped C w b) _ g.is (leaves_ok Working st (values_set l x v g.value g.is (tv ∙ sym g.of_type) wv lt) te (from c fine h.3)))
    act_ok (LocalTee x) p q c l vs st lt nf h e fine =
        on_top_ok (NextTyped C w b) vs _ (over c e h.2) (λ v below tv wv te.
        leaves_ok Quiet st lt (push v tv wv (push v tv wv te)) (record { typed = (h.0 ∷ [], [], h.0 ∷ c, (h.0, h.1, refl, refl), refl, (from c fine h.3).typed); integer = (tt, fine.integer) }))
    act_ok {s} (GlobalGet x) p q c l vs st lt nf h e fine =
        let g = held s.globals x st.globals (global_type C.globals x h.0 h.1) in
        on_some_ok (NextTyped C w b) _ g.is (leaves_ok Working st lt (push g.value g.of_type g.word (over c e h.2)) (from c fine h.3))
    act_ok {s} (GlobalSet x) p q c l vs st lt nf h e fine =
        let g = held s.globals x st.globals (global_type C.globals x h.0 h.1) in
        on_top_ok (NextTyped C w b) vs _ (over c e h.3) (λ v below tv wv te.
        on_some_ok (NextTyped C w b) _ g.is (leaves_ok Working (with_global x v g.value st g.is (tv ∙ sym g.of_type) wv) lt te (from c fine h.4)))
    act_ok (MemoryLoad a) p q c l vs st lt nf h e fine =
        on_number_ok (NextTyped C w b) vs _ (over c e h.2) (λ i below te.
        let mem = has_there MemoryTyped C.has_memory _ st.memory h.0 in
        on_some_ok (NextTyped C w b) _ mem.is
        (or_trap_ok (NextTyped C w b) (read (mem.thing).bytes (i + a.offset) a.width) _ (traps_ok Working st lt fine) (λ n is.
        let v = loaded_ok a n nf in
        on_some_ok (NextTyped C w b) _ v.is (leaves_ok Working st lt (push v.value v.of_type v.word te) (from c fine h.3)))))
    act_ok (MemoryStore a) p q c l vs st lt nf h e fine =
        on_number_ok (NextTyped C w b) vs _ (over c e h.2) (λ n vs1 e1.
        on_number_ok (NextTyped C w b) vs1 _ e1 (λ i below te.
        let mem = has_there MemoryTyped C.has_memory _ st.memory h.0 in
        on_some_ok (NextTyped C w b) _ mem.is
        (or_trap_ok (NextTyped C w b) (write (mem.thing).bytes (i + a.offset) a.width n) _ (traps_ok Working st lt fine) (λ bytes is.
        leaves_ok Working (with_memory _ st (written mem.thing (i + a.offset) a.width n bytes mem.typed is)) lt te (from c fine h.3)))))
    act_ok MemorySize p q c l vs st lt nf h e fine =
        let mem = has_there MemoryTyped C.has_memory _ st.memory h.0 in
        on_some_ok (NextTyped C w b) _ mem.is
        (leaves_ok Working st lt (push (word Width32 (length (mem.thing).bytes / page)) refl (is_word Width32 (length (mem.thing).bytes / page)) (over c e h.1)) (from c fine h.2))
    act_ok MemoryGrow p q c l vs st lt nf h e fine =
        on_number_ok (NextTyped C w b) vs _ (over c e h.1) (λ n below te.
        let mem = has_there MemoryTyped C.has_memory _ st.memory h.0 in
        on_some_ok (NextTyped C w b) _ mem.is
        (after_grow_ok l below mem.thing (grown mem.thing n) st lt (λ more is. grown_typed mem.thing more n mem.typed is) te (from c fine h.2)))
    act_ok (Const t n) p q c l vs st lt nf h e fine =
        let v = value_ok t n nf in
        on_some_ok (NextTyped C w b) _ v.is (leaves_ok Quiet st lt (push v.value v.of_type v.word (over c e h.0)) (from c fine h.1))
    act_ok (Numeric op) p q c l vs st lt nf h e fine =
        on_top_of_ok (NextTyped C w b) _ c _ vs _ (length-reverse (operands op)) (over c e h.0) (λ args below ta te.
        let r = apply_ok op args nf ta in
        on_some_ok (NextTyped C w b) _ r.is (computed_ok l below _ c r.result st lt r.typed te (from c fine h.1)))
