-- Typed work steps to typed work, and is never stuck.
use Rattle.std.proofs.Common.{◌≡◌, ℕ, zero, suc, cond, List, [], ◌∷◌, ◌++◌, length, reverse, Some, refl, sym, ap, ◌∙◌, subst, arith, eq-eqb, append-nil}
use Rattle.std.specs.Prelude.{slice_get, nat_eq}
use Rattle.std.proofs.lemmas.List.{map-append, length-reverse, length-map, reverse-reverse}
use Rattle.wsyntax.specs.declared.types.ValType.{ValType}
use Rattle.wsyntax.specs.declared.types.ValType.TheVariants.{I32, I64, F32, F64}
use Rattle.wsyntax.specs.Types.{FuncType}
use Rattle.wsyntax.specs.Instructions.{Code, Stop, Plain, Block, Loop, If, IfElse}
use Rattle.wsyntax.specs.Validation.Context.{Stack, enter, leave, Context, under, frame_context, block_sig}
use Rattle.wsyntax.specs.Validation.Typing.{Typed}
use Rattle.wsyntax.specs.declared.value.Value.{Value}
use Rattle.wsyntax.specs.declared.value.Trap.{Trap as TrapKind}
use Rattle.wsyntax.specs.Execution.Values.{type_of, types, IsWord, AreWords, zero_of, zeros}
use Rattle.wsyntax.specs.Execution.Store.{Function, Module, Store}
use Rattle.wsyntax.specs.Execution.Step as machine
use Rattle.wsyntax.specs.Execution.Step.{Work, Source, Invoke, Trap, Label, Frame, Kind, Looping, Entering, Working, Quiet, Next, Steps, Breaks, Returns, Finished, Trapped, Traps, Stuck, leaves, opens, trap_in, in_label, in_frame, next}
use Rattle.wsyntax.specs.Execution.ConfigTyped.{ValuesTyped, AreIntegers, CodeTyped, FunctionTyped, ModuleTyped, StoreTyped, WorkTyped}
use Rattle.soundness.proofs.Chapter4.Stacks.{map-reverse, values_at, no_values, words_join, words_reverse, values_join, on_some_ok, on_number_ok, on_top_of_ok}
use Rattle.soundness.proofs.Chapter4.Codes.{empty, code_at, code_follow}
use Rattle.soundness.proofs.Chapter4.Ops.{NextTyped, function, cond_ok, leaves_ok, traps_ok, act_ok}

-- modules and stores are typed alike under every locals, labels and return type
pub module_in : {C : Context} {m : Module} (locals : List ValType) (labels : List Stack) (return : Rattle.std.specs.Prelude.Option Stack) → ModuleTyped C m → ModuleTyped (record C { locals = locals; labels = labels; return = return }) m
module_in locals labels return h = record { same_types = h.same_types; same_functions = h.same_functions; each = λ f fn e. let k = h.each f fn e in record { body = k.body; integer = k.integer; locals = k.locals } }

pub store_in : {C : Context} {s : Store} (locals : List ValType) (labels : List Stack) (return : Rattle.std.specs.Prelude.Option Stack) → StoreTyped C s → StoreTyped (record C { locals = locals; labels = labels; return = return }) s
store_in locals labels return h = record { memory = h.memory; table = h.table; globals = h.globals }

pub store_out : {C : Context} {s : Store} (locals : List ValType) (labels : List Stack) (return : Rattle.std.specs.Prelude.Option Stack) → StoreTyped (record C { locals = locals; labels = labels; return = return }) s → StoreTyped C s
store_out locals labels return h = record { memory = h.memory; table = h.table; globals = h.globals }

-- a block opens with a label around its body
opens_ok : {C : Context} {b : Stack} {s : Store} (w : Work) (kind : Kind) (t : FuncType) (r : Stack) (n : ℕ) (cont body rest : Code) (l vs : List Value) (c : Stack) → length r ≡ n → StoreTyped C s → ValuesTyped l C.locals → CodeTyped C cont r (leave t) → CodeTyped (under r C) body (enter t) (leave t) → ValuesTyped vs (enter t ++ c) → CodeTyped C rest (leave t ++ c) b → NextTyped C w b (opens kind t n cont body s l vs rest)
opens_ok {C} {b} w kind t r n cont body rest l vs c len st lt k i e fine =
    on_top_of_ok (NextTyped C w b) (enter t) c (length t.params) vs _ (length-reverse t.params) e (λ args below ta te.
    record { store = st; locals = lt; work = (r, leave t, c, len, k, (enter t, ta, i), te, fine) })

source_ok : {C : Context} {m : Module} {s : Store} {a b : Stack} (code : Code) (l vs : List Value) → ModuleTyped C m → StoreTyped C s → ValuesTyped l C.locals → CodeTyped C code a b → ValuesTyped vs a → NextTyped C (Source vs code) b (machine.source m s l vs code)
unfolding machine.source
source_ok Stop l vs mt st lt fine e = (values_at e fine.typed, refl)
source_ok (Plain i rest) l vs mt st lt fine e =
    let h = fine.typed in
    act_ok (Source vs (Plain i rest)) mt i h.0 h.1 h.2 l vs st lt fine.integer.0 h.3 (values_at e h.4) (record { typed = h.5; integer = fine.integer.1 })
source_ok {C} {m} {s} {a} {b} (Block t body rest) l vs mt st lt fine e =
    let h = fine.typed in
    on_some_ok (NextTyped C (Source vs (Block t body rest)) b) (λ sig. opens Quiet sig (length sig.results) Stop body s l vs rest) (ap (λ ts. block_sig ts t) mt.same_types ∙ h.2)
    (opens_ok (Source vs (Block t body rest)) Quiet h.0 (leave h.0) _ Stop body rest l vs h.1 (length-reverse h.0.results) st lt empty (record { typed = h.3; integer = fine.integer.0 }) (values_at e h.4) (record { typed = h.5; integer = fine.integer.1 }))
source_ok {C} {m} {s} {a} {b} (Loop t body rest) l vs mt st lt fine e =
    let h = fine.typed in
    on_some_ok (NextTyped C (Source vs (Loop t body rest)) b) (λ sig. opens Looping sig (length sig.params) (Loop t body Stop) body s l vs rest) (ap (λ ts. block_sig ts t) mt.same_types ∙ h.2)
    (opens_ok (Source vs (Loop t body rest)) Looping h.0 (enter h.0) _ (Loop t body Stop) body rest l vs h.1 (length-reverse h.0.params) st lt
    (record { typed = (h.0, [], h.2, h.3, sym (append-nil (enter h.0)), append-nil (leave h.0)); integer = (fine.integer.0, tt) })
    (record { typed = h.3; integer = fine.integer.0 }) (values_at e h.4) (record { typed = h.5; integer = fine.integer.1 }))
source_ok {C} {m} {s} {a} {b} (If t body rest) l vs mt st lt fine e =
    let h = fine.typed in
    on_number_ok (NextTyped C (Source vs (If t body rest)) b) vs _ (values_at e h.5) (λ n vs1 e1.
    on_some_ok (NextTyped C (Source vs (If t body rest)) b) (λ sig. opens Quiet sig (length sig.results) Stop (cond (nat_eq n 0) Stop body) s l vs1 rest) (ap (λ ts. block_sig ts t) mt.same_types ∙ h.2)
    (opens_ok (Source vs (If t body rest)) Quiet h.0 (leave h.0) _ Stop (cond (nat_eq n 0) Stop body) rest l vs1 h.1 (length-reverse h.0.results) st lt empty
    (cond_ok (λ x. CodeTyped (under (leave h.0) C) x (enter h.0) (leave h.0)) (nat_eq n 0) Stop body (λ _. record { typed = h.4; integer = tt }) (λ _. record { typed = h.3; integer = fine.integer.0 }))
    e1 (record { typed = h.6; integer = fine.integer.1 })))
source_ok {C} {m} {s} {a} {b} (IfElse t body other rest) l vs mt st lt fine e =
    let h = fine.typed in
    on_number_ok (NextTyped C (Source vs (IfElse t body other rest)) b) vs _ (values_at e h.5) (λ n vs1 e1.
    on_some_ok (NextTyped C (Source vs (IfElse t body other rest)) b) (λ sig. opens Quiet sig (length sig.results) Stop (cond (nat_eq n 0) other body) s l vs1 rest) (ap (λ ts. block_sig ts t) mt.same_types ∙ h.2)
    (opens_ok (Source vs (IfElse t body other rest)) Quiet h.0 (leave h.0) _ Stop (cond (nat_eq n 0) other body) rest l vs1 h.1 (length-reverse h.0.results) st lt empty
    (cond_ok (λ x. CodeTyped (under (leave h.0) C) x (enter h.0) (leave h.0)) (nat_eq n 0) other body (λ _. record { typed = h.4; integer = fine.integer.1 }) (λ _. record { typed = h.3; integer = fine.integer.0 }))
    e1 (record { typed = h.6; integer = fine.integer.2 })))

zeros_types : (ts : List ValType) → AreIntegers ts → types (zeros ts) ≡ ts
zeros_types [] h = refl
zeros_types (I32 ∷ ts) h = ap (λ us. I32 ∷ us) (zeros_types ts h.1)
zeros_types (I64 ∷ ts) h = ap (λ us. I64 ∷ us) (zeros_types ts h.1)
zeros_types (F32 ∷ ts) h = absurd h.0
zeros_types (F64 ∷ ts) h = absurd h.0

zero_word : (t : ValType) → IsWord (zero_of t)
zero_word I32 = omega arith
zero_word I64 = omega arith
zero_word F32 = omega arith
zero_word F64 = omega arith

zeros_words : (ts : List ValType) → AreWords (zeros ts)
zeros_words [] = tt
zeros_words (t ∷ ts) = (zero_word t, zeros_words ts)

own_types : (fn : Function) → AreIntegers fn.locals → (args : List Value) → types args ≡ enter fn.func_type → types (reverse args ++ zeros fn.locals) ≡ (fn.func_type).params ++ fn.locals
own_types fn ints args ta =
    map-append type_of (reverse args) (zeros fn.locals)
    ∙ ap (λ ts. ts ++ types (zeros fn.locals)) (map-reverse type_of args ∙ ap reverse ta ∙ reverse-reverse (fn.func_type).params)
    ∙ ap (λ ts. (fn.func_type).params ++ ts) (zeros_types fn.locals ints)

-- a call enters a frame
entered : {C : Context} {rest : Code} {b : Stack} (fn : Function) (c : Stack) (args below : List Value) → FunctionTyped C fn → ValuesTyped args (enter fn.func_type) → ValuesTyped below c → CodeTyped C rest (leave fn.func_type ++ c) b → WorkTyped C (Frame below (length (fn.func_type).results) (reverse args ++ zeros fn.locals) (Label [] (length (fn.func_type).results) Stop (Source [] fn.body) Stop) rest) b
entered {C} {rest} {b} fn c args below t ta te after =
    let r = leave fn.func_type in
    let len = length-reverse (fn.func_type).results in
    let own = own_types fn t.locals args ta.typed in
    let body = subst (λ ls. Typed (under r (frame_context ls r C)) fn.body [] r) (sym own) t.body in (
      r,
      c,
      len,
      words_join (reverse args) (zeros fn.locals) (words_reverse args ta.words) (zeros_words fn.locals),
      (r, r, [], len, empty, ([], no_values, record { typed = body; integer = t.integer }), no_values, record { typed = append-nil r; integer = tt }),
      te,
      after,
    )

invoke_ok : {C : Context} {m : Module} {s : Store} {rest : Code} {b : Stack} (w : Work) (l vs : List Value) (f : ℕ) (t : FuncType) (c : Stack) → ModuleTyped C m → StoreTyped C s → ValuesTyped l C.locals → slice_get C.functions f ≡ Some t → ValuesTyped vs (enter t ++ c) → CodeTyped C rest (leave t ++ c) b → NextTyped C w b (machine.invoke m s l vs f rest)
unfolding machine.invoke
invoke_ok {C} {m} {s} {rest} {b} w l vs f t c mt st lt h e fine =
    let x = function mt f t h in
    on_some_ok (NextTyped C w b) _ x.is
    (on_top_of_ok (NextTyped C w b) (enter (x.fn).func_type) c _ vs _ (length-reverse ((x.fn).func_type).params) (values_at e (ap (λ (g : FuncType). enter g ++ c) (sym x.same))) (λ args below ta te.
    record { store = st; locals = lt; work = entered x.fn c args below x.typed ta te (code_at fine (ap (λ (g : FuncType). leave g ++ c) (sym x.same))) }))

same_some : {A : Type 0} {x y : A} → Some x ≡ Some y → x ≡ y
same_some e = cc

in_label_ok : {C : Context} {s : Store} {cont rest : Code} {b d c : Stack} (r : Stack) (l vs : List Value) (n : ℕ) (inner w : Work) (o : Next) → StoreTyped C s → ValuesTyped l C.locals → length r ≡ n → CodeTyped C cont r d → ValuesTyped vs c → CodeTyped C rest (d ++ c) b → NextTyped (under r C) inner d o → NextTyped C w b (in_label s l vs n cont rest o)
unfolding in_label
in_label_ok {C} {d = d} {c = c} r l vs n inner w (Steps kind s' l' inner') st lt len k e fine h =
    record { store = store_out C.locals (r ∷ C.labels) C.return h.store; locals = h.locals; work = (r, d, c, len, k, h.work, e, fine) }
in_label_ok {C} {s} {cont} {rest} {b} {d} {c} r l vs n inner w (Breaks zero over) st lt len k e fine h =
    let same : r ≡ h.0 = same_some h.1 in
    on_top_of_ok (NextTyped C w b) r h.2.below n over _ len (values_at h.2.over (ap (λ ts. ts ++ h.2.below) (sym same))) (λ taken dropped ta te.
    leaves_ok w Quiet st lt (values_join taken vs ta e) (code_follow cont rest c k fine))
in_label_ok r l vs n inner w (Breaks (suc x) over) st lt len k e fine h = h
in_label_ok r l vs n inner w (Returns over) st lt len k e fine h = h
in_label_ok r l vs n inner w (Finished over) st lt len k e fine h = leaves_ok w Quiet st lt (values_join over vs h.0 e) fine
in_label_ok r l vs n inner w (Trapped kind) st lt len k e fine h = tt
in_label_ok r l vs n inner w (Traps kind) st lt len k e fine h = tt
in_label_ok r l vs n inner w Stuck st lt len k e fine h = h

in_frame_ok : {C : Context} {s : Store} {rest : Code} {b c : Stack} (r : Stack) (l vs : List Value) (n : ℕ) (own : List Value) (inner w : Work) (o : Next) → StoreTyped C s → ValuesTyped l C.locals → length r ≡ n → AreWords own → ValuesTyped vs c → CodeTyped C rest (r ++ c) b → NextTyped (frame_context (types own) r C) inner r o → NextTyped C w b (in_frame s l vs n own rest o)
unfolding in_frame
in_frame_ok {C} {c = c} r l vs n own inner w (Steps kind s' own' inner') st lt len ow e fine h =
    record { store = store_out (types own) [] (Some r) h.store; locals = lt; work = (r, c, len, h.locals.words, subst (λ ts. WorkTyped (frame_context ts r C) inner' r) (sym h.locals.typed) h.work, e, fine) }
in_frame_ok r l vs n own inner w (Breaks x over) st lt len ow e fine h = absurd (cc (h.1))
in_frame_ok {C} {b = b} {c = c} r l vs n own inner w (Returns over) st lt len ow e fine h =
    let same : r ≡ h.0 = same_some h.1 in
    on_top_of_ok (NextTyped C w b) r h.2.below n over _ len (values_at h.2.over (ap (λ ts. ts ++ h.2.below) (sym same))) (λ taken dropped ta te.
    leaves_ok w Working st lt (values_join taken vs ta e) fine)
in_frame_ok {C} {s} {rest} {b} {c} r l vs n own inner w (Finished over) st lt len ow e fine h =
    let long : length over ≡ n = sym (length-map over type_of) ∙ ap length h.0.typed ∙ len in
    subst (λ yes'. NextTyped C w b (cond yes' (leaves Quiet s l (over ++ vs) rest) Stuck)) (sym (eq-eqb (length over) n long))
    (leaves_ok w Quiet st lt (values_join over vs h.0 e) fine)
in_frame_ok r l vs n own inner w (Trapped kind) st lt len ow e fine h = traps_ok w Quiet st lt fine
in_frame_ok {c = c} r l vs n own inner w (Traps kind) st lt len ow e fine h = record { store = st; locals = lt; work = (r, c, len, ow, (r, empty), e, fine) }
in_frame_ok r l vs n own inner w Stuck st lt len ow e fine h = h

trap_in_ok : (C : Context) (b : Stack) (vs : List Value) (kind : TrapKind) (rest : Code) → NextTyped C (Trap vs kind rest) b (trap_in vs kind rest)
unfolding trap_in
trap_in_ok C b [] kind Stop = refl
trap_in_ok C b [] kind (Plain i r) = tt
trap_in_ok C b [] kind (Block t x r) = tt
trap_in_ok C b [] kind (Loop t x r) = tt
trap_in_ok C b [] kind (If t x r) = tt
trap_in_ok C b [] kind (IfElse t x y r) = tt
trap_in_ok C b (v ∷ vs) kind rest = tt

-- whatever comes next of typed work is typed
pub next_ok : (w : Work) (C : Context) (b : Stack) (m : Module) (s : Store) (l : List Value) → ModuleTyped C m → StoreTyped C s → ValuesTyped l C.locals → WorkTyped C w b → NextTyped C w b (next m s l w)
unfolding next
next_ok (Source vs code) C b m s l mt st lt h = source_ok code l vs mt st lt h.2 h.1
next_ok (Invoke vs f rest) C b m s l mt st lt h = invoke_ok (Invoke vs f rest) l vs f h.0 h.1 mt st lt h.2 h.3 h.4
next_ok (Trap vs kind rest) C b m s l mt st lt h = trap_in_ok C b vs kind rest
next_ok (Label vs n cont inner rest) C b m s l mt st lt h =
    in_label_ok h.0 l vs n inner (Label vs n cont inner rest) (next m s l inner) st lt h.3 h.4 h.6 h.7
    (next_ok inner (under h.0 C) h.1 m s l (module_in C.locals (h.0 ∷ C.labels) C.return mt) (store_in C.locals (h.0 ∷ C.labels) C.return st) lt h.5)
next_ok (Frame vs n own inner rest) C b m s l mt st lt h =
    in_frame_ok h.0 l vs n own inner (Frame vs n own inner rest) (next m s own inner) st lt h.2 h.3 h.5 h.6
    (next_ok inner (frame_context (types own) h.0 C) h.0 m s own (module_in (types own) [] (Some h.0) mt) (store_in (types own) [] (Some h.0) st) (record { typed = refl; words = h.3 }) h.4)
