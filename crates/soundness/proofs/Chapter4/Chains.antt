-- Chains of steps from typed configurations: each of these is typed and not stuck, and a call ends in one way (`never_stuck`, `one_end`).
-- A single step goes by cases of what comes next (`NextTyped` of Ops.antt), a chain by induction over its steps.
-- Laws of src/execution.rt cite it, Running.antt and Weight.antt, Joined/Calls.antt and Joined/Ends.antt, and Calling.antt of wmachine.
use Rattle.std.proofs.Common.{◌⊎◌, inl, inr, ◌≡◌, ℕ, ◌+◌, ◌<◌, List, [], ◌∷◌, None, refl, sym, ap, ◌∙◌, subst, subst₂, arith, reverse, append-nil}
use Rattle.std.proofs.lemmas.List.{reverse-reverse}
use Rattle.wsyntax.specs.Types.{FuncType}
use Rattle.wsyntax.specs.Instructions.{Stop}
use Rattle.wsyntax.specs.declared.value.Trap.{Trap as TrapKind}
use Rattle.wsyntax.specs.declared.value.Value.{Value}
use Rattle.wsyntax.specs.Execution.Values.{types, AreWords}
use Rattle.wsyntax.specs.Execution.Store.{Module, Store}
use Rattle.wsyntax.specs.Execution.Step.{Work, Source, Trap, Config, Kind, Entering, Next, Steps, Breaks, Returns, Finished, Trapped, Traps, Stuck, next, outermost, step}
use Rattle.wsyntax.specs.Execution.Chain.{Step, Chain, Within, charge, charged, frames_in}
use Rattle.wsyntax.specs.Execution.Ends.{Outcome, Values, EndsAs, values, trapped, out_of_fuel, out_of_frames, IsStuck, start}
use Rattle.wsyntax.specs.Validation.Context.{Stack, enter, leave, Context}
use Rattle.wsyntax.specs.Execution.ConfigTyped.{ValuesTyped, ModuleTyped, WorkTyped, StoreTyped, outside, ConfigTyped}
use Rattle.wsyntax.specs.Execution.Laws.{OneOfThree, OneStep, Preservation, Progress, CallTyped, NeverStuck, ResultsTyped, StoreKept, OneEnd, Paid, Joins, CountsAdd}
use Rattle.soundness.proofs.Chapter4.Stacks.{values_at, values_reverse}
use Rattle.soundness.proofs.Chapter4.Codes.{empty}
use Rattle.soundness.proofs.Chapter4.Ops.{NextTyped}
use Rattle.soundness.proofs.Chapter4.Sound.{module_in, store_in, store_out, next_ok}

outermost_ok : {C : Context} (b : Stack) (c : Config) (o : Next) → StoreTyped C c.store → AreWords c.locals → NextTyped (outside (types c.locals) C) c.work b o → NextTyped (outside (types c.locals) C) c.work b (outermost c.store c.locals o)
unfolding outermost
outermost_ok b c (Steps kind s l w) st lw h = h
outermost_ok b c (Breaks x vs) st lw h = absurd (cc (h.1))
outermost_ok b c (Returns vs) st lw h = absurd (cc (h.1))
outermost_ok b c (Finished vs) st lw h = h
outermost_ok b c (Trapped kind) st lw h = h
outermost_ok b c (Traps kind) st lw h = record { store = store_in (types c.locals) [] None st; locals = record { typed = refl; words = lw }; work = (b, empty) }
outermost_ok b c Stuck st lw h = h

step_ok : {C : Context} {r : Stack} (m : Module) (c : Config) → ModuleTyped C m → ConfigTyped C c r → NextTyped (outside (types c.locals) C) c.work r (step m c)
unfolding step
step_ok {C} {r} m c mt t =
    outermost_ok r c (next m c.store c.locals c.work) t.store t.locals
    (next_ok c.work (outside (types c.locals) C) r m c.store c.locals (module_in (types c.locals) [] None mt) (store_in (types c.locals) [] None t.store) (record { typed = refl; words = t.locals }) t.work)

pub one_step : OneStep
one_step m c d d' kind kind' e f =
    let same : Steps kind d.store d.locals d.work ≡ Steps kind' d'.store d'.locals d'.work = sym e ∙ f in
    let s : d.store ≡ d'.store = cc in
    let l : d.locals ≡ d'.locals = cc in
    let w : d.work ≡ d'.work = cc in
    (cc, λ i. record { store = s i; locals = l i; work = w i })

pub preservation : Preservation
preservation C m c d kind r mt t e =
    let h = subst (NextTyped (outside (types c.locals) C) c.work r) e (step_ok m c mt t) in
    record { store = store_out (types c.locals) [] None h.store; locals = h.locals.words; work = subst (λ ts. WorkTyped (outside ts C) d.work r) (sym h.locals.typed) h.work }

never_traps : (c : Config) (o : Next) (kind : TrapKind) → outermost c.store c.locals o ≡ Traps kind → ⊥
unfolding outermost
never_traps c (Steps k s l w) kind e = cc
never_traps c (Breaks x vs) kind e = cc
never_traps c (Returns vs) kind e = cc
never_traps c (Finished vs) kind e = cc
never_traps c (Trapped t) kind e = cc
never_traps c (Traps t) kind e = cc
never_traps c Stuck kind e = cc

progress_at : (C : Context) (b : Stack) {m : Module} {c : Config} (o : Next) → step m c ≡ o → NextTyped (outside (types c.locals) C) c.work b o → IsStuck m c → ⊥
unfolding step
progress_at C b (Steps kind s l w) e h k = k.no_step kind (record { store = s; locals = l; work = w }) e
progress_at C b (Breaks x vs) e h k = absurd (cc (h.1))
progress_at C b (Returns vs) e h k = absurd (cc (h.1))
progress_at C b (Finished vs) e h k = k.no_values vs h.1
progress_at C b (Trapped kind) e h k = k.no_trap kind h
progress_at C b {m} {c} (Traps kind) e h k = never_traps c (next m c.store c.locals c.work) kind e
progress_at C b Stuck e h k = h

pub progress : Progress
progress C m c r mt t k = progress_at C r (step m c) refl (step_ok m c mt t) k

Goes : Module → Config → Type 0
Goes m c = ((kind : Kind) × (d : Config) × Step m c kind d) ⊎ (((vs : List Value) × (c.work ≡ Source vs Stop)) ⊎ ((trap : TrapKind) × (c.work ≡ Trap [] trap Stop)))

goes_at : (C : Context) (b : Stack) (m : Module) (c : Config) (o : Next) → step m c ≡ o → NextTyped (outside (types c.locals) C) c.work b o → Goes m c
unfolding step Goes
goes_at C b m c (Steps kind s l w) e h = inl (kind, record { store = s; locals = l; work = w }, e)
goes_at C b m c (Breaks x vs) e h = absurd (cc (h.1))
goes_at C b m c (Returns vs) e h = absurd (cc (h.1))
goes_at C b m c (Finished vs) e h = inr (inl (vs, h.1))
goes_at C b m c (Trapped kind) e h = inr (inr (kind, h))
goes_at C b m c (Traps kind) e h = absurd (never_traps c (next m c.store c.locals c.work) kind e)
goes_at C b m c Stuck e h = absurd h

pub one_of_three : OneOfThree
unfolding Goes
one_of_three C m c r mt t = goes_at C r m c (step m c) refl (step_ok m c mt t)

-- Chains.

kept : {C : Context} {m : Module} {c d : Config} {kinds : List Kind} (r : Stack) → ModuleTyped C m → Chain m c kinds d → ConfigTyped C c r → ConfigTyped C d r
kept r mt Chain.ends t = t
kept {C} {m} r mt (Chain.after {c = c} {d = d} {kind = kind} e rest) t = kept r mt rest (preservation C m c d kind r mt t e)

pub start_ok : {C : Context} {m : Module} {s : Store} {f : ℕ} {args : List Value} {sig : FuncType} → CallTyped C m s f args sig → ConfigTyped C (start s f args) (leave sig)
start_ok {args = args} {sig = sig} t = record {
  store = t.typed_store;
  locals = tt;
  work = (sig, [], t.function, values_at (values_reverse args t.arguments) (sym (append-nil (enter sig))), record { typed = append-nil (leave sig); integer = tt });
}

pub never_stuck : NeverStuck
never_stuck C m s f args sig t kinds c chain =
    let typed = kept (leave sig) t.typed_module chain (start_ok t) in
    (typed, progress C m c (leave sig) t.typed_module typed)

-- the chain without its limits
unlimited : {m : Module} {frames fuel left : ℕ} {c d : Config} {kinds : List Kind} → Within m frames fuel c kinds d left → Chain m c kinds d
unlimited Within.ends = Chain.ends
unlimited (Within.after e paid room rest) = Chain.after e (unlimited rest)

-- work that is values alone has values of its types
values_ok : (C : Context) (w : Work) (b : Stack) (vs : List Value) → w ≡ Source vs Stop → WorkTyped C w b → ValuesTyped vs b
values_ok C w b vs e t = let h = subst (λ w. WorkTyped C w b) e t in values_at h.1 h.2.typed

typed_values : {C : Context} {m : Module} {frames left : ℕ} {c : Config} {o : Outcome} {r : Stack} (vs : List Value) → EndsAs m frames c left o → o ≡ Values vs → ConfigTyped C c r → ValuesTyped vs (reverse r)
typed_values {C} {c = c} {r = r} vs (values us e) same t =
    let is : reverse us ≡ vs = cc in
    subst (λ vs. ValuesTyped vs (reverse r)) is (values_reverse us (values_ok (outside (types c.locals) C) c.work r us e t.work))
typed_values vs (trapped trap e) same t = absurd cc
typed_values vs (out_of_fuel e k z) same t = absurd cc
typed_values vs (out_of_frames e k z) same t = absurd cc

pub results_typed : ResultsTyped
results_typed C m s f args sig t fuel frames k vs s' e =
    values_at (typed_values vs e.end refl (kept (leave sig) t.typed_module (unlimited e.chain) (start_ok t))) (reverse-reverse sig.results)

pub store_kept : StoreKept
store_kept C m s f args sig t fuel frames k o s' e =
    let typed = kept (leave sig) t.typed_module (unlimited e.chain) (start_ok t) in
    subst (StoreTyped C) (sym e.kept) typed.store

-- One end.

pub paid : Paid
paid m frames fuel left c d kinds Within.ends = omega arith
paid m frames fuel left c d kinds (Within.after {spare = spare} {d = x} {kinds = rest} e f room w) =
    let h = paid m frames spare left x d rest w in omega (arith, f, h)

no_step_at : (m : Module) (c d : Config) {kind : Kind} (w : Work) (o : Next) → c.work ≡ w → outermost c.store c.locals (next m c.store c.locals w) ≡ o → Step m c kind d → o ≡ Steps kind d.store d.locals d.work
unfolding step
no_step_at m c d w o e f g = sym f ∙ ap (λ w. outermost c.store c.locals (next m c.store c.locals w)) (sym e) ∙ g

-- where a call ends, no step within the limits follows
over : {m : Module} {frames left : ℕ} (spare : ℕ) {c d : Config} {o : Outcome} {kind : Kind} → EndsAs m frames c left o → Step m c kind d → left ≡ charge kind + spare → (kind ≡ Entering → frames_in c.work < frames) → ⊥
unfolding step
over {m} spare {c} {d} (values vs e) st f room = absurd (cc (no_step_at m c d (Source vs Stop) (Finished vs) e refl st))
over {m} spare {c} {d} (trapped t e) st f room = absurd (cc (no_step_at m c d (Trap [] t Stop) (Trapped t) e refl st))
over {m} spare {c} {d} {kind = kind} (out_of_fuel {kind = kind'} {d = d'} e k z) st f room =
    let same = one_step m c d d' kind kind' st e in
    omega (arith, ap charge same.0, k, z, f)
over {m} spare {c} {d} {kind = kind} (out_of_frames {d = d'} e k z) st f room =
    let same = one_step m c d d' kind Entering st e in
    omega (arith, room same.0, z)

-- at one configuration there is one end
same_end : {m : Module} {frames left : ℕ} {c : Config} {o o' : Outcome} → EndsAs m frames c left o → EndsAs m frames c left o' → o ≡ o'
unfolding step
same_end (values vs e) (values us f) =
    let w : Source vs Stop ≡ Source us Stop = sym e ∙ f in
    let h : vs ≡ us = cc in ap (λ vs. Values (reverse vs)) h
same_end (values vs e) (trapped t f) = absurd (let w = sym e ∙ f in cc)
same_end {m} {c = c} (values vs e) (out_of_fuel {d = d} st k z) = absurd (cc (no_step_at m c d (Source vs Stop) (Finished vs) e refl st))
same_end {m} {c = c} (values vs e) (out_of_frames {d = d} st k z) = absurd (cc (no_step_at m c d (Source vs Stop) (Finished vs) e refl st))
same_end (trapped t e) (values us f) = absurd (let w = sym e ∙ f in cc)
same_end (trapped t e) (trapped u f) =
    let w : Trap [] t Stop ≡ Trap [] u Stop = sym e ∙ f in
    let h : t ≡ u = cc in ap Outcome.Trapped h
same_end {m} {c = c} (trapped t e) (out_of_fuel {d = d} st k z) = absurd (cc (no_step_at m c d (Trap [] t Stop) (Trapped t) e refl st))
same_end {m} {c = c} (trapped t e) (out_of_frames {d = d} st k z) = absurd (cc (no_step_at m c d (Trap [] t Stop) (Trapped t) e refl st))
same_end {m} {c = c} (out_of_fuel {d = d} st k z) (values us f) = absurd (cc (no_step_at m c d (Source us Stop) (Finished us) f refl st))
same_end {m} {c = c} (out_of_fuel {d = d} st k z) (trapped t f) = absurd (cc (no_step_at m c d (Trap [] t Stop) (Trapped t) f refl st))
same_end (out_of_fuel st k z) (out_of_fuel st' k' z') = refl
same_end (out_of_fuel st k z) (out_of_frames st' k' z') = absurd (omega (arith, z, k'))
same_end {m} {c = c} (out_of_frames {d = d} st k z) (values us f) = absurd (cc (no_step_at m c d (Source us Stop) (Finished us) f refl st))
same_end {m} {c = c} (out_of_frames {d = d} st k z) (trapped t f) = absurd (cc (no_step_at m c d (Trap [] t Stop) (Trapped t) f refl st))
same_end (out_of_frames st k z) (out_of_fuel st' k' z') = absurd (omega (arith, z', k))
same_end (out_of_frames st k z) (out_of_frames st' k' z') = refl

record Same (kinds kinds' : List Kind) (s s' : Store) (o o' : Outcome) : Type 0 where
  same_kinds : kinds ≡ kinds'
  same_store : s ≡ s'
  same_outcome : o ≡ o'

both_end : {m : Module} {frames fuel left left' : ℕ} {c d d' : Config} {kinds kinds' : List Kind} {o o' : Outcome} → Within m frames fuel c kinds d left → EndsAs m frames d left o → Within m frames fuel c kinds' d' left' → EndsAs m frames d' left' o' → Same kinds kinds' d.store d'.store o o'
both_end Within.ends e Within.ends f = record { same_kinds = refl; same_store = refl; same_outcome = same_end e f }
both_end Within.ends e (Within.after {spare = spare} st p room w) f = absurd (over spare e st p room)
both_end (Within.after {spare = spare} st p room w) e Within.ends f = absurd (over spare f st p room)
both_end {m} {frames} {fuel} {left} {left'} {c} {d} {d'} {kinds} {kinds'} {o} {o'} (Within.after {spare = a} {d = x} {kind = k} {kinds = ks} st p room w) e (Within.after {spare = a'} {d = x'} {kind = k'} {kinds = ks'} st' p' room' w') f =
    let same = one_step m c x x' k k' st st' in
    let fuels : a' ≡ a = omega (arith, ap charge same.0, p, p') in
    let w'' = subst₂ (λ (a : ℕ) (x : Config). Within m frames a x ks' d' left') fuels (sym same.1) w' in
    let h = both_end w e w'' f in
    record { same_kinds = cc (same.0, h.same_kinds); same_store = h.same_store; same_outcome = h.same_outcome }

pub one_end : OneEnd
one_end m s f args fuel frames o o' k k' s' s'' e f' =
    let h = both_end e.chain e.end f'.chain f'.end in
    (h.same_outcome, e.count ∙ ap charged h.same_kinds ∙ sym f'.count, e.kept ∙ h.same_store ∙ sym f'.kept)

pub joins : Joins
joins m frames fuel mid left c d e kinds more Within.ends w = w
joins m frames fuel mid left c d e kinds more (Within.after {spare = spare} {d = x} {kinds = rest} st p room v) w =
    Within.after st p room (joins m frames spare mid left x d e rest more v w)

pub counts_add : CountsAdd
counts_add [] more = (omega arith, omega arith)
counts_add (kind ∷ kinds) more = let h = counts_add kinds more in (omega (arith, h.0), omega (arith, h.1))
