-- A configuration goes where the effect of its instruction says.
use Rattle.std.proofs.Common.{◌≡◌, ℕ, ◌≤◌, ◌<◌, List, [], ◌∷◌, ◌++◌, Some, refl, sym, ap, ◌∙◌, subst, arith}
use Rattle.std.specs.Prelude.{slice_get, slice_set}
use Rattle.wsyntax.specs.Instructions.{Op, LocalSet, LocalTee, Code, Stop, Plain}
use Rattle.wsyntax.specs.Validation.Context.{Stack, Context}
use Rattle.wsyntax.specs.Validation.Typing.{OpTyped}
use Rattle.wsyntax.specs.declared.value.Value.{Value}
use Rattle.wsyntax.specs.Execution.Values.{type_of, IsWord}
use Rattle.wsyntax.specs.Execution.Store.{Module, Store}
use Rattle.wsyntax.specs.Execution.Step.{Work, Source, Trap, Kind, Looping, Entering, Working, Quiet, Next, Steps, on_some, leaves, act, source, next, step}
use Rattle.wsyntax.specs.Execution.Chain.{Within, charge, effort}
use Rattle.wsyntax.specs.Execution.Layers.{in_labels}
use Rattle.wsyntax.specs.Execution.ConfigTyped.{ValuesTyped, ModuleTyped, StoreTyped, IntegerOp}
use Rattle.soundness.specs.State.{Activation, config_at, config_of, work_of, operands_of, belows, frames_around, Falls}
use Rattle.soundness.specs.Slots.{slots, slot_store, bits, on_there, Effect, Puts, Fails, effect, IsStraight, Mirrors}
use Rattle.soundness.specs.Leads.{TeeTakesTwo, Leads, EffectLeads}
use Rattle.soundness.proofs.Chapter4.Stacks.{values_at, held, values_set}
use Rattle.soundness.proofs.Chapter4.Slots.{effect_is_step, slots_get, slots_set}
use Rattle.soundness.proofs.Chapter4.Straight.{straight_typed}
use Rattle.soundness.proofs.Chapter4.State.{steps_there, trap_falls}
use Rattle.wsyntax.specs.declared.types.ValType.{ValType}

effort_small : (kind : Kind) → effort kind ≤ 1
effort_small Looping = omega arith
effort_small Entering = omega arith
effort_small Working = omega arith
effort_small Quiet = omega arith

not_entering : (kind : Kind) → charge kind ≡ 0 → {n k : ℕ} → kind ≡ Entering → n < k
not_entering Looping e q = absurd cc
not_entering Entering e q = absurd (omega (arith, e))
not_entering Working e q = absurd cc
not_entering Quiet e q = absurd cc

-- a step of the instruction is a step of the whole
stepped : (m : Module) (s s' : Store) (a : Activation) (bs : List Activation) (i : Op) (rest : Code) (kind : Kind) (l : List Value) (w : Work) → a.code ≡ Plain i rest → act m s a.locals i a.held rest ≡ Steps kind s' l w → step m (config_at s (work_of a bs)) ≡ Steps kind s' [] (frames_around a.arity l (in_labels a.levels w) bs)
unfolding next source
stepped m s s' a bs i rest kind l w ec is =
    steps_there m s s' a bs (Source a.held a.code) w l kind (ap (λ code. next m s a.locals (Source a.held code)) ec ∙ is)

-- Straight instructions.

module _ (C : Context) (m : Module) (frames fuel : ℕ) (s : Store) (a : Activation) (bs : List Activation) (i : Op) (rest : Code) (p q c : Stack) (mt : ModuleTyped C m) (st : StoreTyped C s) (lt : ValuesTyped a.locals C.locals) (ec : a.code ≡ Plain i rest) (str : IsStraight i) (nf : IntegerOp i) (h : OpTyped C i p q) (e : ValuesTyped a.held (p ++ c)) where
  go : (o : Next) (eff : Effect) → act m s a.locals i a.held rest ≡ o → Mirrors s (belows a.levels) rest o eff → Leads C m frames fuel s a bs rest (q ++ c) eff
  go (Steps kind s' l (Source held code)) (Puts S L ns) is mi =
      let t = straight_typed C m s s' a.locals l a.held held i rest code p q c kind mt st lt str nf h e is in
      let moved : step m (config_at s (work_of a bs)) ≡ Steps kind s' [] (frames_around a.arity l (in_labels a.levels (Source held rest)) bs) = subst (λ code. step m (config_at s (work_of a bs)) ≡ Steps kind s' [] (frames_around a.arity l (in_labels a.levels (Source held code)) bs)) mi.4 (stepped m s s' a bs i rest kind l (Source held code) ec is) in
      record {
        store = s';
        locals = l;
        held = held;
        kinds = kind ∷ [];
        same_store = sym mi.1;
        same_locals = sym mi.2;
        same_slots = sym mi.3;
        chain = Within.after {d = config_of (record { store = s'; running = record a { locals = l; held = held; code = rest }; waiting = bs })} moved (omega (arith, mi.0)) (λ q. not_entering kind mi.0 q) Within.ends;
        few = omega (arith, effort_small kind);
        store_typed = t.0;
        locals_typed = t.1;
        held_typed = t.2;
      }
  go (Steps kind s' l (Trap held t code)) (Fails u) is mi =
      let f : Falls m frames fuel s (frames_around a.arity l (in_labels a.levels (Trap held t code)) bs) t = trap_falls m frames fuel s (record a { locals = l }) bs held t code in
      let moved : step m (config_at s (work_of a bs)) ≡ Steps kind s [] (frames_around a.arity l (in_labels a.levels (Trap held t code)) bs) = subst (λ s'. step m (config_at s (work_of a bs)) ≡ Steps kind s' [] (frames_around a.arity l (in_labels a.levels (Trap held t code)) bs)) mi.2 (stepped m s s' a bs i rest kind l (Trap held t code) ec is) in
      record {
        kinds = kind ∷ f.kinds;
        chain = Within.after {d = config_at s (frames_around a.arity l (in_labels a.levels (Trap held t code)) bs)} moved (omega (arith, mi.0)) (λ q. not_entering kind mi.0 q) (subst (λ t'. Within m frames fuel (config_at s (frames_around a.arity l (in_labels a.levels (Trap held t code)) bs)) f.kinds (config_at s (Trap [] t' Stop)) fuel) mi.1 f.chain);
        few = omega (arith, effort_small kind, f.idle);
      }
  go o eff is mi = absurd mi

  straight_leads : Leads C m frames fuel s a bs rest (q ++ c) (effect i (slot_store s) (slots a.locals) (slots (operands_of a)))
  straight_leads =
      go _ _ refl (effect_is_step C m s a.locals a.held (belows a.levels) i rest p q c st lt str nf h e)

-- local.tee.

set_step : (m : Module) (s : Store) (l vs : List Value) (x : ℕ) (v was : Value) (rest : Code) → slice_get l x ≡ Some was → act m s l (LocalSet x) (v ∷ v ∷ vs) rest ≡ Steps Working s (slice_set l x v) (Source (v ∷ vs) rest)
unfolding act
set_step m s l vs x v was rest e = ap (λ o. on_some o (λ (was : Value). leaves Working s (slice_set l x v) (v ∷ vs) rest)) e

tee_step : (m : Module) (s : Store) (l held vs : List Value) (x : ℕ) (v : Value) (rest : Code) → held ≡ v ∷ vs → act m s l (LocalTee x) held rest ≡ Steps Quiet s l (Source (v ∷ v ∷ vs) (Plain (LocalSet x) rest))
unfolding act
tee_step m s l held vs x v rest e = ap (λ held. act m s l (LocalTee x) held rest) e

pub tee_takes_two : TeeTakesTwo
tee_takes_two m frames fuel s a bs x v was vs rest ec eh el =
    let mid : Activation = record a { held = v ∷ v ∷ vs; code = Plain (LocalSet x) rest } in
    Within.after {spare = fuel} {d = config_of (record { store = s; running = mid; waiting = bs })}
    (stepped m s s a bs (LocalTee x) rest Quiet a.locals (Source (v ∷ v ∷ vs) (Plain (LocalSet x) rest)) ec (tee_step m s a.locals a.held vs x v rest eh))
    (omega arith) (λ q. absurd cc)
    (Within.after {spare = fuel} {d = config_of (record { store = s; running = record a { locals = slice_set a.locals x v; held = v ∷ vs; code = rest }; waiting = bs })}
    (stepped m s s mid bs (LocalSet x) rest Working (slice_set a.locals x v) (Source (v ∷ vs) rest) refl (set_step m s a.locals vs x v was rest el))
    (omega arith) (λ q. absurd cc) Within.ends)

tee_effect : (s : Store) (l held lower vs : List Value) (x : ℕ) (v was : Value) → held ≡ v ∷ vs → slice_get l x ≡ Some was → effect (LocalTee x) (slot_store s) (slots l) (slots (held ++ lower)) ≡ Puts (slot_store s) (slice_set (slots l) x (bits v)) (bits v ∷ slots (vs ++ lower))
tee_effect s l held lower vs x v was eh el =
    ap (λ held. effect (LocalTee x) (slot_store s) (slots l) (slots (held ++ lower))) eh
    ∙ ap (λ o. on_there o (λ (was : ℕ). Puts (slot_store s) (slice_set (slots l) x (bits v)) (bits v ∷ slots (vs ++ lower)))) (slots_get l x was el)

-- the topmost value
record Top (vs : List Value) (t : ValType) (c : Stack) : Type 0 where
  value : Value
  below : List Value
  is : vs ≡ value ∷ below
  of_type : type_of value ≡ t
  word : IsWord value

top : (vs : List Value) (t : ValType) (c : Stack) → ValuesTyped vs (t ∷ c) → Top vs t c
top [] t c h = let e = h.typed in absurd cc
top (v ∷ vs) t c h = let e = h.typed in record { value = v; below = vs; is = refl; of_type = cc; word = h.words.0 }

tee_leads : (C : Context) (m : Module) (frames fuel : ℕ) (s : Store) (a : Activation) (bs : List Activation) (x : ℕ) (rest : Code) (p q c : Stack) → StoreTyped C s → ValuesTyped a.locals C.locals → a.code ≡ Plain (LocalTee x) rest → OpTyped C (LocalTee x) p q → ValuesTyped a.held (p ++ c) → Leads C m frames fuel s a bs rest (q ++ c) (effect (LocalTee x) (slot_store s) (slots a.locals) (slots (operands_of a)))
tee_leads C m frames fuel s a bs x rest p q c st lt ec h e =
    let v = top a.held h.0 c (values_at e (ap (λ z. z ++ c) h.2)) in
    let l = held a.locals x lt h.1 in
    subst (Leads C m frames fuel s a bs rest (q ++ c)) (sym (tee_effect s a.locals a.held (belows a.levels) v.below x v.value l.value v.is l.is))
    (record {
      store = s;
      locals = slice_set a.locals x v.value;
      held = v.value ∷ v.below;
      kinds = Quiet ∷ Working ∷ [];
      same_store = refl;
      same_locals = sym (slots_set a.locals x v.value);
      same_slots = refl;
      chain = tee_takes_two m frames fuel s a bs x v.value l.value v.below rest ec v.is l.is;
      few = omega arith;
      store_typed = st;
      locals_typed = values_set a.locals x v.value l.value l.is (v.of_type ∙ sym l.of_type) v.word lt;
      held_typed = values_at (subst (λ vs. ValuesTyped vs (p ++ c)) v.is e) (ap (λ z. z ++ c) (h.2 ∙ sym h.3));
    })

pub effect_leads : EffectLeads
effect_leads C m frames fuel s a bs (LocalTee x) rest p q c mt st lt ec str nf h e = tee_leads C m frames fuel s a bs x rest p q c st lt ec h e
effect_leads C m frames fuel s a bs i rest p q c mt st lt ec str nf h e = straight_leads C m frames fuel s a bs i rest p q c mt st lt ec str nf h e
