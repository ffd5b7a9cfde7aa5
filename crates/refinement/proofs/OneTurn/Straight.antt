-- At each instruction without a body that keeps the labels the machine does what the configuration does.
use Rattle.std.proofs.Common.{◌≡◌, ℕ, ◌+◌, ◌≤◌, ◌<◌, List, [], ◌∷◌, ◌++◌, map, refl, sym, ap, ◌∙◌, subst, arith}
use Rattle.wsyntax.specs.Instructions.{Op, Unreachable, Nop, Return, Br, BrIf, Call, CallIndirect, BrTable, Drop, Select, LocalGet, LocalSet, LocalTee, GlobalGet, GlobalSet, MemoryLoad, MemoryStore, MemorySize, MemoryGrow, Const, Numeric, Code, Stop, Plain}
use Rattle.wsyntax.specs.Validation.Context.{Stack, Context}
use Rattle.wsyntax.specs.Validation.Typing.{OpTyped}
use Rattle.wsyntax.specs.declared.value.Value.{Value}
use Rattle.wsyntax.specs.declared.value.Trap.{Trap as TrapKind}
use Rattle.wsyntax.specs.declared.value.Trap.TheVariants.{Unreachable as ByUnreachable}
use Rattle.wsyntax.specs.Execution.Store.{Module, Store}
use Rattle.wsyntax.specs.Execution.Step.{Work, Source, Trap, Kind, Looping, Entering, Working, Quiet, Next, Steps, act, source, next, step}
use Rattle.wsyntax.specs.Execution.Chain.{Within, charge, effort}
use Rattle.wsyntax.specs.Execution.Ends.{EndsAs}
use Rattle.wsyntax.specs.Execution.Layers.{in_labels}
use Rattle.wsyntax.specs.Execution.ConfigTyped.{ValuesTyped, ModuleTyped, StoreTyped, IntegerOp}
use Rattle.soundness.specs.State.{Activation, config_at, config_of, work_of, operands_of, belows, frames_around, Falls}
use Rattle.soundness.specs.Slots.{slots, slot_store, Effect, Puts, Fails, effect, IsStraight, Mirrors}
use Rattle.refinement.specs.Machine.{Program, module_of, Machine, Result, Gave, TrappedBy, NoFuel, NoFrames, Did, Over, does, takes, takes_effect}
use Rattle.refinement.specs.Joint.{Joint, activation, state_of, machine_of}
use Rattle.refinement.specs.Reduction.{ReductionLaws}
use Rattle.refinement.specs.Turns.{after, Turned, StraightTurn, FinishesInTrap, TrapEnds, UnreachableEnds}

does_straight : (p : Program) (frames : ℕ) (m : Machine) (i : Op) → IsStraight i → does p frames m i ≡ takes_effect m (effect i m.store m.locals m.operands)
does_straight p frames m Unreachable h = refl
does_straight p frames m Nop h = refl
does_straight p frames m Return h = absurd h
does_straight p frames m (Br x) h = absurd h
does_straight p frames m (BrIf x) h = absurd h
does_straight p frames m (BrTable xs x) h = absurd h
does_straight p frames m (Call f) h = absurd h
does_straight p frames m (CallIndirect y) h = absurd h
does_straight p frames m (LocalTee x) h = absurd h
does_straight p frames m Drop h = refl
does_straight p frames m Select h = refl
does_straight p frames m (LocalGet x) h = refl
does_straight p frames m (LocalSet x) h = refl
does_straight p frames m (GlobalGet x) h = refl
does_straight p frames m (GlobalSet x) h = refl
does_straight p frames m (MemoryLoad a) h = refl
does_straight p frames m (MemoryStore a) h = refl
does_straight p frames m MemorySize h = refl
does_straight p frames m MemoryGrow h = refl
does_straight p frames m (Const t n) h = refl
does_straight p frames m (Numeric op) h = refl

effort_small : (kind : Kind) → effort kind ≤ 1
effort_small Looping = omega arith
effort_small Entering = omega arith
effort_small Working = omega arith
effort_small Quiet = omega arith

not_entering : (kind : Kind) → charge kind ≡ 0 → {n k : ℕ} → kind ≡ Entering → n < k
not_entering Looping e q = absurd cc
not_entering Entering e q = absurd (omega (arith, e))
not_entering Working e q = absurd cc
not_entering Quiet e q = absurd cc

module _ (laws : ReductionLaws) where
  module _ (p : Program) (frames : ℕ) (C : Context) (j : Joint) (i : Op) (rest : Code) (a z c : Stack) (mt : ModuleTyped C (module_of p)) (st : StoreTyped C j.store) (lt : ValuesTyped (j.running).locals C.locals) (ec : (j.running).code ≡ Plain i rest) (str : IsStraight i) (nf : IntegerOp i) (h : OpTyped C i a z) (e : ValuesTyped (j.running).held (a ++ c)) where
    abbrev mod' : Module
    mod' = module_of p

    abbrev here : Activation
    here = activation j.running

    abbrev others' : List Activation
    others' = map activation j.waiting

    -- the step inside is the step of the whole
    stepped : (kind : Kind) (s : Store) (l : List Value) (w : Work) → act mod' j.store (j.running).locals i (j.running).held rest ≡ Steps kind s l w → step mod' (config_of (state_of j)) ≡ Steps kind s [] (frames_around here.arity l (in_labels here.levels w) others')
    unfolding next source
    stepped kind s l w is =
        laws.steps_there mod' j.store s here others' (Source (j.running).held (j.running).code) w l kind
        (ap (λ code. next mod' j.store (j.running).locals (Source (j.running).held code)) ec ∙ is)

    go : (o : Next) (eff : Effect) → act mod' j.store (j.running).locals i (j.running).held rest ≡ o → Mirrors j.store (belows (j.running).levels) rest o eff → Turned p frames C (z ++ c) rest j (takes_effect (machine_of j) eff)
    go (Steps kind s l (Source held code)) (Puts S L ns) is mi =
        let t = laws.straight_typed C mod' j.store s (j.running).locals l (j.running).held held i rest code a z c kind mt st lt str nf h e is in
        let moved : step mod' (config_of (state_of j)) ≡ Steps kind s [] (work_of (activation (after j s l held rest).running) others') = subst (λ code. step mod' (config_of (state_of j)) ≡ Steps kind s [] (frames_around here.arity l (in_labels here.levels (Source held code)) others')) mi.4 (stepped kind s l (Source held code) is) in (
          s,
          l,
          held,
          kind ∷ [],
          λ k. record (machine_of j) { pc = (j.running).pc + 1; operands = sym mi.3 k; locals = sym mi.2 k; store = sym mi.1 k },
          Within.after {d = config_of (state_of (after j s l held rest))} moved (omega (arith, mi.0)) (λ q. not_entering kind mi.0 q) Within.ends,
          omega (arith, effort_small kind),
          t.0,
          t.1,
          t.2,
        )
    go (Steps kind s l (Trap held t code)) (Fails u) is mi =
        let f : Falls mod' frames j.fuel j.store (frames_around here.arity l (in_labels here.levels (Trap held t code)) others') t = laws.trap_falls mod' frames j.fuel j.store (record here { locals = l }) others' held t code in
        let moved : step mod' (config_of (state_of j)) ≡ Steps kind j.store [] (frames_around here.arity l (in_labels here.levels (Trap held t code)) others') = subst (λ s. step mod' (config_of (state_of j)) ≡ Steps kind s [] (frames_around here.arity l (in_labels here.levels (Trap held t code)) others')) mi.2 (stepped kind s l (Trap held t code) is) in (
          kind ∷ f.kinds,
          refl,
          refl,
          Within.after {d = config_at j.store (frames_around here.arity l (in_labels here.levels (Trap held t code)) others')} moved (omega (arith, mi.0)) (λ q. not_entering kind mi.0 q) (subst (λ t'. Within mod' frames j.fuel (config_at j.store (frames_around here.arity l (in_labels here.levels (Trap held t code)) others')) f.kinds (config_at j.store (Trap [] t' Stop)) j.fuel) mi.1 f.chain),
          omega (arith, effort_small kind, f.idle),
        )
    go o eff is mi = absurd mi

    pub turned : Turned p frames C (z ++ c) rest j (takes_effect (machine_of j) (effect i (slot_store j.store) (slots (j.running).locals) (slots (operands_of here))))
    turned =
        go _ _ refl (laws.effect_is_step C mod' j.store (j.running).locals (j.running).held (belows (j.running).levels) i rest a z c st lt str nf h e)

  pub straight_turn : StraightTurn
  straight_turn p frames C j i rest a z c mt st lt ec et str nf h e =
      subst (λ o. Turned p frames C (z ++ c) rest j (takes p frames (machine_of j) o)) (sym et)
      (subst (Turned p frames C (z ++ c) rest j) (sym (does_straight p frames (machine_of j) i str)) (turned p frames C j i rest a z c mt st lt ec str nf h e))

  -- Ends in a trap.

  -- what falls, falls to the end of the call
  pub falling : (p : Program) (frames : ℕ) (j : Joint) (kind : Kind) (vs : List Value) (trap : TrapKind) (rest : Code) (d : Did) → d ≡ Over (TrappedBy trap) (slot_store j.store) j.fuel → charge kind ≡ 0 → step (module_of p) (config_of (state_of j)) ≡ Steps kind j.store [] (frames_around (activation j.running).arity (j.running).locals (in_labels (j.running).levels (Trap vs trap rest)) (map activation j.waiting)) → FinishesInTrap p frames j trap d
  falling p frames j kind vs trap rest d ed ek is =
      let f = laws.trap_falls (module_of p) frames j.fuel j.store (activation j.running) (map activation j.waiting) vs trap rest in
      record {
        kinds = kind ∷ f.kinds;
        last = config_at j.store (Trap [] trap Stop);
        machine = ed;
        chain = Within.after {d = config_at j.store (frames_around (activation j.running).arity (j.running).locals (in_labels (j.running).levels (Trap vs trap rest)) (map activation j.waiting))} is (omega (arith, ek)) (λ q. not_entering kind ek q) f.chain;
        end = EndsAs.trapped trap refl;
        kept = refl;
        few = omega (arith, effort_small kind, f.idle);
      }

  pub unreachable_ends : UnreachableEnds
  unfolding next source act
  unreachable_ends p frames j rest ec et =
      falling p frames j Quiet (j.running).held ByUnreachable rest _ (ap (takes p frames (machine_of j)) et) refl
      (laws.steps_there (module_of p) j.store j.store (activation j.running) (map activation j.waiting) (Source (j.running).held (j.running).code) (Trap (j.running).held ByUnreachable rest) (j.running).locals Quiet
      (ap (λ code. next (module_of p) j.store (j.running).locals (Source (j.running).held code)) ec))

  pub trap_ends : TrapEnds
  trap_ends p frames C z rest j result d s left ed h = go result (subst (Turned p frames C z rest j) ed h) refl
    where
      go : (r : Result) → Turned p frames C z rest j (Over r s left) → r ≡ result → (trap : TrapKind) × (result ≡ TrappedBy trap) × FinishesInTrap p frames j trap d
      go (TrappedBy t) h e = (
        t,
        sym e,
        record {
          kinds = h.0;
          last = config_at j.store (Trap [] t Stop);
          machine = ed ∙ λ k. Over (sym e k) (h.1 k) (h.2 k);
          chain = h.3;
          end = EndsAs.trapped t refl;
          kept = refl;
          few = h.4;
        },
      )
      go (Gave ns) h e = absurd h
      go NoFuel h e = absurd h
      go NoFrames h e = absurd h
