-- Turns that call: the machine enters the function that the configuration invokes.
use Rattle.std.proofs.Common.{◌≡◌, ℕ, zero, suc, ◌+◌, ◌≤◌, ◌<◌, true, false, cond, List, [], ◌∷◌, ◌++◌, length, map, take, drop, reverse, Some, refl, sym, ap, ap₂, ◌∙◌, arith}
use Rattle.std.specs.Prelude.{slice_get, nat_le, replicate}
use Rattle.std.proofs.lemmas.Bool.{lt-leb, le-leb}
use Rattle.std.proofs.lemmas.List.{map-append, length-map, reverse-append}
use Rattle.wsyntax.specs.declared.types.ValType.{ValType}
use Rattle.wsyntax.specs.declared.types.ValType.TheVariants.{I32, I64, F32, F64}
use Rattle.wsyntax.specs.Instructions.{Call, Code, Stop, Plain, Do}
use Rattle.wsyntax.specs.Execution.Values.{zeros}
use Rattle.wsyntax.specs.declared.value.Value.{Value}
use Rattle.wsyntax.specs.Execution.Store.{Function, Module, Store}
use Rattle.wsyntax.specs.Execution.Step.{Work, Source, Invoke, Label, Frame, Entering, Working, Steps, on_some, on_top_of, invoke, act, source, next, step}
use Rattle.wsyntax.specs.Execution.Chain.{Within, frames_in}
use Rattle.wsyntax.specs.Execution.Ends.{OutOfFuel, OutOfFrames, EndsAs}
use Rattle.wsyntax.specs.Execution.Layers.{LabelLayer, label_around, in_labels}
use Rattle.soundness.specs.State.{Activation, config_at, config_of, belows, frames_around}
use Rattle.soundness.specs.Slots.{bits, slots, slot_store}
use Rattle.refinement.specs.Machine.{Body, Program, module_of, Did, NoFuel, NoFrames, Going, Over, paid, on_found, first_locals, entered as in_callee, enters, takes}
use Rattle.refinement.specs.Joint.{Joint, activation, caller, state_of, machine_of}
use Rattle.refinement.specs.Reduction.{ReductionLaws}
use Rattle.refinement.specs.Turns.{Moves, entered, CallTurn, Finishes, NoFuelAtCall, NoFramesAtCall}
use Rattle.refinement.proofs.OneTurn.Stacks.{top_is, take_slots, drop_slots}
use Rattle.refinement.proofs.OneTurn.Labels.{others}
use Rattle.refinement.proofs.OneTurn.Tee.{with_held}

-- Frames.

labels_frames : (xs : List LabelLayer) (w : Work) → frames_in (in_labels xs w) ≡ frames_in w
labels_frames [] w = refl
labels_frames (x ∷ xs) w = labels_frames xs (label_around x w)

frames_are : (bs : List Activation) (n : ℕ) (own : List Value) (w : Work) → frames_in (frames_around n own w bs) ≡ suc (length bs + frames_in w)
frames_are [] n own w = omega arith
frames_are (a ∷ bs) n own w =
    frames_are bs a.arity a.locals (in_labels a.levels (Frame a.held n own w a.code)) ∙ omega (arith, labels_frames a.levels (Frame a.held n own w a.code))

-- what is left to do where this function is invoked
abbrev pub invoking : Joint → ℕ → Code → Work
invoking j f rest = frames_around (activation j.running).arity (j.running).locals (in_labels (j.running).levels (Invoke (j.running).held f rest)) (others j)

frames_then : (j : Joint) (f : ℕ) (rest : Code) → frames_in (invoking j f rest) ≡ suc (length j.waiting)
frames_then j f rest =
    omega (arith, frames_are (others j) (activation j.running).arity (j.running).locals (in_labels (j.running).levels (Invoke (j.running).held f rest)), labels_frames (j.running).levels (Invoke (j.running).held f rest), length-map j.waiting activation)

-- The configuration enters.

pub body_at : (bs : List Body) (f : ℕ) (b : Body) → slice_get bs f ≡ Some b → slice_get (map (λ (b : Body). b.function) bs) f ≡ Some b.function
body_at [] f b e = absurd cc
body_at (c ∷ bs) zero b e =
    let h : c ≡ b = cc in
    ap (λ (b : Body). Some b.function) h
body_at (c ∷ bs) (suc f) b e = body_at bs f b e

-- the frame that a call enters, around its body
frame_of : Function → List Value → Code → Work
frame_of fn vs rest =
    Frame (drop (length (fn.func_type).params) vs) (length (fn.func_type).results) (reverse (take (length (fn.func_type).params) vs) ++ zeros fn.locals) (Label [] (length (fn.func_type).results) Stop (Source [] fn.body) Stop) rest

invoke_is : (m : Module) (s : Store) (l vs : List Value) (f : ℕ) (fn : Function) (rest : Code) → slice_get m.functions f ≡ Some fn → length (fn.func_type).params ≤ length vs → next m s l (Invoke vs f rest) ≡ Steps Entering s l (frame_of fn vs rest)
unfolding next invoke frame_of
invoke_is m s l vs f fn rest e le =
    ap (λ o. on_some o (λ (fn : Function). on_top_of (length (fn.func_type).params) vs (λ args vs.
    Steps Entering s l (Frame vs (length (fn.func_type).results) (reverse args ++ zeros fn.locals) (Label [] (length (fn.func_type).results) Stop (Source [] fn.body) Stop) rest)))) e
    ∙ top_is (length (fn.func_type).params) vs (λ args vs. Steps Entering s l (Frame vs (length (fn.func_type).results) (reverse args ++ zeros fn.locals) (Label [] (length (fn.func_type).results) Stop (Source [] fn.body) Stop) rest)) le

-- The machine enters.

map-reverse : {A B : Type 0} (f : A → B) (xs : List A) → map f (reverse xs) ≡ reverse (map f xs)
map-reverse f [] = refl
map-reverse f (x ∷ xs) =
    ap (map f) (reverse-append (x ∷ []) xs) ∙ map-append f (reverse xs) (x ∷ []) ∙ ap (λ z. z ++ f x ∷ []) (map-reverse f xs) ∙ sym (reverse-append (f x ∷ []) (map f xs))

zero_slots : (ts : List ValType) → slots (zeros ts) ≡ replicate (length ts) 0
zero_slots [] = refl
zero_slots (I32 ∷ ts) = ap (λ ns. 0 ∷ ns) (zero_slots ts)
zero_slots (I64 ∷ ts) = ap (λ ns. 0 ∷ ns) (zero_slots ts)
zero_slots (F32 ∷ ts) = ap (λ ns. 0 ∷ ns) (zero_slots ts)
zero_slots (F64 ∷ ts) = ap (λ ns. 0 ∷ ns) (zero_slots ts)

-- the arguments and the zeros are the first locals
first_slots : (b : Body) (vs lower : List Value) → length ((b.function).func_type).params ≤ length vs → first_locals b (slots (vs ++ lower)) ≡ slots (reverse (take (length ((b.function).func_type).params) vs) ++ zeros (b.function).locals)
first_slots b vs lower le =
    let n = length ((b.function).func_type).params in
    ap₂ (λ a c. a ++ c) (ap reverse (take_slots n vs lower le) ∙ sym (map-reverse bits (take n vs))) (sym (zero_slots (b.function).locals))
    ∙ sym (map-append bits (reverse (take n vs)) (zeros (b.function).locals))

-- a call of this body from the operands of the joint state
abbrev pub entering : ℕ → Joint → Body → Did
entering frames j b = enters frames (machine_of j) (slots ((j.running).held ++ belows (j.running).levels)) b

enters_is : (frames left : ℕ) (j : Joint) (b : Body) (rest : Code) → length ((b.function).func_type).params ≤ length (j.running).held → j.fuel ≡ suc left → suc (length j.waiting) < frames → entering frames j b ≡ Going (machine_of (entered j b left rest))
enters_is frames left j b rest le ef room =
    let n = length ((b.function).func_type).params in
    let vs = (j.running).held in
    let lower = belows (j.running).levels in
    let ns = slots (vs ++ lower) in
    let m = machine_of j in
    let open' : nat_le frames (suc (length m.callers)) ≡ false = lt-leb frames (suc (length m.callers)) (omega (arith, length-map j.waiting caller, room)) in
    let gone : List ℕ → List ℕ → Did = λ ls ns. Going (record { body = b; pc = 0; operands = []; locals = ls; callers = record { body = m.body; pc = m.pc + 1; operands = ns; locals = m.locals } ∷ m.callers; store = m.store; fuel = left }) in
    ap (λ k. paid m k (λ left. cond (nat_le frames (suc (length m.callers))) (Over NoFrames m.store m.fuel) (Going (in_callee m ns b left)))) ef
    ∙ ap (λ x. cond x (Over NoFrames m.store m.fuel) (Going (in_callee m ns b left))) open'
    ∙ ap₂ gone (first_slots b vs lower le) (drop_slots n vs lower le)

no_fuel_is : (frames : ℕ) (j : Joint) (b : Body) → j.fuel ≡ 0 → entering frames j b ≡ Over NoFuel (slot_store j.store) j.fuel
no_fuel_is frames j b ef =
    let m = machine_of j in
    ap (λ k. paid m k (λ left. cond (nat_le frames (suc (length m.callers))) (Over NoFrames m.store m.fuel) (Going (in_callee m m.operands b left)))) ef
    ∙ ap (λ n. Over NoFuel m.store n) (sym ef)

no_frames_is : (frames left : ℕ) (j : Joint) (b : Body) → j.fuel ≡ suc left → frames ≤ suc (length j.waiting) → entering frames j b ≡ Over NoFrames (slot_store j.store) j.fuel
no_frames_is frames left j b ef full =
    let m = machine_of j in
    let shut : nat_le frames (suc (length m.callers)) ≡ true = le-leb frames (suc (length m.callers)) (omega (arith, length-map j.waiting caller, full)) in
    ap (λ k. paid m k (λ left. cond (nat_le frames (suc (length m.callers))) (Over NoFrames m.store m.fuel) (Going (in_callee m m.operands b left)))) ef
    ∙ ap (λ x. cond x (Over NoFrames m.store m.fuel) (Going (in_callee m m.operands b left))) shut

module _ (laws : ReductionLaws) where
  enter_step : (p : Program) (j : Joint) (f : ℕ) (b : Body) (left : ℕ) (rest : Code) → slice_get p.bodies f ≡ Some b → length ((b.function).func_type).params ≤ length (j.running).held → step (module_of p) (config_at j.store (invoking j f rest)) ≡ Steps Entering j.store [] ((config_of (state_of (entered j b left rest))).work)
  unfolding frame_of
  enter_step p j f b left rest e le =
      laws.steps_there (module_of p) j.store j.store (activation j.running) (others j) (Invoke (j.running).held f rest) (frame_of b.function (j.running).held rest) (j.running).locals Entering
      (invoke_is (module_of p) j.store (j.running).locals (j.running).held f b.function rest (body_at p.bodies f b e) le)

  -- After a step to the invoke; before it there are these operands.

  module _ (p : Program) (frames f : ℕ) (j : Joint) (b : Body) (rest : Code) (vs : List Value) (d : Did) (ed : d ≡ entering frames j b) (is : step (module_of p) (config_of (state_of (with_held j vs))) ≡ Steps Working j.store [] (invoking j f rest)) (eb : slice_get p.bodies f ≡ Some b) (le : length ((b.function).func_type).params ≤ length (j.running).held) where
    pub moves_in : (left : ℕ) → j.fuel ≡ suc left → suc (length j.waiting) < frames → Moves p frames (with_held j vs) (entered j b left rest) d
    moves_in left ef room = record {
      kinds = Working ∷ Entering ∷ [];
      machine = ed ∙ enters_is frames left j b rest le ef room;
      chain = Within.after {spare = j.fuel} {d = config_at j.store (invoking j f rest)} is (omega arith) (λ q. absurd cc)
          (Within.after {spare = left} {d = config_of (state_of (entered j b left rest))} (enter_step p j f b left rest eb le) (omega (arith, ef)) (λ q. omega (arith, frames_then j f rest, room)) Within.ends);
      few = omega arith;
    }

    pub without_fuel : j.fuel ≡ 0 → Finishes p frames (with_held j vs) NoFuel OutOfFuel d
    without_fuel ef = record {
      kinds = Working ∷ [];
      last = config_at j.store (invoking j f rest);
      machine = ed ∙ no_fuel_is frames j b ef;
      chain = Within.after {spare = j.fuel} {d = config_at j.store (invoking j f rest)} is (omega arith) (λ q. absurd cc) Within.ends;
      end = EndsAs.out_of_fuel {d = config_of (state_of (entered j b 0 rest))} (enter_step p j f b 0 rest eb le) refl ef;
      kept = refl;
      few = omega arith;
    }

    pub without_frames : (left : ℕ) → j.fuel ≡ suc left → frames ≤ suc (length j.waiting) → Finishes p frames (with_held j vs) NoFrames OutOfFrames d
    without_frames left ef full = record {
      kinds = Working ∷ [];
      last = config_at j.store (invoking j f rest);
      machine = ed ∙ no_frames_is frames left j b ef full;
      chain = Within.after {spare = j.fuel} {d = config_at j.store (invoking j f rest)} is (omega arith) (λ q. absurd cc) Within.ends;
      end = EndsAs.out_of_frames {d = config_of (state_of (entered j b left rest))} (enter_step p j f b left rest eb le) (omega (arith, ef)) (omega (arith, frames_then j f rest, full));
      kept = refl;
      few = omega arith;
    }

  -- Call.

  call_step : (p : Program) (j : Joint) (f : ℕ) (rest : Code) → (j.running).code ≡ Plain (Call f) rest → step (module_of p) (config_of (state_of j)) ≡ Steps Working j.store [] (invoking j f rest)
  unfolding next source act
  call_step p j f rest ec =
      laws.steps_there (module_of p) j.store j.store (activation j.running) (others j) (Source (j.running).held (j.running).code) (Invoke (j.running).held f rest) (j.running).locals Working
      (ap (λ code. next (module_of p) j.store (j.running).locals (Source (j.running).held code)) ec)

  call_machine : (p : Program) (frames f : ℕ) (j : Joint) (b : Body) → slice_get (((j.running).body).filled).tokens (j.running).pc ≡ Some (Do (Call f)) → slice_get p.bodies f ≡ Some b → takes p frames (machine_of j) (slice_get (((j.running).body).filled).tokens (j.running).pc) ≡ entering frames j b
  call_machine p frames f j b et eb =
      ap (takes p frames (machine_of j)) et ∙ ap (λ o. on_found o (enters frames (machine_of j) (machine_of j).operands)) eb

  pub call_turn : CallTurn
  call_turn p frames left f j b rest ec et eb le ef room =
      moves_in p frames f j b rest (j.running).held _ (call_machine p frames f j b et eb) (call_step p j f rest ec) eb le left ef room

  pub no_fuel_at_call : NoFuelAtCall
  no_fuel_at_call p frames f j b rest ef ec et eb le =
      without_fuel p frames f j b rest (j.running).held _ (call_machine p frames f j b et eb) (call_step p j f rest ec) eb le ef

  pub no_frames_at_call : NoFramesAtCall
  no_frames_at_call p frames left f j b rest ef full ec et eb le =
      without_frames p frames f j b rest (j.running).held _ (call_machine p frames f j b et eb) (call_step p j f rest ec) eb le left ef full
