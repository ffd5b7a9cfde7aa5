-- A call's first step, and its end where fuel or frames are wanting.
use Rattle.std.proofs.Common.{◌≡◌, ℕ, suc, ◌+◌, ◌*◌, ◌≤◌, List, [], ◌∷◌, ◌++◌, length, reverse, Some, refl, sym, ap, ◌∙◌, arith}
use Rattle.std.specs.Prelude.{slice_get, replicate}
use Rattle.std.proofs.lemmas.List.{length-reverse, reverse-reverse}
use Rattle.wsyntax.specs.Types.{FuncType}
use Rattle.wsyntax.specs.declared.types.ValType.{ValType}
use Rattle.wsyntax.specs.declared.types.ValType.TheVariants.{I32, I64, F32, F64}
use Rattle.wsyntax.specs.declared.value.Value.{Value}
use Rattle.wsyntax.specs.Instructions.{Stop}
use Rattle.wsyntax.specs.Validation.Context.{Context}
use Rattle.wsyntax.specs.Execution.Values.{types, zeros}
use Rattle.wsyntax.specs.Execution.Store.{Function, Module, Store}
use Rattle.wsyntax.specs.Execution.Step as machine
use Rattle.wsyntax.specs.Execution.Step.{Work, Source, Invoke, Label, Frame, Config, Kind, Entering, Next, Steps, on_some, on_top_of, grab, put_on, next, outermost, step}
use Rattle.wsyntax.specs.Execution.Chain.{Within, worked}
use Rattle.wsyntax.specs.Execution.Ends.{OutOfFuel, OutOfFrames, out_of_fuel, out_of_frames, Ends, start}
use Rattle.soundness.specs.State.{config_of}
use Rattle.soundness.specs.Slots.{slots}
use Rattle.refinement.specs.Machine.{Body, Program, module_of, declared_of}
use Rattle.refinement.specs.Joint.{Joint, state_of, machine_of}
use Rattle.refinement.specs.Reached.{Calling, first_machine}
use Rattle.refinement.specs.Invariant.{Reached}
use Rattle.refinement.specs.Laws.{Called, EntryRefused, Begins}
use Rattle.refinement.specs.Reduction.{SafetyLaws}
use Rattle.refinement.proofs.Kept.Premises.{Turning}
use Rattle.refinement.proofs.Kept.Stacks.{slots_append, types_length, image_at, some_same}
use Rattle.refinement.proofs.Kept.Bound.{remains_le}
use Rattle.refinement.proofs.Kept.Calling.{first_site, first_fits, callee}
use Rattle.refinement.proofs.Kept.Reaching.{world, within_chain}

grab_all : {A : Type 0} (vs : List A) → grab (length vs) vs ≡ Some (vs, [])
grab_all [] = refl
grab_all (v ∷ vs) = ap (put_on v) (grab_all vs)

-- the frame that a call enters
frame_of : Function → List Value → List Value → Work
frame_of fn args below =
    Frame below (length (fn.func_type).results) (reverse args ++ zeros fn.locals) (Label [] (length (fn.func_type).results) Stop (Source [] fn.body) Stop) Stop

-- the first step of a call with that many arguments
start_step : (m : Module) (s : Store) (f : ℕ) (args : List Value) (fn : Function) → slice_get m.functions f ≡ Some fn → length (fn.func_type).params ≡ length args → step m (start s f args) ≡ Steps Entering s [] (frame_of fn (reverse args) [])
unfolding step next outermost machine.invoke frame_of
start_step m s f args fn e same =
    let go : List Value → List Value → Next = λ args below. Steps Entering s [] (frame_of fn args below) in
    let n : length (fn.func_type).params ≡ length (reverse args) = same ∙ sym (length-reverse args) in
    let all : grab (length (fn.func_type).params) (reverse args) ≡ Some (reverse args, []) = ap (λ k. grab k (reverse args)) n ∙ grab_all (reverse args) in
    ap (outermost s []) (ap (λ o. on_some o (λ (fn : Function). on_top_of (length (fn.func_type).params) (reverse args) (λ args below. Steps Entering s [] (frame_of fn args below)))) e
    ∙ ap (λ o. on_some o (λ p. go p.0 p.1)) all)

zero_slots : (ts : List ValType) → slots (zeros ts) ≡ replicate (length ts) 0
zero_slots [] = refl
zero_slots (I32 ∷ ts) = ap (λ ns. 0 ∷ ns) (zero_slots ts)
zero_slots (I64 ∷ ts) = ap (λ ns. 0 ∷ ns) (zero_slots ts)
zero_slots (F32 ∷ ts) = ap (λ ns. 0 ∷ ns) (zero_slots ts)
zero_slots (F64 ∷ ts) = ap (λ ns. 0 ∷ ns) (zero_slots ts)

-- the joint state at a function's first token
abbrev first_joint : Calling → Body → ℕ → Joint
first_joint c b left =
    record { store = c.store; running = first_site b c.arguments; waiting = []; fuel = left }

module _ (turning : Turning) (sound : SafetyLaws) (C : Context) (p : Program) (L : ℕ) (c : Calling) (b : Body) (sig : FuncType) (called : Called C p L c b sig) where
  same_sig : (b.function).func_type ≡ sig
  same_sig =
      let k = callee (world turning sound C p L c b sig called) c.function sig (called.typed).function in
      ap (λ (b : Body). (b.function).func_type) (some_same b k.body (sym called.body ∙ k.there)) ∙ k.of_type

  many : length ((b.function).func_type).params ≡ length c.arguments
  many = ap (λ (t : FuncType). length t.params) same_sig ∙ sym (types_length c.arguments sig.params ((called.typed).arguments).typed)

  fn_at : slice_get (module_of p).functions c.function ≡ Some b.function
  fn_at = image_at (λ (b : Body). b.function) p.bodies c.function b called.body

  first_step : step (module_of p) (start c.store c.function c.arguments) ≡ Steps Entering c.store [] ((config_of (state_of (first_joint c b 0))).work)
  unfolding frame_of
  first_step =
      start_step (module_of p) c.store c.function c.arguments b.function fn_at many
      ∙ ap (λ args. Steps Entering c.store [] (Frame [] (length ((b.function).func_type).results) (args ++ zeros (b.function).locals) (Label [] (length ((b.function).func_type).results) Stop (Source [] (b.function).body) Stop) Stop)) (reverse-reverse c.arguments)

  pub refused_fuel : c.fuel ≡ 0 → (ends : Ends (module_of p) c.store c.function c.arguments c.fuel c.frames OutOfFuel 0 c.store) × (worked ends.kinds ≡ 0)
  refused_fuel e =
      let d = config_of (state_of (first_joint c b 0)) in
      (record { kinds = []; left = c.fuel; last = start c.store c.function c.arguments; chain = Within.ends; end = out_of_fuel {kind = Entering} {d = d} first_step refl e; count = refl; kept = refl }, refl)

  pub refused_frames : (left : ℕ) → c.fuel ≡ suc left → c.frames ≡ 0 → (ends : Ends (module_of p) c.store c.function c.arguments c.fuel c.frames OutOfFrames 0 c.store) × (worked ends.kinds ≡ 0)
  refused_frames left e none =
      let d = config_of (state_of (first_joint c b 0)) in
      (record { kinds = []; left = c.fuel; last = start c.store c.function c.arguments; chain = Within.ends; end = out_of_frames {d = d} first_step (omega (arith, e)) (omega (arith, none)); count = refl; kept = refl }, refl)

  same_locals : slots c.arguments ++ replicate (declared_of b) 0 ≡ slots (c.arguments ++ zeros (b.function).locals)
  same_locals =
      ap (λ ns. slots c.arguments ++ ns) (sym (zero_slots (b.function).locals)) ∙ sym (slots_append c.arguments (zeros (b.function).locals))

  pub begun : (left : ℕ) → c.fuel ≡ suc left → 1 ≤ c.frames → Reached C p L c sig (first_machine c b left) 0
  begun left e room =
      let j = first_joint c b left in
      let w = world turning sound C p L c b sig called in
      let ty : types c.arguments ≡ ((b.function).func_type).params = ((called.typed).arguments).typed ∙ ap (λ (t : FuncType). t.params) (sym same_sig) in
      let kinds : List Kind = Entering ∷ [] in
      let chain : Within (module_of p) c.frames c.fuel (start c.store c.function c.arguments) kinds (config_of (state_of j)) left = Within.after {spare = left} {d = config_of (state_of j)} first_step (omega (arith, e)) (λ q. omega (arith, room)) Within.ends in
      let short = ((called.program).each c.function b called.body).short in
      let u : c.fuel * L ≡ left * L + L = ap (λ n. n * L) e ∙ omega arith in (
        j,
        ap (λ ns. record (machine_of j) { locals = ns }) same_locals,
        record {
          typed = (sound.never_stuck C (module_of p) c.store c.function c.arguments sig called.typed kinds (config_of (state_of j)) (within_chain chain)).0;
          running = first_fits w c.function b c.arguments called.body ty;
          waiting = tt;
          kinds = kinds;
          chain = chain;
          least = omega arith;
          most = omega (arith, u, short, remains_le b 0);
        },
      )

pub entry_refused : Turning → SafetyLaws → EntryRefused
entry_refused turning sound C p L c b sig called =
    (refused_fuel turning sound C p L c b sig called, refused_frames turning sound C p L c b sig called)

pub begins : Turning → SafetyLaws → Begins
begins turning sound C p L c b sig left called e room = begun turning sound C p L c b sig called left e room
