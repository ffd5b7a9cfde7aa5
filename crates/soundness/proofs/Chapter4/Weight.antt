-- Steps that are not charged make the work lighter (`lighter`), and so a typed call ends within any limits (`end_exists`).
-- The first goes by the cases of a step; the second by induction over the fuel, and for each amount of fuel over the weight.
-- The laws of these names in src/execution.rt cite them, and Joined/Calls.antt cites `end_exists`.
use Rattle.std.proofs.Common.{◌≡◌, ℕ, zero, suc, ◌+◌, ◌<◌, ◌≤◌, ⊎_elim, cond, List, [], ◌∷◌, length, Option, Some, None, Ok, Err, refl, subst, arith, reverse, ◌++◌}
use Rattle.std.specs.Prelude.{slice_get, nat_eq}
use Rattle.std.proofs.lemmas.Bool.{cases_lt}
use Rattle.wsyntax.specs.declared.types.ValType.{ValType}
use Rattle.wsyntax.specs.declared.types.ValType.TheVariants.{I32}
use Rattle.wsyntax.specs.Types.{FuncType, same_func_type}
use Rattle.wsyntax.specs.Instructions.{Op, Unreachable, Nop, Return, Drop, Select, MemorySize, MemoryGrow, Br, BrIf, Call, CallIndirect, LocalGet, LocalSet, LocalTee, GlobalGet, GlobalSet, BrTable, Const, Numeric, MemoryLoad, MemoryStore, Code, Stop, Plain, Block, Loop, If, IfElse, follow}
use Rattle.wsyntax.specs.declared.value.Value.{Value}
use Rattle.wsyntax.specs.declared.value.Trap.{Trap as TrapKind}
use Rattle.wsyntax.specs.declared.value.Trap.TheVariants.{UndefinedElement, OutOfBounds}
use Rattle.wsyntax.specs.Execution.Values.{value_in, zeros}
use Rattle.wsyntax.specs.Execution.Store.{Module, Memory, Entry, Unset, SetTo, Store, read, write, loaded, grown}
use Rattle.wsyntax.specs.Execution.Numerics.{Computed, apply}
use Rattle.wsyntax.specs.Execution.Step as machine
use Rattle.wsyntax.specs.Execution.Step.{Work, Source, Invoke, Trap, Label, Frame, Config, Kind, Looping, Entering, Working, Quiet, Next, Steps, Breaks, Returns, Finished, Trapped, Traps, Stuck, on_some, on_top, on_number, on_top_of, leaves, opens, or_trap, computed, after_grow, enter_entry, act, trap_in, in_label, in_frame, next, outermost, step}
use Rattle.wsyntax.specs.Execution.Chain.{Step, Within, charge, charged, frames_in}
use Rattle.wsyntax.specs.Execution.Ends.{Outcome, EndsAs, values, trapped, out_of_fuel, out_of_frames, start}
use Rattle.wsyntax.specs.Validation.Context.{Stack, leave, Context, block_sig}
use Rattle.wsyntax.specs.Execution.ConfigTyped.{ModuleTyped, ConfigTyped}
use Rattle.wsyntax.specs.Execution.Weight.{op_weight, size, trap_weight, weight, Lighter, EndExists}
use Rattle.soundness.proofs.Chapter4.Ops.{cond_ok}
use Rattle.soundness.proofs.Chapter4.Chains.{preservation, one_of_three, start_ok}

-- what comes next of work of this weight
abbrev Falls : ℕ → Next → Type 0
Falls n (Steps kind s l w) = charge kind ≡ 0 → weight w < n
Falls n (Traps trap) = 0 < n
Falls n _ = Unit {0}

some_any : {A : Type 0} (n : ℕ) (o : Option A) (go : A → Next) → ((x : A) → Falls n (go x)) → Falls n (on_some o go)
some_any n None go f = tt
some_any n (Some x) go f = f x

top_any : (n : ℕ) (vs : List Value) (go : Value → List Value → Next) → ((v : Value) (below : List Value) → Falls n (go v below)) → Falls n (on_top vs go)
top_any n [] go f = tt
top_any n (v ∷ vs) go f = f v vs

number_any : (n : ℕ) (t : ValType) (vs : List Value) (go : ℕ → List Value → Next) → ((k : ℕ) (below : List Value) → Falls n (go k below)) → Falls n (on_number t vs go)
number_any n t vs go f = top_any n vs _ (λ v below. some_any n _ _ (λ k. f k below))

top_of_any : (n k : ℕ) (vs : List Value) (go : List Value → List Value → Next) → ((taken below : List Value) → Falls n (go taken below)) → Falls n (on_top_of k vs go)
top_of_any n k vs go f = some_any n _ _ (λ p. f p.0 p.1)

trap_light : (vs : List Value) (rest : Code) → trap_weight vs rest ≤ 1 + size rest
trap_light [] Stop = omega arith
trap_light [] (Plain t r) = omega arith
trap_light [] (Block g x r) = omega arith
trap_light [] (Loop g x r) = omega arith
trap_light [] (If g x r) = omega arith
trap_light [] (IfElse g x y r) = omega arith
trap_light (v ∷ vs) rest = omega arith

or_trap_any : {A : Type 0} (n : ℕ) (o : Option A) (trap : TrapKind) (s : Store) (l vs : List Value) (rest : Code) (go : A → Next) → 1 + size rest < n → ((x : A) → Falls n (go x)) → Falls n (or_trap o trap s l vs rest go)
or_trap_any n None trap s l vs rest go h f = λ _. omega (arith, trap_light vs rest)
or_trap_any n (Some x) trap s l vs rest go h f = f x

computed_any : (n : ℕ) (s : Store) (l vs : List Value) (rest : Code) (r : Computed) → 1 + size rest < n → Falls n (computed s l vs rest r)
computed_any n s l vs rest (Ok v) h = λ _. omega arith
computed_any n s l vs rest (Err t) h = λ _. omega (arith, trap_light vs rest)

after_grow_any : (n : ℕ) (s : Store) (l : List Value) (mem : Memory) (vs : List Value) (rest : Code) (o : Option Memory) → size rest < n → Falls n (after_grow s l mem vs rest o)
after_grow_any n s l mem vs rest None h = λ _. h
after_grow_any n s l mem vs rest (Some x) h = λ _. h

enter_any : (n : ℕ) (m : Module) (sig : FuncType) (s : Store) (l vs : List Value) (rest : Code) (e : Entry) → 1 + size rest < n → Falls n (enter_entry m sig s l vs rest e)
enter_any n m sig s l vs rest Unset h = λ _. omega (arith, trap_light vs rest)
enter_any n m sig s l vs rest (SetTo f) h = some_any n (slice_get m.functions f) _ (λ fn. cond_ok (Falls n) (same_func_type fn.func_type sig) _ _ (λ _ _. h) (λ _ _. omega (arith, trap_light vs rest)))

act_falls : (m : Module) (s : Store) (l : List Value) (i : Op) (vs : List Value) (rest : Code) → Falls (op_weight i + size rest) (act m s l i vs rest)
unfolding act
act_falls m s l Unreachable vs rest = λ _. omega (arith, trap_light vs rest)
act_falls m s l Nop vs rest = λ _. omega arith
act_falls m s l (Br x) vs rest = tt
act_falls m s l (BrIf x) vs rest = number_any _ I32 vs _ (λ c vs. cond_ok (Falls (3 + size rest)) (nat_eq c 0) _ _ (λ _ _. omega arith) (λ _ _. omega arith))
act_falls m s l (BrTable xs x) vs rest = number_any _ I32 vs _ (λ i vs _. omega arith)
act_falls m s l Return vs rest = tt
act_falls m s l (Call f) vs rest = λ _. omega arith
act_falls m s l (CallIndirect y) vs rest =
    number_any _ I32 vs _ (λ i vs. some_any _ s.table _ (λ table. some_any _ (slice_get m.types y) _ (λ sig.
    or_trap_any _ (slice_get table i) UndefinedElement s l vs rest _ (omega arith) (λ e. enter_any _ m sig s l vs rest e (omega arith)))))
act_falls m s l Drop vs rest = top_any _ vs _ (λ v vs _. omega arith)
act_falls m s l Select vs rest = number_any _ I32 vs _ (λ c vs. top_any _ vs _ (λ u vs. top_any _ vs _ (λ v vs _. omega arith)))
act_falls m s l (LocalGet x) vs rest = some_any _ (slice_get l x) _ (λ v _. omega arith)
act_falls m s l (LocalSet x) vs rest = top_any _ vs _ (λ v vs. some_any _ (slice_get l x) _ (λ w _. omega arith))
act_falls m s l (LocalTee x) vs rest = top_any _ vs _ (λ v vs _. omega arith)
act_falls m s l (GlobalGet x) vs rest = some_any _ (slice_get s.globals x) _ (λ v _. omega arith)
act_falls m s l (GlobalSet x) vs rest = top_any _ vs _ (λ v vs. some_any _ (slice_get s.globals x) _ (λ w _. omega arith))
act_falls m s l (MemoryLoad a) vs rest =
    number_any _ I32 vs _ (λ i vs. some_any _ s.memory _ (λ mem.
    or_trap_any _ (read mem.bytes (i + a.offset) a.width) OutOfBounds s l vs rest _ (omega arith) (λ n. some_any _ (loaded a n) _ (λ v _. omega arith))))
act_falls m s l (MemoryStore a) vs rest =
    number_any _ a.of_type vs _ (λ n vs. number_any _ I32 vs _ (λ i vs. some_any _ s.memory _ (λ mem.
    or_trap_any _ (write mem.bytes (i + a.offset) a.width n) OutOfBounds s l vs rest _ (omega arith) (λ bytes _. omega arith))))
act_falls m s l MemorySize vs rest = some_any _ s.memory _ (λ mem _. omega arith)
act_falls m s l MemoryGrow vs rest = number_any _ I32 vs _ (λ n vs. some_any _ s.memory _ (λ mem. after_grow_any _ s l mem vs rest (grown mem n) (omega arith)))
act_falls m s l (Const t n) vs rest = some_any _ (value_in t n) _ (λ v _. omega arith)
act_falls m s l (Numeric op) vs rest = top_of_any _ _ vs _ (λ args vs. some_any _ (apply op args) _ (λ r. computed_any _ s l vs rest r (omega arith)))

size_behind : (code more : Code) → size (follow code more) ≡ size code + size more
size_behind Stop more = omega arith
size_behind (Plain t rest) more = omega (arith, size_behind rest more)
size_behind (Block g x rest) more = omega (arith, size_behind rest more)
size_behind (Loop g x rest) more = omega (arith, size_behind rest more)
size_behind (If g x rest) more = omega (arith, size_behind rest more)
size_behind (IfElse g x y rest) more = omega (arith, size_behind rest more)

charged_one : {A : Type 0} → ◌≡◌ {A = ℕ} 1 0 → A
charged_one e = absurd (omega (arith, e))

opens_falls : (n : ℕ) (kind : Kind) (sig : FuncType) (k : ℕ) (cont body : Code) (s : Store) (l vs : List Value) (rest : Code) → (charge kind ≡ 0 → 1 + size body + size cont + size rest < n) → Falls n (opens kind sig k cont body s l vs rest)
opens_falls n kind sig k cont body s l vs rest h = top_of_any n (length sig.params) vs _ (λ args vs e. h e)

source_falls : (m : Module) (s : Store) (l vs : List Value) (code : Code) → Falls (size code) (machine.source m s l vs code)
unfolding machine.source
source_falls m s l vs Stop = tt
source_falls m s l vs (Plain i rest) = act_falls m s l i vs rest
source_falls m s l vs (Block t body rest) =
    some_any (3 + size body + size rest) (block_sig m.types t) _ (λ sig. opens_falls _ Quiet sig _ Stop body s l vs rest (λ _. omega arith))
source_falls m s l vs (Loop t body rest) =
    some_any (3 + size body + size rest) (block_sig m.types t) _ (λ sig. opens_falls _ Looping sig _ (Loop t body Stop) body s l vs rest (λ e. charged_one e))
source_falls m s l vs (If t body rest) =
    number_any (3 + size body + size rest) I32 vs _ (λ c vs. some_any _ (block_sig m.types t) _ (λ sig.
    opens_falls _ Quiet sig _ Stop (cond (nat_eq c 0) Stop body) s l vs rest (λ _.
    cond_ok (λ x. 1 + size x + 0 + size rest < 3 + size body + size rest) (nat_eq c 0) Stop body (λ _. omega arith) (λ _. omega arith))))
source_falls m s l vs (IfElse t body other rest) =
    number_any (3 + size body + size other + size rest) I32 vs _ (λ c vs. some_any _ (block_sig m.types t) _ (λ sig.
    opens_falls _ Quiet sig _ Stop (cond (nat_eq c 0) other body) s l vs rest (λ _.
    cond_ok (λ x. 1 + size x + 0 + size rest < 3 + size body + size other + size rest) (nat_eq c 0) other body (λ _. omega arith) (λ _. omega arith))))

invoke_falls : (m : Module) (s : Store) (l vs : List Value) (f : ℕ) (rest : Code) (n : ℕ) → Falls n (machine.invoke m s l vs f rest)
unfolding machine.invoke
invoke_falls m s l vs f rest n =
    some_any n (slice_get m.functions f) _ (λ fn. top_of_any n (length (fn.func_type).params) vs (λ args vs. Steps Entering s l (Frame vs (length (fn.func_type).results) (reverse args ++ zeros fn.locals) (Label [] (length (fn.func_type).results) Stop (Source [] fn.body) Stop) rest)) (λ args vs e. charged_one e))

trap_falls : (vs : List Value) (trap : TrapKind) (rest : Code) → Falls (trap_weight vs rest) (trap_in vs trap rest)
unfolding trap_in
trap_falls [] trap Stop = tt
trap_falls [] trap (Plain t r) = omega arith
trap_falls [] trap (Block g x r) = omega arith
trap_falls [] trap (Loop g x r) = omega arith
trap_falls [] trap (If g x r) = omega arith
trap_falls [] trap (IfElse g x y r) = omega arith
trap_falls (v ∷ vs) trap rest = omega arith

label_falls : (s : Store) (l vs : List Value) (n : ℕ) (cont rest : Code) (k : ℕ) (o : Next) → Falls k o → Falls (1 + k + size cont + size rest) (in_label s l vs n cont rest o)
unfolding in_label
label_falls s l vs n cont rest k (Steps kind s' l' w) h = λ e. omega (arith, h e)
label_falls s l vs n cont rest k (Breaks zero over) h = top_of_any _ n over _ (λ taken dropped _. omega (arith, size_behind cont rest))
label_falls s l vs n cont rest k (Breaks (suc x) over) h = tt
label_falls s l vs n cont rest k (Returns over) h = tt
label_falls s l vs n cont rest k (Finished over) h = λ _. omega arith
label_falls s l vs n cont rest k (Trapped t) h = omega arith
label_falls s l vs n cont rest k (Traps t) h = omega arith
label_falls s l vs n cont rest k Stuck h = tt

frame_falls : (s : Store) (l vs : List Value) (n : ℕ) (own : List Value) (rest : Code) (k : ℕ) (o : Next) → Falls k o → Falls (2 + k + size rest) (in_frame s l vs n own rest o)
unfolding in_frame
frame_falls s l vs n own rest k (Steps kind s' l' w) h = λ e. omega (arith, h e)
frame_falls s l vs n own rest k (Breaks x over) h = tt
frame_falls s l vs n own rest k (Returns over) h = top_of_any _ n over _ (λ taken dropped _. omega arith)
frame_falls s l vs n own rest k (Finished over) h = cond_ok (Falls (2 + k + size rest)) (nat_eq (length over) n) _ _ (λ _ _. omega arith) (λ _. tt)
frame_falls s l vs n own rest k (Trapped t) h = λ _. omega (arith, trap_light vs rest)
frame_falls s l vs n own rest k (Traps t) h = λ _. omega (arith, h)
frame_falls s l vs n own rest k Stuck h = tt

next_falls : (m : Module) (s : Store) (l : List Value) (w : Work) → Falls (weight w) (next m s l w)
unfolding next
next_falls m s l (Source vs code) = source_falls m s l vs code
next_falls m s l (Invoke vs f rest) = invoke_falls m s l vs f rest _
next_falls m s l (Trap vs trap rest) = trap_falls vs trap rest
next_falls m s l (Label vs n cont inner rest) = label_falls s l vs n cont rest (weight inner) (next m s l inner) (next_falls m s l inner)
next_falls m s l (Frame vs n own inner rest) = frame_falls s l vs n own rest (weight inner) (next m s own inner) (next_falls m s own inner)

outermost_falls : (s : Store) (l : List Value) (n : ℕ) (o : Next) → Falls n o → Falls n (outermost s l o)
unfolding outermost
outermost_falls s l n (Steps kind s' l' w) h = h
outermost_falls s l n (Breaks x over) h = tt
outermost_falls s l n (Returns over) h = tt
outermost_falls s l n (Finished over) h = tt
outermost_falls s l n (Trapped t) h = tt
outermost_falls s l n (Traps t) h = λ _. h
outermost_falls s l n Stuck h = tt

pub lighter : Lighter
unfolding step
lighter m c d kind e = subst (Falls (weight c.work)) e (outermost_falls c.store c.locals (weight c.work) (next m c.store c.locals c.work) (next_falls m c.store c.locals c.work))

-- how a call goes on from here
record Finds (m : Module) (frames fuel : ℕ) (c : Config) : Type 0 where
  kinds : List Kind
  left : ℕ
  last : Config
  outcome : Outcome
  chain : Within m frames fuel c kinds last left
  end : EndsAs m frames last left outcome

at_once : {m : Module} {frames fuel : ℕ} {c : Config} {o : Outcome} → EndsAs m frames c fuel o → Finds m frames fuel c
at_once {fuel = fuel} {c = c} {o = o} e = record { kinds = []; left = fuel; last = c; outcome = o; chain = Within.ends; end = e }

after_one : {m : Module} {frames fuel : ℕ} {c : Config} (spare : ℕ) (kind : Kind) (d : Config) → Step m c kind d → fuel ≡ charge kind + spare → (kind ≡ Entering → frames_in c.work < frames) → Finds m frames spare d → Finds m frames fuel c
after_one spare kind d st p room f = record { kinds = kind ∷ f.kinds; left = f.left; last = f.last; outcome = f.outcome; chain = Within.after st p room f.chain; end = f.end }

module _ {C : Context} {m : Module} (mt : ModuleTyped C m) (frames : ℕ) (r : Stack) where
  All : ℕ → Type 0
  All fuel = (c : Config) → ConfigTyped C c r → Finds m frames fuel c

  -- with less fuel it is known already
  at_fuel : (fuel : ℕ) → ((spare : ℕ) → fuel ≡ suc spare → All spare) → (k : ℕ) (c : Config) → weight c.work < k → ConfigTyped C c r → Finds m frames fuel c
  unfolding All
  at_fuel fuel less zero c h t = absurd (omega arith)
  at_fuel fuel less (suc k) c h t =
      ⊎_elim (λ x. by_kind x.0 x.1 x.2 (λ d l t'. at_fuel fuel less k d l t'))
      (λ y. ⊎_elim (λ x. at_once (values x.0 x.1)) (λ x. at_once (trapped x.0 x.1)) y) (one_of_three C m c r mt t)
    where
      charged_step : (kind : Kind) (d : Config) → charge kind ≡ 1 → (kind ≡ Entering → frames_in c.work < frames) → Step m c kind d → (n : ℕ) → fuel ≡ n → Finds m frames fuel c
      charged_step kind d one room st zero e = at_once (out_of_fuel st one e)
      charged_step kind d one room st (suc spare) e = after_one spare kind d st (omega (arith, one, e)) room (less spare e d (preservation C m c d kind r mt t st))

      by_kind : (kind : Kind) (d : Config) → Step m c kind d → ((d : Config) → weight d.work < k → ConfigTyped C d r → Finds m frames fuel d) → Finds m frames fuel c
      by_kind Looping d st go = charged_step Looping d refl (λ e. absurd (cc)) st fuel refl
      by_kind Entering d st go = entering fuel refl
        where
          entering : (n : ℕ) → fuel ≡ n → Finds m frames fuel c
          entering zero e = at_once (out_of_fuel st refl e)
          entering (suc n) e =
              ⊎_elim (λ room. charged_step Entering d refl (λ _. room) st fuel refl)
              (λ full. at_once (out_of_frames st (omega (arith, e)) full)) (cases_lt (frames_in c.work) frames)
      by_kind Working d st go = after_one fuel Working d st (omega arith) (λ e. absurd (cc)) (go d (omega (arith, h, lighter m c d Working st refl)) (preservation C m c d Working r mt t st))
      by_kind Quiet d st go = after_one fuel Quiet d st (omega arith) (λ e. absurd (cc)) (go d (omega (arith, h, lighter m c d Quiet st refl)) (preservation C m c d Quiet r mt t st))

  total : (fuel : ℕ) → All fuel
  unfolding All
  total zero c t = at_fuel zero (λ spare e. absurd (cc)) (suc (weight c.work)) c (omega arith) t
  total (suc n) c t = at_fuel (suc n) (λ spare e. below spare e (λ c t. total n c t)) (suc (weight c.work)) c (omega arith) t
    where
      below : (spare : ℕ) → suc n ≡ suc spare → All n → All spare
      below spare e f = let h : n ≡ spare = omega (arith, e) in subst All h f

pub end_exists : EndExists
unfolding All
end_exists C m s f args sig t fuel frames =
    let x = total t.typed_module frames (leave sig) fuel (start s f args) (start_ok t) in
    (x.outcome, charged x.kinds, (x.last).store, record { kinds = x.kinds; left = x.left; last = x.last; chain = x.chain; end = x.end; count = refl; kept = refl })
