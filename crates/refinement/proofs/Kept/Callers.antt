-- A turn adds one caller at most, and takes one away where it takes no token; so a run comes to its end.
use Rattle.std.proofs.Common.{◌≡◌, ℕ, zero, suc, ◌+◌, ◌*◌, ◌<◌, ◌≤◌, Bool, true, false, List, [], ◌∷◌, length, Option, Some, None, subst, arith, if◌then◌else◌}
use Rattle.std.specs.Prelude.{slice_get, nat_le, nat_eq, ◌^◌, ◌%◌}
use Rattle.wsyntax.specs.Types.{FuncType, same_func_type}
use Rattle.wsyntax.specs.Instructions.{Op, Unreachable, Nop, Return, Br, BrIf, Call, CallIndirect, BrTable, Drop, Select, LocalGet, LocalSet, LocalTee, GlobalGet, GlobalSet, MemoryLoad, MemoryStore, MemorySize, MemoryGrow, Const, Numeric, Token, Do, OpenBlock, OpenLoop, OpenIf, Else, End}
use Rattle.wsyntax.specs.declared.value.Trap.TheVariants.{TypeMismatch}
use Rattle.wsyntax.specs.Execution.Store.{Entry, Unset, SetTo}
use Rattle.soundness.specs.Slots.{Effect, Puts, Fails, Off, effect}
use Rattle.refinement.specs.Machine.{Body, Program, Caller, Machine, NoFrames, Did, Going, Over, Broken, goes, fails, on_found, on_operand, lands, entry_here, jumps_here, moves_here, case_of, paid, leaves_to, entered, enters, enters_entry, takes_effect, does, takes, ticked, token_here}
use Rattle.refinement.specs.Measure.{GetsSmaller}
use Rattle.refinement.specs.Reduction.{SafetyLaws}
use Rattle.refinement.proofs.Kept.Premises.{Turning}
use Rattle.refinement.proofs.Kept.Reaching.{goes_on, is_bounded}

-- at most that many callers wait after it
abbrev Few : ℕ → Did → Type 0
Few k (Going m) = length m.callers ≤ k
Few k (Over r s f) = Unit {0}
Few k Broken = Unit {0}

few_found : {A : Type 0} (k : ℕ) (o : Option A) (go : A → Did) → ((x : A) → Few k (go x)) → Few k (on_found o go)
few_found k None go h = tt
few_found k (Some x) go h = h x

few_operand : (k : ℕ) (ns : List ℕ) (go : ℕ → List ℕ → Did) → ((n : ℕ) (ns : List ℕ) → Few k (go n ns)) → Few k (on_operand ns go)
few_operand k [] go h = tt
few_operand k (n ∷ ns) go h = h n ns

few_test : (k : ℕ) (b : Bool) (x y : Did) → Few k x → Few k y → Few k (if b then x else y)
few_test k true x y hx hy = hx
few_test k false x y hx hy = hy

few_paid : (k : ℕ) (m : Machine) (fuel : ℕ) (go : ℕ → Did) → ((left : ℕ) → Few k (go left)) → Few k (paid m fuel go)
few_paid k m zero go h = tt
few_paid k m (suc left) go h = h left

few_left : (k : ℕ) (m : Machine) (ns : List ℕ) (bs : List Caller) → length bs ≤ suc k → Few k (leaves_to m ns bs)
few_left k m ns [] h = tt
few_left k m ns (b ∷ bs) h = omega (arith, h)

module _ (m : Machine) where
  abbrev one_more : ℕ
  one_more = suc (length m.callers)

  few_jump : (ns : List ℕ) → Few one_more (jumps_here m ns)
  few_jump ns = few_found one_more (entry_here m) (lands m ns) (λ e. omega arith)

  few_move : (ns : List ℕ) → Few one_more (moves_here m ns)
  few_move ns = few_found one_more (entry_here m) (λ e. goes m e.target ns) (λ e. omega arith)

  few_effect : (e : Effect) → Few one_more (takes_effect m e)
  few_effect (Puts s l ns) = omega arith
  few_effect (Fails trap) = tt
  few_effect Off = tt

  few_enter : (frames : ℕ) (ns : List ℕ) (b : Body) → Few one_more (enters frames m ns b)
  few_enter frames ns b =
      few_paid one_more m m.fuel (λ left. if nat_le frames (suc (length m.callers)) then Over NoFrames m.store m.fuel else Going (entered m ns b left))
      (λ left. few_test one_more (nat_le frames (suc (length m.callers))) (Over NoFrames m.store m.fuel) (Going (entered m ns b left)) tt (omega arith))

  module _ (p : Program) (frames : ℕ) where
    few_entry : (ns : List ℕ) (t : FuncType) (o : Option Entry) → Few one_more (enters_entry p frames m ns t o)
    few_entry ns t None = tt
    few_entry ns t (Some Unset) = tt
    few_entry ns t (Some (SetTo f)) =
        few_found one_more (slice_get p.bodies f) (λ b. if same_func_type (b.function).func_type t then enters frames m ns b else fails m TypeMismatch)
        (λ b. few_test one_more (same_func_type (b.function).func_type t) (enters frames m ns b) (fails m TypeMismatch) (few_enter frames ns b) tt)

    few_does : (i : Op) → Few one_more (does p frames m i)
    few_does (Br l) = few_jump m.operands
    few_does (BrIf l) =
        few_operand one_more m.operands (λ c ns. if nat_eq c 0 then goes m (m.pc + 1) ns else jumps_here m ns)
        (λ c ns. few_test one_more (nat_eq c 0) (goes m (m.pc + 1) ns) (jumps_here m ns) (omega arith) (few_jump ns))
    few_does (BrTable ls d) =
        few_operand one_more m.operands (λ i ns. on_found (entry_here m) (λ e. on_found (case_of m e i) (lands m ns)))
        (λ i ns. few_found one_more (entry_here m) (λ e. on_found (case_of m e i) (lands m ns)) (λ e. few_found one_more (case_of m e i) (lands m ns) (λ to. omega arith)))
    few_does Return = few_left one_more m _ m.callers (omega arith)
    few_does (Call f) = few_found one_more (slice_get p.bodies f) (enters frames m m.operands) (few_enter frames m.operands)
    few_does (CallIndirect y) =
        few_operand one_more m.operands (λ i ns. on_found (m.store).table (λ table. on_found (slice_get p.types y) (λ t. enters_entry p frames m ns t (slice_get table (i % 2 ^ 32)))))
        (λ i ns. few_found one_more (m.store).table (λ table. on_found (slice_get p.types y) (λ t. enters_entry p frames m ns t (slice_get table (i % 2 ^ 32))))
        (λ table. few_found one_more (slice_get p.types y) (λ t. enters_entry p frames m ns t (slice_get table (i % 2 ^ 32))) (λ t. few_entry ns t (slice_get table (i % 2 ^ 32)))))
    few_does Unreachable = few_effect (effect Unreachable m.store m.locals m.operands)
    few_does Nop = few_effect (effect Nop m.store m.locals m.operands)
    few_does Drop = few_effect (effect Drop m.store m.locals m.operands)
    few_does Select = few_effect (effect Select m.store m.locals m.operands)
    few_does (LocalGet x) = few_effect (effect (LocalGet x) m.store m.locals m.operands)
    few_does (LocalSet x) = few_effect (effect (LocalSet x) m.store m.locals m.operands)
    few_does (LocalTee x) = few_effect (effect (LocalTee x) m.store m.locals m.operands)
    few_does (GlobalGet x) = few_effect (effect (GlobalGet x) m.store m.locals m.operands)
    few_does (GlobalSet x) = few_effect (effect (GlobalSet x) m.store m.locals m.operands)
    few_does (MemoryLoad a) = few_effect (effect (MemoryLoad a) m.store m.locals m.operands)
    few_does (MemoryStore a) = few_effect (effect (MemoryStore a) m.store m.locals m.operands)
    few_does MemorySize = few_effect (effect MemorySize m.store m.locals m.operands)
    few_does MemoryGrow = few_effect (effect MemoryGrow m.store m.locals m.operands)
    few_does (Const t n) = few_effect (effect (Const t n) m.store m.locals m.operands)
    few_does (Numeric f) = few_effect (effect (Numeric f) m.store m.locals m.operands)

    few_token : (t : Token) → Few one_more (takes p frames m (Some t))
    few_token (Do i) = few_does i
    few_token (OpenBlock t) = omega arith
    few_token (OpenLoop t) =
        few_paid one_more m m.fuel (λ left. Going (record m { pc = m.pc + 1; fuel = left })) (λ left. omega arith)
    few_token (OpenIf t) =
        few_operand one_more m.operands (λ c ns. if nat_eq c 0 then moves_here m ns else goes m (m.pc + 1) ns)
        (λ c ns. few_test one_more (nat_eq c 0) (moves_here m ns) (goes m (m.pc + 1) ns) (few_move ns) (omega arith))
    few_token Else = few_move m.operands
    few_token End = omega arith

    -- past the last token there is a caller less
    fewer_callers : (next : Machine) (ns : List ℕ) (bs : List Caller) → leaves_to m ns bs ≡ Going next → length next.callers < length bs
    fewer_callers next ns [] e = absurd (cc e)
    fewer_callers next ns (b ∷ bs) e =
        let h : Few (length bs) (Going next) = subst (Few (length bs)) e (few_left (length bs) m ns (b ∷ bs) (omega arith)) in
        omega (arith, h)

    callers_after : (next : Machine) (o : Option Token) → takes p frames m o ≡ Going next → length next.callers < length m.callers + 2 * ticked o 0
    callers_after next None e =
        let h = fewer_callers next _ m.callers e in omega (arith, h)
    callers_after next (Some t) e =
        let h : Few one_more (Going next) = subst (Few one_more) e (few_token t) in omega (arith, h)

tick_sum : (o : Option Token) (n : ℕ) → ticked o n ≡ n + ticked o 0
tick_sum None n = omega arith
tick_sum (Some t) n = omega arith

pub gets_smaller : Turning → SafetyLaws → GetsSmaller
gets_smaller turning sound C p L c b sig m next n called reached e =
    let o = token_here m in
    let bound = is_bounded C p L c b sig next (ticked o n) called (goes_on turning sound C p L c b sig m next n called reached e) in
    omega (arith, bound, tick_sum o n, callers_after m p c.frames next o e)
