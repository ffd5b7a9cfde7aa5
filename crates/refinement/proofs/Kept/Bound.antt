-- What a turn costs: each dispatch makes the worth of the machine smaller (`turn_costs`).
-- The worth counts the tokens that remain here and in the callers, and L for each unit of fuel, where no body has more than L tokens.
-- The proof goes by the token, and for an instruction by its form. Reaching.antt cites it, and Entering.antt cites `remains_le`.
use Rattle.std.proofs.Common.{◌≡◌, ℕ, zero, suc, ◌+◌, ◌-◌, ◌*◌, ◌<◌, ◌≤◌, Bool, true, false, List, [], ◌∷◌, length, min, map, Option, Some, None, refl, ap, ◌∙◌, arith, ⊎_elim, if◌then◌else◌}
use Rattle.std.specs.Prelude.{slice_get, nat_le, nat_eq, ◌^◌, ◌%◌}
use Rattle.std.proofs.lemmas.Option.{slice_get_within}
use Rattle.wsyntax.specs.Types.{FuncType, same_func_type}
use Rattle.wsyntax.specs.Instructions.{Op, Unreachable, Nop, Return, Br, BrIf, Call, CallIndirect, BrTable, Drop, Select, LocalGet, LocalSet, LocalTee, GlobalGet, GlobalSet, MemoryLoad, MemoryStore, MemorySize, MemoryGrow, Const, Numeric, Token, Do, OpenBlock, OpenLoop, OpenIf, Else, End}
use Rattle.wsyntax.specs.Execution.Store.{Entry, Unset, SetTo}
use Rattle.checked_body.specs.declared.branch.Branch.{Branch}
use Rattle.checked_body.specs.SideTable.{LeadsOn, Bounded}
use Rattle.soundness.specs.Slots.{Effect, Puts, Fails, Off, effect}
use Rattle.refinement.specs.Machine.{Body, Program, Caller, Machine, Gave, TrappedBy, NoFuel, NoFrames, Did, Going, Over, Broken, goes, on_found, on_operand, kept_by, lands, entry_here, jumps_here, moves_here, case_of, paid, leaves_to, entered, enters, enters_entry, takes_effect, does, takes, turn, ticked, token_here}
use Rattle.refinement.specs.Joint.{Site, Joint, caller, machine_of}
use Rattle.refinement.specs.Invariant.{remaining, remains, waiting_worth, worth}

remaining_le : (o : Option Token) (count pc : ℕ) → remaining o count pc ≤ count - pc
remaining_le None count pc = omega arith
remaining_le (Some (Do i)) count pc = omega arith
remaining_le (Some (OpenBlock t)) count pc = omega arith
remaining_le (Some (OpenLoop t)) count pc = omega arith
remaining_le (Some (OpenIf t)) count pc = omega arith
remaining_le (Some Else) count pc = omega arith
remaining_le (Some End) count pc = omega arith

pub remains_le : (b : Body) (pc : ℕ) → remains b pc ≤ length (b.filled).tokens - pc
remains_le b pc = remaining_le (slice_get (b.filled).tokens pc) (length (b.filled).tokens) pc

-- the tokens that the callers have before them
abbrev pub waits : List Caller → ℕ
waits [] = 0
waits (b ∷ bs) = (length ((b.body).filled).tokens - b.pc) + waits bs

waits_is : (xs : List Site) → waits (map caller xs) ≡ waiting_worth xs
waits_is [] = refl
waits_is (x ∷ xs) = ap (λ n. (length ((x.body).filled).tokens - x.pc) + n) (waits_is xs)

module _ (L : ℕ) where
  abbrev pub worth_of : Machine → ℕ
  worth_of m = remains m.body m.pc + waits m.callers + m.fuel * L

  pub worth_is : (j : Joint) → worth_of (machine_of j) ≡ worth L j
  worth_is j = ap (λ n. remains (j.running).body (j.running).pc + n + j.fuel * L) (waits_is j.waiting)

  -- a turn that takes t tokens
  abbrev pub Costs : ℕ → Machine → Did → Type 0
  Costs t m (Going n) = t + worth_of n ≤ worth_of m
  Costs t m (Over NoFuel s f) = f ≡ 0
  Costs t m (Over (Gave ns) s f) = (t ≤ remains m.body m.pc + waits m.callers) × (f ≡ m.fuel)
  Costs t m (Over (TrappedBy k) s f) = (t ≤ remains m.body m.pc + waits m.callers) × (f ≡ m.fuel)
  Costs t m (Over NoFrames s f) = (t ≤ remains m.body m.pc + waits m.callers) × (f ≡ m.fuel)
  Costs t m Broken = Unit {0}

  -- on at another position of the body, where less remains
  on_to : (m n : Machine) → n.body ≡ m.body → n.callers ≡ m.callers → n.fuel ≡ m.fuel → remains n.body n.pc < remains m.body m.pc → Costs 1 m (Going n)
  on_to m n eb ec eu less =
      let w : waits n.callers ≡ waits m.callers = ap waits ec in
      let u : n.fuel * L ≡ m.fuel * L = ap (λ x. x * L) eu in
      omega (arith, less, w, u)

  next_less : (b : Body) (pc : ℕ) → pc < length (b.filled).tokens → remains b (pc + 1) < length (b.filled).tokens - pc
  next_less b pc h = omega (arith, h, remains_le b (pc + 1))

  lead_less : (b : Body) (pc : ℕ) (e : Branch) → pc < length (b.filled).tokens → LeadsOn b.filled pc e → remains b e.target < length (b.filled).tokens - pc
  lead_less b pc e h l =
      ⊎_elim
      (λ lt. omega (arith, h, lt, l.0, remains_le b e.target))
      (λ q. let z : remains b e.target ≡ 0 = ap (λ o. remaining o (length (b.filled).tokens) e.target) q.1 in omega (arith, h, z))
      l.1

  -- what a turn finds, and what it makes of it
  found_costs : {A : Type 0} (m : Machine) (o : Option A) (go : A → Did) → ((x : A) → o ≡ Some x → Costs 1 m (go x)) → Costs 1 m (on_found o go)
  found_costs m None go h = tt
  found_costs m (Some x) go h = h x refl

  operand_costs : (m : Machine) (ns : List ℕ) (go : ℕ → List ℕ → Did) → ((n : ℕ) (ns : List ℕ) → Costs 1 m (go n ns)) → Costs 1 m (on_operand ns go)
  operand_costs m [] go h = tt
  operand_costs m (n ∷ ns) go h = h n ns

  test_costs : (m : Machine) (b : Bool) (x y : Did) → Costs 1 m x → Costs 1 m y → Costs 1 m (if b then x else y)
  test_costs m true x y hx hy = hx
  test_costs m false x y hx hy = hy

  paid_costs : (m : Machine) (fuel : ℕ) (go : ℕ → Did) → m.fuel ≡ fuel → ((left : ℕ) → m.fuel ≡ suc left → Costs 1 m (go left)) → Costs 1 m (paid m fuel go)
  paid_costs m zero go e h = refl
  paid_costs m (suc left) go e h = h left e

  -- a token that is no loop
  module _ (m : Machine) (within : m.pc < length ((m.body).filled).tokens) (plain : remains m.body m.pc ≡ length ((m.body).filled).tokens - m.pc) (ok : Bounded (m.body).filled) where
    next_costs : (ns : List ℕ) → Costs 1 m (goes m (m.pc + 1) ns)
    next_costs ns =
        on_to m (record m { pc = m.pc + 1; operands = ns }) refl refl refl (omega (arith, plain, next_less m.body m.pc within))

    land_costs : (ns : List ℕ) (e : Branch) → LeadsOn (m.body).filled m.pc e → Costs 1 m (goes m e.target ns)
    land_costs ns e l =
        on_to m (record m { pc = e.target; operands = ns }) refl refl refl (omega (arith, plain, lead_less m.body m.pc e within l))

    jump_costs : (ns : List ℕ) → Costs 1 m (jumps_here m ns)
    jump_costs ns = found_costs m (entry_here m) (lands m ns) (λ e h. land_costs (kept_by e ns) e (ok.leads m.pc e h))

    move_costs : (ns : List ℕ) → Costs 1 m (moves_here m ns)
    move_costs ns =
        found_costs m (entry_here m) (λ e. goes m e.target ns) (λ e h. land_costs ns e (ok.leads m.pc e h))

    fail_costs : 1 ≤ remains m.body m.pc + waits m.callers
    fail_costs = omega (arith, plain, within)

    effect_costs : (e : Effect) → Costs 1 m (takes_effect m e)
    effect_costs (Puts s l ns) =
        on_to m (record m { pc = m.pc + 1; operands = ns; locals = l; store = s }) refl refl refl (omega (arith, plain, next_less m.body m.pc within))
    effect_costs (Fails trap) = (fail_costs, refl)
    effect_costs Off = tt

    leave_costs : (ns : List ℕ) (bs : List Caller) → m.callers ≡ bs → Costs 1 m (leaves_to m ns bs)
    leave_costs ns [] q = (fail_costs, refl)
    leave_costs ns (b ∷ bs) q =
        let w : waits m.callers ≡ (length ((b.body).filled).tokens - b.pc) + waits bs = ap waits q in
        omega (arith, plain, within, w, remains_le b.body b.pc)

    enter_costs : (frames : ℕ) (ns : List ℕ) (b : Body) → length (b.filled).tokens ≤ L → Costs 1 m (enters frames m ns b)
    enter_costs frames ns b short =
        paid_costs m m.fuel (λ left. if nat_le frames (suc (length m.callers)) then Over NoFrames m.store m.fuel else Going (entered m ns b left)) refl
        (λ left q. let u : m.fuel * L ≡ left * L + L = ap (λ x. x * L) q ∙ omega arith in
        test_costs m (nat_le frames (suc (length m.callers))) (Over NoFrames m.store m.fuel) (Going (entered m ns b left)) (fail_costs, refl) (omega (arith, plain, within, u, remains_le b 0, short)))

    module _ (p : Program) (frames : ℕ) (all : (f : ℕ) (b : Body) → slice_get p.bodies f ≡ Some b → length (b.filled).tokens ≤ L) where
      entry_costs : (ns : List ℕ) (t : FuncType) (o : Option Entry) → Costs 1 m (enters_entry p frames m ns t o)
      entry_costs ns t None = (fail_costs, refl)
      entry_costs ns t (Some Unset) = (fail_costs, refl)
      entry_costs ns t (Some (SetTo f)) =
          found_costs m (slice_get p.bodies f) (λ b. if same_func_type (b.function).func_type t then enters frames m ns b else Over (TrappedBy _) m.store m.fuel)
          (λ b e. test_costs m (same_func_type (b.function).func_type t) (enters frames m ns b) _ (enter_costs frames ns b (all f b e)) (fail_costs, refl))

      does_costs : (i : Op) → ((ls : List ℕ) (d : ℕ) (e : Branch) → i ≡ BrTable ls d → entry_here m ≡ Some e → (n : ℕ) (to : Branch) → case_of m e n ≡ Some to → LeadsOn (m.body).filled m.pc to) → Costs 1 m (does p frames m i)
      does_costs (Br l) tb = jump_costs m.operands
      does_costs (BrIf l) tb =
          operand_costs m m.operands (λ c ns. if nat_eq c 0 then goes m (m.pc + 1) ns else jumps_here m ns) (λ c ns. test_costs m (nat_eq c 0) (goes m (m.pc + 1) ns) (jumps_here m ns) (next_costs ns) (jump_costs ns))
      does_costs (BrTable ls d) tb =
          operand_costs m m.operands (λ i ns. on_found (entry_here m) (λ e. on_found (case_of m e i) (lands m ns)))
          (λ i ns. found_costs m (entry_here m) (λ e. on_found (case_of m e i) (lands m ns))
          (λ e h. found_costs m (case_of m e i) (lands m ns) (λ to k. land_costs (kept_by to ns) to (tb ls d e refl h i to k))))
      does_costs Return tb = leave_costs _ m.callers refl
      does_costs (Call f) tb =
          found_costs m (slice_get p.bodies f) (enters frames m m.operands) (λ b e. enter_costs frames m.operands b (all f b e))
      does_costs (CallIndirect y) tb =
          operand_costs m m.operands (λ i ns. on_found (m.store).table (λ table. on_found (slice_get p.types y) (λ t. enters_entry p frames m ns t (slice_get table (i % 2 ^ 32)))))
          (λ i ns. found_costs m (m.store).table (λ table. on_found (slice_get p.types y) (λ t. enters_entry p frames m ns t (slice_get table (i % 2 ^ 32))))
          (λ table h. found_costs m (slice_get p.types y) (λ t. enters_entry p frames m ns t (slice_get table (i % 2 ^ 32))) (λ t k. entry_costs ns t (slice_get table (i % 2 ^ 32)))))
      does_costs Unreachable tb = effect_costs (effect Unreachable m.store m.locals m.operands)
      does_costs Nop tb = effect_costs (effect Nop m.store m.locals m.operands)
      does_costs Drop tb = effect_costs (effect Drop m.store m.locals m.operands)
      does_costs Select tb = effect_costs (effect Select m.store m.locals m.operands)
      does_costs (LocalGet x) tb = effect_costs (effect (LocalGet x) m.store m.locals m.operands)
      does_costs (LocalSet x) tb = effect_costs (effect (LocalSet x) m.store m.locals m.operands)
      does_costs (LocalTee x) tb = effect_costs (effect (LocalTee x) m.store m.locals m.operands)
      does_costs (GlobalGet x) tb = effect_costs (effect (GlobalGet x) m.store m.locals m.operands)
      does_costs (GlobalSet x) tb = effect_costs (effect (GlobalSet x) m.store m.locals m.operands)
      does_costs (MemoryLoad a) tb = effect_costs (effect (MemoryLoad a) m.store m.locals m.operands)
      does_costs (MemoryStore a) tb = effect_costs (effect (MemoryStore a) m.store m.locals m.operands)
      does_costs MemorySize tb = effect_costs (effect MemorySize m.store m.locals m.operands)
      does_costs MemoryGrow tb = effect_costs (effect MemoryGrow m.store m.locals m.operands)
      does_costs (Const t n) tb = effect_costs (effect (Const t n) m.store m.locals m.operands)
      does_costs (Numeric f) tb = effect_costs (effect (Numeric f) m.store m.locals m.operands)

  loop_costs : (m : Machine) → m.pc < length ((m.body).filled).tokens → length ((m.body).filled).tokens ≤ L → Costs 1 m (paid m m.fuel (λ left. Going (record m { pc = m.pc + 1; fuel = left })))
  loop_costs m within short =
      paid_costs m m.fuel (λ left. Going (record m { pc = m.pc + 1; fuel = left })) refl
      (λ left q. let u : m.fuel * L ≡ left * L + L = ap (λ x. x * L) q ∙ omega arith in
      omega (arith, within, u, short, next_less m.body m.pc within))

  fall_costs : (m : Machine) (ns : List ℕ) (bs : List Caller) → m.callers ≡ bs → Costs 0 m (leaves_to m ns bs)
  fall_costs m ns [] q = (omega arith, refl)
  fall_costs m ns (b ∷ bs) q =
      let w : waits m.callers ≡ (length ((b.body).filled).tokens - b.pc) + waits bs = ap waits q in
      omega (arith, w, remains_le b.body b.pc)

  -- what is known where the machine stands: its entries lead on, and the cases of its table too
  pub record Fine (p : Program) (m : Machine) : Type 0 where
    pub short : length ((m.body).filled).tokens ≤ L
    pub all : (f : ℕ) (b : Body) → slice_get p.bodies f ≡ Some b → length (b.filled).tokens ≤ L
    pub bounded : Bounded (m.body).filled
    pub cases : (ls : List ℕ) (d : ℕ) (e : Branch) → token_here m ≡ Some (Do (BrTable ls d)) → entry_here m ≡ Some e → e.arity ≡ length ls

  token_costs : (p : Program) (frames : ℕ) (m : Machine) (o : Option Token) → Fine p m → token_here m ≡ o → Costs (ticked o 0) m (takes p frames m o)
  token_costs p frames m None fine e = fall_costs m _ m.callers refl
  token_costs p frames m (Some (OpenLoop t)) fine e = loop_costs m (slice_get_within _ _ _ e) fine.short
  token_costs p frames m (Some (Do i)) fine e =
      let w = slice_get_within _ _ _ e in
      let q = ap (λ o. remaining o (length ((m.body).filled).tokens) m.pc) e in
      does_costs m w q fine.bounded p frames fine.all i
      (λ ls d en is h n to k. let same = fine.cases ls d en (e ∙ ap (λ i. Some (Do i)) is) h in
      fine.bounded.leads_cases m.pc ls d en (e ∙ ap (λ i. Some (Do i)) is) h (min n en.arity) (omega (arith, same)) to k)
  token_costs p frames m (Some (OpenBlock t)) fine e =
      next_costs m (slice_get_within _ _ _ e) (ap (λ o. remaining o (length ((m.body).filled).tokens) m.pc) e) fine.bounded m.operands
  token_costs p frames m (Some (OpenIf t)) fine e =
      let w = slice_get_within _ _ _ e in
      let q = ap (λ o. remaining o (length ((m.body).filled).tokens) m.pc) e in
      operand_costs m m.operands (λ c ns. if nat_eq c 0 then moves_here m ns else goes m (m.pc + 1) ns) (λ c ns. test_costs m (nat_eq c 0) (moves_here m ns) (goes m (m.pc + 1) ns) (move_costs m w q fine.bounded ns) (next_costs m w q fine.bounded ns))
  token_costs p frames m (Some Else) fine e =
      move_costs m (slice_get_within _ _ _ e) (ap (λ o. remaining o (length ((m.body).filled).tokens) m.pc) e) fine.bounded m.operands
  token_costs p frames m (Some End) fine e =
      next_costs m (slice_get_within _ _ _ e) (ap (λ o. remaining o (length ((m.body).filled).tokens) m.pc) e) fine.bounded m.operands

  pub turn_costs : (p : Program) (frames : ℕ) (m : Machine) → Fine p m → Costs (ticked (token_here m) 0) m (turn p frames m)
  turn_costs p frames m fine = token_costs p frames m (token_here m) fine refl
