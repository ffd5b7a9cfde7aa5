-- From turn to turn the invariant holds, and the last turn gives the end of the call.
use Rattle.std.proofs.Common.{◌≡◌, ℕ, ◌+◌, ◌*◌, ◌≤◌, List, ◌++◌, Option, Some, None, refl, sym, ap, ◌∙◌, subst, arith}
use Rattle.wsyntax.specs.Types.{FuncType}
use Rattle.wsyntax.specs.declared.value.Value.{Value}
use Rattle.wsyntax.specs.Instructions.{Token}
use Rattle.wsyntax.specs.Validation.Context.{Stack, leave, Context}
use Rattle.wsyntax.specs.Execution.Values.{types}
use Rattle.wsyntax.specs.Execution.Store.{Module}
use Rattle.wsyntax.specs.Execution.Step.{Config, Kind}
use Rattle.wsyntax.specs.Execution.Chain.{Chain, Within, charged, worked}
use Rattle.wsyntax.specs.Execution.Ends.{Outcome, Values, Trapped, OutOfFuel, OutOfFrames, Ends, start}
use Rattle.soundness.specs.State.{config_of}
use Rattle.soundness.specs.Slots.{SlotStore}
use Rattle.refinement.specs.Machine.{Body, Program, module_of, Machine, Result, Gave, TrappedBy, NoFuel, NoFrames, Going, Over, turn, ticked, token_here}
use Rattle.refinement.specs.Joint.{Joint, state_of, machine_of}
use Rattle.refinement.specs.Reached.{Calling, SameEnd, WithinBound, EndsSame}
use Rattle.refinement.specs.Invariant.{worth, Reaches, Reached}
use Rattle.refinement.specs.Laws.{Called, GoesOn, EndsWell, IsBounded}
use Rattle.refinement.specs.Reduction.{SafetyLaws}
use Rattle.refinement.proofs.Kept.Premises.{Turning}
use Rattle.refinement.proofs.Kept.Bound.{worth_of, worth_is, Costs, Fine, turn_costs}
use Rattle.refinement.proofs.Kept.Matched.{World, Alike, Matched, Moved, Ended, Sites}
use Rattle.refinement.proofs.Kept.Took.{took, table_of}

-- a chain within limits is a chain
pub within_chain : {m : Module} {frames fuel left : ℕ} {c d : Config} {kinds : List Kind} → Within m frames fuel c kinds d left → Chain m c kinds d
within_chain Within.ends = Chain.ends
within_chain (Within.after s e r h) = Chain.after s (within_chain h)

ticked_sum : (o : Option Token) (n : ℕ) → ticked o n ≡ n + ticked o 0
ticked_sum None n = omega arith
ticked_sum (Some t) n = omega arith

one_tick : (o : Option Token) → ticked o 0 ≤ 1
one_tick None = omega arith
one_tick (Some t) = omega arith

same_end : (results : Stack) (r : Result) (o : Outcome) → Alike r o → ((vs : List Value) → o ≡ Values vs → types vs ≡ results) → SameEnd results r o
same_end results (Gave ns) (Values vs) a f = (a, f vs refl)
same_end results (TrappedBy t) (Trapped u) a f = a
same_end results NoFuel OutOfFuel a f = tt
same_end results NoFrames OutOfFrames a f = tt
same_end results r o a f = absurd a

module _ (turning : Turning) (sound : SafetyLaws) (C : Context) (p : Program) (L : ℕ) (c : Calling) (b : Body) (sig : FuncType) (called : Called C p L c b sig) where
  abbrev pub world : World
  world =
      record { C = C; p = p; frames = c.frames; L = L; holds = called.program; turning = turning; sound = sound }

  module _ (j : Joint) (n : ℕ) (h : Reaches C p L c sig j n) where
    all_sites : Sites C p j
    all_sites = record { running = h.running; waiting = h.waiting }

    -- what this turn makes
    abbrev tick : ℕ
    tick = ticked (token_here (machine_of j)) 0

    made : Matched C p c.frames j tick (turn p c.frames (machine_of j))
    made = took world j (leave sig) h.typed all_sites

    fine : Fine L p (machine_of j)
    fine =
        let k = (called.program).each in
        record {
          short = (k (h.running).index ((j.running).body) (h.running).known).short;
          all = λ f b e. (k f b e).short;
          bounded = (k (h.running).index ((j.running).body) (h.running).known).bounded;
          cases = table_of world j all_sites;
        }

    costs : Costs L tick (machine_of j) (turn p c.frames (machine_of j))
    costs = turn_costs L p c.frames (machine_of j) fine

    -- the whole chain
    longer : (kinds : List Kind) (last : Config) (left : ℕ) → Within (module_of p) c.frames j.fuel (config_of (state_of j)) kinds last left → Within (module_of p) c.frames c.fuel (start c.store c.function c.arguments) (h.kinds ++ kinds) last left
    longer kinds last left w =
        sound.joins (module_of p) c.frames c.fuel j.fuel left (start c.store c.function c.arguments) (config_of (state_of j)) last h.kinds kinds h.chain w

    more_work : (kinds : List Kind) → worked kinds ≤ tick → worked (h.kinds ++ kinds) ≤ ticked (token_here (machine_of j)) n
    more_work kinds le =
        let e = (sound.counts_add h.kinds kinds).1 in
        omega (arith, e, le, h.least, ticked_sum (token_here (machine_of j)) n)

    goes_on_by : (next : Machine) → Moved C p c.frames j tick next → Costs L tick (machine_of j) (Going next) → Reached C p L c sig next (ticked (token_here (machine_of j)) n)
    goes_on_by next m cost =
        let chain = longer m.kinds (config_of (state_of m.to)) (m.to).fuel m.chain in
        let w : worth_of L next ≡ worth L m.to = ap (worth_of L) m.machine ∙ worth_is L m.to in (
          m.to,
          m.machine,
          record {
            typed = (sound.never_stuck C (module_of p) c.store c.function c.arguments sig called.typed (h.kinds ++ m.kinds) (config_of (state_of m.to)) (within_chain chain)).0;
            running = (m.sites).running;
            waiting = (m.sites).waiting;
            kinds = h.kinds ++ m.kinds;
            chain = chain;
            least = more_work m.kinds m.few;
            most = omega (arith, ticked_sum (token_here (machine_of j)) n, h.most, cost, w, worth_is L j);
          },
        )

    pub goes_on_at : (next : Machine) → turn p c.frames (machine_of j) ≡ Going next → Reached C p L c sig next (ticked (token_here (machine_of j)) n)
    goes_on_at next e =
        goes_on_by next (subst (Matched C p c.frames j tick) e made) (subst (Costs L tick (machine_of j)) e costs)

    in_bound : (r : Result) (store : SlotStore) (left spent : ℕ) → spent + left ≡ c.fuel → Costs L tick (machine_of j) (Over r store left) → WithinBound L spent (ticked (token_here (machine_of j)) n) r
    in_bound NoFuel store left spent e cost =
        let u : spent * L ≡ c.fuel * L = ap (λ x. x * L) (omega (arith, e, cost)) in
        omega (arith, h.most, u, ticked_sum (token_here (machine_of j)) n, one_tick (token_here (machine_of j)))
    in_bound (Gave ns) store left spent e cost =
        let u : spent * L + left * L ≡ c.fuel * L = omega arith ∙ ap (λ x. x * L) e in
        let v : left * L ≡ j.fuel * L = ap (λ x. x * L) cost.1 in
        let k : worth L j ≡ worth_of L (machine_of j) = sym (worth_is L j) in
        omega (arith, h.most, u, v, k, cost.0, ticked_sum (token_here (machine_of j)) n)
    in_bound (TrappedBy t) store left spent e cost =
        let u : spent * L + left * L ≡ c.fuel * L = omega arith ∙ ap (λ x. x * L) e in
        let v : left * L ≡ j.fuel * L = ap (λ x. x * L) cost.1 in
        let k : worth L j ≡ worth_of L (machine_of j) = sym (worth_is L j) in
        omega (arith, h.most, u, v, k, cost.0, ticked_sum (token_here (machine_of j)) n)
    in_bound NoFrames store left spent e cost =
        let u : spent * L + left * L ≡ c.fuel * L = omega arith ∙ ap (λ x. x * L) e in
        let v : left * L ≡ j.fuel * L = ap (λ x. x * L) cost.1 in
        let k : worth L j ≡ worth_of L (machine_of j) = sym (worth_is L j) in
        omega (arith, h.most, u, v, k, cost.0, ticked_sum (token_here (machine_of j)) n)

    ends_by : (r : Result) (store : SlotStore) (left : ℕ) → Ended p c.frames j tick r store left → Costs L tick (machine_of j) (Over r store left) → EndsSame p c L sig.results r store left (ticked (token_here (machine_of j)) n)
    ends_by r store left e cost =
        let kinds = h.kinds ++ e.kinds in
        let chain = longer e.kinds e.last left e.chain in
        let ends : Ends (module_of p) c.store c.function c.arguments c.fuel c.frames e.outcome (charged kinds) (e.last).store = record { kinds = kinds; left = left; last = e.last; chain = chain; end = e.ends; count = refl; kept = refl } in
        let paid : charged kinds + left ≡ c.fuel = sym (sound.paid (module_of p) c.frames c.fuel left (start c.store c.function c.arguments) e.last kinds chain) in
        let typed = λ (vs : List Value) (is : e.outcome ≡ Values vs). (sound.results_typed C (module_of p) c.store c.function c.arguments sig called.typed c.fuel c.frames (charged kinds) vs (e.last).store (subst (λ o. Ends (module_of p) c.store c.function c.arguments c.fuel c.frames o (charged kinds) (e.last).store) is ends)).typed in
        record {
          outcome = e.outcome;
          spent = charged kinds;
          after = (e.last).store;
          ends = ends;
          same = same_end sig.results r e.outcome e.alike typed;
          stored = e.stored;
          paid = paid;
          most = in_bound r store left (charged kinds) paid cost;
          least = more_work e.kinds e.few;
        }

    pub ends_at : (r : Result) (store : SlotStore) (left : ℕ) → turn p c.frames (machine_of j) ≡ Over r store left → EndsSame p c L sig.results r store left (ticked (token_here (machine_of j)) n)
    ends_at r store left e =
        ends_by r store left (subst (Matched C p c.frames j tick) e made) (subst (Costs L tick (machine_of j)) e costs)

pub goes_on : Turning → SafetyLaws → GoesOn
goes_on turning sound C p L c b sig m next n called (j, is, h) e =
    subst (λ m. turn p c.frames m ≡ Going next → Reached C p L c sig next (ticked (token_here m) n)) (sym is) (goes_on_at turning sound C p L c b sig called j n h next) e

pub ends_well : Turning → SafetyLaws → EndsWell
ends_well turning sound C p L c b sig m n result store left called (j, is, h) e =
    subst (λ m. turn p c.frames m ≡ Over result store left → EndsSame p c L sig.results result store left (ticked (token_here m) n)) (sym is) (ends_at turning sound C p L c b sig called j n h result store left) e

pub is_bounded : IsBounded
is_bounded C p L c b sig m n called (j, is, h) = omega (arith, h.most)
