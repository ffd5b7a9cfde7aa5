-- A call may be given up before its function is entered, and at each token that is no loop (`stops_anywhere`).
use Rattle.std.proofs.Common.{◌≡◌, ℕ, ◌+◌, ◌*◌, ◌≤◌, List, [], length, Option, Some, None, false, refl, sym, subst, arith}
use Rattle.std.specs.Prelude.{slice_get}
use Rattle.std.proofs.lemmas.Option.{slice_get_within}
use Rattle.wsyntax.specs.Types.{FuncType}
use Rattle.wsyntax.specs.Instructions.{Token, Do, OpenBlock, OpenLoop, OpenIf, Else, End}
use Rattle.wsyntax.specs.Validation.Context.{Context}
use Rattle.wsyntax.specs.Execution.Chain.{Within, charged}
use Rattle.wsyntax.specs.Execution.Ends.{start}
use Rattle.soundness.specs.State.{config_of}
use Rattle.soundness.specs.Slots.{slot_store}
use Rattle.refinement.specs.Machine.{Body, Program, module_of, token_here, ticked}
use Rattle.refinement.specs.Joint.{Joint, state_of, machine_of}
use Rattle.refinement.specs.Reached.{Calling, StopsShort}
use Rattle.refinement.specs.Invariant.{remaining, Reaches}
use Rattle.refinement.specs.Laws.{Called, is_loop, StopsAnywhere}
use Rattle.refinement.specs.Reduction.{SafetyLaws}

-- the token at hand is one of those that remain, where it is no loop
remains_here : (o : Option Token) (ts : List Token) (pc n : ℕ) → slice_get ts pc ≡ o → is_loop o ≡ false → ticked o n ≤ n + remaining o (length ts) pc
remains_here None ts pc n e h = omega arith
remains_here (Some (Do i)) ts pc n e h = omega (arith, slice_get_within ts pc (Do i) e)
remains_here (Some (OpenBlock t)) ts pc n e h = omega (arith, slice_get_within ts pc (OpenBlock t) e)
remains_here (Some (OpenLoop t)) ts pc n e h = absurd cc
remains_here (Some (OpenIf t)) ts pc n e h = omega (arith, slice_get_within ts pc (OpenIf t) e)
remains_here (Some Else) ts pc n e h = omega (arith, slice_get_within ts pc Else e)
remains_here (Some End) ts pc n e h = omega (arith, slice_get_within ts pc End e)

ticked_more : (o : Option Token) (n : ℕ) → n ≤ ticked o n
ticked_more None n = omega arith
ticked_more (Some t) n = omega arith

times_sum : (k left fuel L : ℕ) → k + left ≡ fuel → k * L + left * L ≡ fuel * L
times_sum k left fuel L e = let add : k * L + left * L ≡ (k + left) * L = omega arith in cc

module _ (sound : SafetyLaws) (C : Context) (p : Program) (L : ℕ) (c : Calling) (b : Body) (sig : FuncType) (called : Called C p L c b sig) where
  stops_before : StopsShort C p c L (slot_store c.store) c.fuel 0
  stops_before = record {
    there = start c.store c.function c.arguments;
    kinds = [];
    chain = Within.ends;
    typed = called.typed.typed_store;
    stored = refl;
    paid = omega arith;
    most = omega arith;
    least = omega arith;
  }

  stops_at : (j : Joint) (n : ℕ) → Reaches C p L c sig j n → is_loop (token_here (machine_of j)) ≡ false → StopsShort C p c L (slot_store j.store) j.fuel (ticked (token_here (machine_of j)) n)
  stops_at j n h quiet =
      let o : Option Token = token_here (machine_of j) in
      let paid : c.fuel ≡ charged h.kinds + j.fuel = sound.paid (module_of p) c.frames c.fuel j.fuel (start c.store c.function c.arguments) (config_of (state_of j)) h.kinds h.chain in
      let times : charged h.kinds * L + j.fuel * L ≡ c.fuel * L = times_sum (charged h.kinds) j.fuel c.fuel L (sym paid) in
      let body : List Token = (((j.running).body).filled).tokens in
      record {
        there = config_of (state_of j);
        kinds = h.kinds;
        chain = h.chain;
        typed = h.typed.store;
        stored = refl;
        paid = sym paid;
        most = omega (arith, h.most, times, remains_here o body (j.running).pc n refl quiet);
        least = omega (arith, h.least, ticked_more o n);
      }

pub stops_anywhere : SafetyLaws → StopsAnywhere
stops_anywhere sound C p L c b sig called = record {
  before = stops_before sound C p L c b sig called;
  there = λ m n (j, is, h) quiet. subst (λ m. is_loop (token_here m) ≡ false → StopsShort C p c L m.store m.fuel (ticked (token_here m) n)) (sym is) (stops_at sound C p L c b sig called j n h) quiet;
}
