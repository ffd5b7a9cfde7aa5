-- A call that is given up.
use Rattle.std.proofs.Common.{◌≡◌, ℕ, List, [], sym, ◌∙◌, subst, arith}
use Rattle.wsyntax.specs.declared.value.Value.{Value}
use Rattle.wsyntax.specs.Execution.Chain.{Within, charged}
use Rattle.wsyntax.specs.Execution.Ends.{start}
use Rattle.accepted_module.specs.Judgement.{shapes_of}
use Rattle.wstore.specs.declared.instance.Instance.{Instance}
use Rattle.wstore.specs.Runs.{GivesUp, longest}
use Rattle.wstore.specs.Views.{store_in}
use Rattle.wmachine.specs.Calls.{IsGivenUp, TookAtMost}

same_store : (a b : Instance) → a.accepted ≡ b.accepted → a.parts ≡ b.parts → store_in a ≡ store_in b
same_store a b accepted parts = cc

-- nothing was done
pub nothing_done : (old new : Instance) (f : ℕ) (args : List Value) (fuel frames : ℕ) → new.accepted ≡ old.accepted → new.parts ≡ old.parts → new.dispatches ≡ 0 → IsGivenUp old f args fuel frames new
nothing_done old new f args fuel frames accepted parts none = (
  fuel,
  record {
    there = start (store_in old) f args;
    kinds = [];
    chain = λ i is. Within.ends;
    stored = sym (same_store new old accepted parts);
    paid = omega arith;
    most = omega (arith, none);
    least = omega arith;
  },
)

-- marks on the instance change nothing of it
marked : (old mid new : Instance) (f : ℕ) (args : List Value) (fuel frames left dispatches : ℕ) → GivesUp old f args fuel frames mid left dispatches → new.accepted ≡ mid.accepted → new.parts ≡ mid.parts → new.dispatches ≡ dispatches
    → IsGivenUp old f args fuel frames new
marked old mid new f args fuel frames left dispatches h accepted parts count = (
  left,
  record {
    there = h.there;
    kinds = h.kinds;
    chain = h.chain;
    stored = h.stored ∙ sym (same_store new mid accepted parts);
    paid = h.paid;
    most = omega (arith, h.most, count);
    least = omega (arith, h.least, count);
  },
)

pub given_up : (old mid new : Instance) (f : ℕ) (args : List Value) (fuel given frames left dispatches : ℕ) → given ≡ fuel → GivesUp old f args given frames mid left dispatches
    → new.accepted ≡ mid.accepted → new.parts ≡ mid.parts → new.dispatches ≡ dispatches → IsGivenUp old f args fuel frames new
given_up old mid new f args fuel given frames left dispatches same h accepted parts count =
    let P : ℕ → Type 0 = λ n. GivesUp old f args n frames mid left dispatches in
    marked old mid new f args fuel frames left dispatches (subst P same h) accepted parts count

pub took_at_most : (old new : Instance) (f : ℕ) (args : List Value) (fuel frames : ℕ) → IsGivenUp old f args fuel frames new → TookAtMost (longest (shapes_of old.accepted.now.bodies.items)) fuel new.dispatches
took_at_most old new f args fuel frames (left, h) = (charged h.kinds, omega (arith, h.paid), h.most)
