-- The start function is run first.
use Rattle.std.proofs.Common.{◌≡◌, ℕ, ◌-◌, [], refl, subst, arith}
use Rattle.wsyntax.specs.Instructions.{Code, Stop, Plain, Unreachable}
use Rattle.wsyntax.specs.Execution.Store.{Module, Store}
use Rattle.wsyntax.specs.Execution.Step.{step}
use Rattle.wsyntax.specs.Execution.Ends.{Ends, start}
use Rattle.wsyntax.specs.Execution.Run.{Run, Over, NotOver, run}
use Rattle.wsyntax.specs.Execution.Start.{fresh_store}
use Rattle.wsyntax.specs.Texts.Answer.{plainly, by_start, in_start, in_call}
use Rattle.soundness.specs.StartFirst.{adds_five, starter, instance_of, with_global, StartFirstExamples}
use Rattle.soundness.proofs.Chapter4.Running.{computed}

-- what a computed run says of a call without arguments
abbrev pub Said : Module → Store → ℕ → ℕ → ℕ → Run → Type 0
Said m s f fuel frames (Over o left c) = Ends m s f [] fuel frames o (fuel - left) c.store
Said m s f fuel frames NotOver = Unit {0}

said_of : (m : Module) (s : Store) (f fuel frames n : ℕ) (r : Run) → run m frames n fuel (start s f []) ≡ r → Said m s f fuel frames r
said_of m s f fuel frames n (Over o left c) e =
    let h = computed m s f [] fuel frames n o left c e in
    subst (λ k. Ends m s f [] fuel frames o k c.store) (omega (arith, h.1)) h.2
said_of m s f fuel frames n NotOver e = tt

-- twenty steps
said : (m : Module) (s : Store) (f fuel frames : ℕ) → Said m s f fuel frames (run m frames 20 fuel (start s f []))
said m s f fuel frames = said_of m s f fuel frames 20 _ refl

-- the call of the start function, and the one after it
pub first : (code : Code) (n : ℕ) → Said (instance_of code) (fresh_store 1 starter) 0 n 1 (run (instance_of code) 1 20 n (start (fresh_store 1 starter) 0 []))
first code n = said (instance_of code) (fresh_store 1 starter) 0 n 1

pub behind : (s : Store) (left : ℕ) → Said (instance_of adds_five) s 1 left 1 (run (instance_of adds_five) 1 20 left (start s 1 []))
behind s left = said (instance_of adds_five) s 1 left 1

pub start_first_examples : StartFirstExamples
unfolding step
start_first_examples = record {
  instance = record { same_types = refl; each = (refl, refl, refl, (refl, refl, refl, tt)) };
  leaves_store = by_start refl (first adds_five 10);
  fuel_is_added = in_call {k = 1} {n = 1} {left = 9} {s = with_global 7} {after = with_global 7} (by_start refl (first adds_five 10)) refl (behind (with_global 7) 9);
  enough_fuel = in_call {k = 1} {n = 1} {left = 1} {s = with_global 7} {after = with_global 7} (by_start refl (first adds_five 2)) refl (behind (with_global 7) 1);
  fuel_is_shared = in_call {k = 1} {n = 0} {left = 0} {s = with_global 7} {after = with_global 7} (by_start refl (first adds_five 1)) refl (behind (with_global 7) 0);
  no_fuel = in_start {g = 0} {s = with_global 2} refl (first adds_five 0) (λ e. absurd cc);
  start_traps = in_start {g = 0} {s = with_global 2} refl (first (Plain Unreachable Stop) 10) (λ e. absurd cc);
  no_start = in_call {k = 0} {n = 1} {left = 10} {s = with_global 2} {after = with_global 2} (plainly refl) refl (behind (with_global 2) 10);
}
