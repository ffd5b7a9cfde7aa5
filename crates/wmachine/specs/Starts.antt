-- 4.5.4, 4.5.5 How the start function ends, and how a call after it does.
use Rattle.std.specs.Prelude.{◌≡◌, ◌≢◌, ℕ, ◌+◌, List, [], Option, Some, None}
use Rattle.wsyntax.specs.Modules.{ModuleShape, BodyShape}
use Rattle.wsyntax.specs.declared.value.Value.{Value}
use Rattle.wsyntax.specs.Execution.Store.{Module, Store}
use Rattle.wsyntax.specs.Execution.Ends as meant
use Rattle.wsyntax.specs.Execution.Ends.{Ends}
use Rattle.wsyntax.specs.Execution.Start.{InstanceOf, fresh_store}
use Rattle.wsyntax.specs.Texts.Answer.{Limits, Started, EndsOn}
use Rattle.wsyntax.specs.Outcomes.{outcome_of}
use Rattle.wsyntax.specs.declared.outcome.Outcome.{Outcome}

-- 4.5.4 the start function was run, where there is one: it left store s and some fuel; or it ended otherwise than in no values
abbrev pub StartEnds : ModuleShape → Module → Limits → Store → ℕ → Option Outcome → Type 0
StartEnds m i l s left None = (k : ℕ) × Started m i l s k × (l.fuel ≡ k + left)
StartEnds m i l s left (Some o) =
    (g : ℕ) × (k : ℕ) × (m.start ≡ Some g) × Ends i (fresh_store l.pages m) g [] l.fuel l.frames (outcome_of o) k s × (outcome_of o ≢ meant.Values []) × (l.fuel ≡ k + left)

-- the same on each instance of the module
abbrev pub StartEndsOnEach : ModuleShape → List BodyShape → Limits → Store → ℕ → Option Outcome → Type 0
StartEndsOnEach m bodies l s left end = (i : Module) → InstanceOf m bodies i → StartEnds m i l s left end

-- 4.5.4 the same, by the units of fuel that it took
abbrev pub StartsOnEach : ModuleShape → List BodyShape → Limits → Store → ℕ → Option Outcome → Type 0
StartsOnEach m bodies l s k end = (left : ℕ) × (k + left ≡ l.fuel) × StartEndsOnEach m bodies l s left end

-- it did not end in values
abbrev pub HasNoValues : meant.Outcome → Type 0
HasNoValues (meant.Values vs) = ⊥
HasNoValues (meant.Trapped k) = Unit {0}
HasNoValues meant.OutOfFuel = Unit {0}
HasNoValues meant.OutOfFrames = Unit {0}

-- 4.5.5 the call of function f ends so on each instance of the module, after the start function: with this outcome, and k units of fuel spent in all
abbrev pub EndsOnEach : ModuleShape → List BodyShape → Limits → ℕ → List Value → meant.Outcome → ℕ → Type 0
EndsOnEach m bodies l f args o k = (i : Module) → InstanceOf m bodies i → EndsOn m i l f args o k
