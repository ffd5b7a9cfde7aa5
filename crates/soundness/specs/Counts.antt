-- What is charged and what is work, on runs of the sample.
use Rattle.std.specs.Prelude.{◌≡◌, ℕ, zero, suc, List, [], ◌∷◌}
use Rattle.wsyntax.specs.declared.value.Value.TheVariants.{I32 as V32}
use Rattle.wsyntax.specs.Execution.Store.{Module}
use Rattle.wsyntax.specs.Execution.Step.{Config, Kind, Looping, Entering, Working, Quiet, Next, Steps, Breaks, Returns, Finished, Trapped, Traps, Stuck, step}
use Rattle.wsyntax.specs.Execution.Chain.{charged, worked}
use Rattle.wsyntax.specs.Execution.Ends.{start}
use Rattle.soundness.specs.Samples.{sample, little}

-- the kind of the step, and those that follow
abbrev pub kinds_on : (Config → List Kind) → Next → List Kind
kinds_on go (Steps kind s l w) = kind ∷ go (record { store = s; locals = l; work = w })
kinds_on go (Breaks x vs) = []
kinds_on go (Returns vs) = []
kinds_on go (Finished vs) = []
kinds_on go (Trapped trap) = []
kinds_on go (Traps trap) = []
kinds_on go Stuck = []

-- the kinds of at most n steps
abbrev pub kinds_of : Module → ℕ → Config → List Kind
kinds_of m zero c = []
kinds_of m (suc n) c = kinds_on (kinds_of m n) (step m c)

-- invoke, loop; local.get, i32.const, i32.sub, local.tee, local.set, br_if; the loop's end; local.get; the ends of label and frame
pub record CountExamples : Type 0 where
  pub of_one_turn : kinds_of sample 100 (start little 0 (V32 1 ∷ [])) ≡ Entering ∷ Looping ∷ Working ∷ Quiet ∷ Working ∷ Quiet ∷ Working ∷ Quiet ∷ Quiet ∷ Working ∷ Quiet ∷ Quiet ∷ []
  -- two entries and two turns
  pub charges : charged (kinds_of sample 100 (start little 1 (V32 2 ∷ []))) ≡ 4
  -- local.get and call; twice local.get, i32.sub and local.set; local.get; i32.add and return
  pub work : worked (kinds_of sample 100 (start little 1 (V32 2 ∷ []))) ≡ 11
  -- a division that traps is work, the falling trap is not
  pub work_of_trap : worked (kinds_of sample 100 (start little 2 (V32 1 ∷ V32 0 ∷ []))) ≡ 3
