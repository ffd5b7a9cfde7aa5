-- What is safe in an answer: no call of it is ever stuck, and the values that it tells are of the declared types.
use Rattle.std.specs.Prelude.{◌≡◌, ℕ, Bool, IsTrue, List, [], ◌∷◌, Some, None, slice_get}
use Rattle.wsyntax.specs.Types.{FuncType}
use Rattle.wsyntax.specs.Modules.{ModuleShape, BodyShape}
use Rattle.wsyntax.specs.Binary.Shell.{Spells}
use Rattle.wsyntax.specs.Validation.Verdict.{Accepted, IsVerdict}
use Rattle.wsyntax.specs.declared.value.Value.{Value}
use Rattle.wsyntax.specs.Execution.Store.{Module, Store}
use Rattle.wsyntax.specs.Execution.Step.{Config, Kind}
use Rattle.wsyntax.specs.Execution.Chain.{Chain}
use Rattle.wsyntax.specs.Execution.ConfigTyped.{ValuesTyped}
use Rattle.wsyntax.specs.Execution.Ends.{Values, IsStuck, start}
use Rattle.wsyntax.specs.Execution.Start.{InstanceOf, start_refusal, fresh_store}
use Rattle.wsyntax.specs.Texts.Calls.{Call, Good, IsCalls}
use Rattle.wsyntax.specs.Texts.Report.{CallEnd, Ran}
use Rattle.wsyntax.specs.Texts.Answer.{Limits, Names, Started, EndsOf}
use Rattle.batch.specs.Ends.{IsCallee}

-- ---- no call is ever stuck

-- a call that is run: the bytes are accepted and spell this module, the text says the call, which names function f and has arguments of
-- the types of its parameters, nothing refuses the start of an instance, and this is one
pub record IsRun (bytes text : List ℕ) (l : Limits) (m : ModuleShape) (i : Module) (c : Call) (f : ℕ) : Type 0 where
  pub accepted : IsVerdict bytes Accepted
  pub bodies : List BodyShape
  pub spelled : Spells bytes m bodies
  pub calls : List Call
  pub read : IsCalls text (Good calls)
  pub position : ℕ
  pub said : slice_get calls position ≡ Some c
  pub callee : IsCallee m c f
  pub not_refused : start_refusal l.pages m bodies ≡ None
  pub instance : InstanceOf m bodies i

-- 7.5 no configuration that a chain from this call on this store reaches is stuck
abbrev pub NoneStuck : Module → Store → ℕ → List Value → Type 0
NoneStuck i s f args = (kinds : List Kind) (c : Config) → Chain i (start s f args) kinds c → IsStuck i c → ⊥

-- of no call that is run: not where its start function is run on the fresh store, and not where it is run on the store that the start
-- function leaves
pub record NeverStuck (bytes text : List ℕ) (l : Limits) : Type 0 where
  pub in_start : (m : ModuleShape) (i : Module) (c : Call) (f g : ℕ) → IsRun bytes text l m i c f → m.start ≡ Some g → NoneStuck i (fresh_store l.pages m) g []
  pub in_call : (m : ModuleShape) (i : Module) (c : Call) (f : ℕ) (s : Store) (k : ℕ) → IsRun bytes text l m i c f → Started m i l s k → NoneStuck i s f c.args

-- ---- values are of the declared types

-- where the call ends in values, they are of the result types of the function that it names
abbrev pub GivesTyped : ModuleShape → Call → CallEnd → Type 0
GivesTyped m c (Ran (Values vs) k) = (f : ℕ) × (sig : FuncType) × Names m c f sig × ValuesTyped vs sig.results
GivesTyped m c _ = Unit {0}

-- of each call
abbrev pub EachGivesTyped : ModuleShape → List Call → List CallEnd → Type 0
EachGivesTyped m [] [] = Unit {0}
EachGivesTyped m (c ∷ cs) (e ∷ es) = GivesTyped m c e × EachGivesTyped m cs es
EachGivesTyped m _ _ = ⊥

-- whatever ends an answer tells (`IsSomeAnswer`), whichever calls ran out of memory
abbrev pub ValuesAreTyped : List ℕ → List ℕ → Limits → Type 0
ValuesAreTyped bytes text l =
    (m : ModuleShape) (bodies : List BodyShape) (calls : List Call) (ends : List CallEnd) (short : ℕ → Bool)
    → IsVerdict bytes Accepted → Spells bytes m bodies → IsCalls text (Good calls) → EndsOf m bodies l (λ n. IsTrue (short n)) 0 calls ends → EachGivesTyped m calls ends

-- ---- both

-- what holds of the answer to any text of calls on any bytes
pub record IsSafe (bytes text : List ℕ) (l : Limits) : Type 0 where
  pub never_stuck : NeverStuck bytes text l
  pub typed : ValuesAreTyped bytes text l
