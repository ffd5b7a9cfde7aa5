-- What holds of every module, every store and every chain.
use Rattle.std.specs.Prelude.{◌⊎◌, [], ◌≡◌, ℕ, ◌+◌, List, ◌++◌, Some, slice_get, map}
use Rattle.wsyntax.specs.Types.{FuncType}
use Rattle.wsyntax.specs.Instructions.{Stop, flat_body}
use Rattle.wsyntax.specs.Validation.Context.{Stack, leave, Context}
use Rattle.wsyntax.specs.Validation.Algorithm.{alg, Accepted}
use Rattle.wsyntax.specs.Execution.Values.{TrapKind, Value}
use Rattle.wsyntax.specs.Execution.Store.{Function, Module, Store}
use Rattle.wsyntax.specs.Execution.Step.{Source, Trap, Config, Kind}
use Rattle.wsyntax.specs.Execution.Chain.{Step, Chain, Within, charged, worked}
use Rattle.wsyntax.specs.Execution.Ends.{Outcome, Values, Ends, IsStuck, start}
use Rattle.wsyntax.specs.Execution.Run.{Over, run}
use Rattle.wsyntax.specs.Execution.ConfigTyped.{IntegerCode, AreIntegers, ValuesTyped, ModuleTyped, StoreTyped, ConfigTyped}

-- a configuration makes at most one step
abbrev pub OneStep : Type 0
OneStep = (m : Module) (c d d' : Config) (kind kind' : Kind) → Step m c kind d → Step m c kind' d' → (kind ≡ kind') × (d ≡ d')

-- 7.5 preservation: a step keeps the type
abbrev pub Preservation : Type 0
Preservation = (C : Context) (m : Module) (c d : Config) (kind : Kind) (r : Stack) → ModuleTyped C m → ConfigTyped C c r → Step m c kind d → ConfigTyped C d r

-- 7.5 progress: a typed configuration is not stuck
abbrev pub Progress : Type 0
Progress = (C : Context) (m : Module) (c : Config) (r : Stack) → ModuleTyped C m → ConfigTyped C c r → IsStuck m c → ⊥

-- 7.5 the same as a choice: a typed configuration makes a step, or is values alone, or a trap alone
abbrev pub OneOfThree : Type 0
OneOfThree = (C : Context) (m : Module) (c : Config) (r : Stack) → ModuleTyped C m → ConfigTyped C c r → ((kind : Kind) × (d : Config) × Step m c kind d) ⊎ (((vs : List Value) × (c.work ≡ Source vs Stop)) ⊎ ((trap : TrapKind) × (c.work ≡ Trap [] trap Stop)))

-- a call of a function of a typed module, on a typed store, with arguments of its type
pub record CallTyped (C : Context) (m : Module) (s : Store) (f : ℕ) (args : List Value) (sig : FuncType) : Type 0 where
  pub typed_module : ModuleTyped C m
  pub typed_store : StoreTyped C s
  pub function : slice_get C.functions f ≡ Some sig
  pub arguments : ValuesTyped args sig.params

-- every configuration that any chain from a call reaches is typed and not stuck
abbrev pub NeverStuck : Type 0
NeverStuck = (C : Context) (m : Module) (s : Store) (f : ℕ) (args : List Value) (sig : FuncType) → CallTyped C m s f args sig → (kinds : List Kind) (c : Config) → Chain m (start s f args) kinds c → ConfigTyped C c (leave sig) × (IsStuck m c → ⊥)

-- a call that ends in values ends in values of the function's result type
abbrev pub ResultsTyped : Type 0
ResultsTyped = (C : Context) (m : Module) (s : Store) (f : ℕ) (args : List Value) (sig : FuncType) → CallTyped C m s f args sig → (fuel frames k : ℕ) (vs : List Value) (s' : Store) → Ends m s f args fuel frames (Values vs) k s' → ValuesTyped vs sig.results

-- a call leaves a typed store, however it ends
abbrev pub StoreKept : Type 0
StoreKept = (C : Context) (m : Module) (s : Store) (f : ℕ) (args : List Value) (sig : FuncType) → CallTyped C m s f args sig → (fuel frames k : ℕ) (o : Outcome) (s' : Store) → Ends m s f args fuel frames o k s' → StoreTyped C s'

-- a call ends in one way, with one number of charges and one store
abbrev pub OneEnd : Type 0
OneEnd = (m : Module) (s : Store) (f : ℕ) (args : List Value) (fuel frames : ℕ) (o o' : Outcome) (k k' : ℕ) (s' s'' : Store) → Ends m s f args fuel frames o k s' → Ends m s f args fuel frames o' k' s'' → (o ≡ o') × (k ≡ k') × (s' ≡ s'')

-- within limits, what is charged and what is left are the fuel
abbrev pub Paid : Type 0
Paid = (m : Module) (frames fuel left : ℕ) (c d : Config) (kinds : List Kind) → Within m frames fuel c kinds d left → fuel ≡ charged kinds + left

-- what is computed is so: the run is a chain within the limits to such an end
abbrev pub Computed : Type 0
Computed = (m : Module) (s : Store) (f : ℕ) (args : List Value) (fuel frames n : ℕ) (o : Outcome) (left : ℕ) (last : Config) → run m frames n fuel (start s f args) ≡ Over o left last → (k : ℕ) × (fuel ≡ k + left) × Ends m s f args fuel frames o k last.store

-- one run after another is a run
abbrev pub Joins : Type 0
Joins = (m : Module) (frames fuel mid left : ℕ) (c d e : Config) (kinds more : List Kind) → Within m frames fuel c kinds d mid → Within m frames mid d more e left → Within m frames fuel c (kinds ++ more) e left

-- what is charged and what is work add up
abbrev pub CountsAdd : Type 0
CountsAdd = (kinds more : List Kind) → (charged (kinds ++ more) ≡ charged kinds + charged more) × (worked (kinds ++ more) ≡ worked kinds + worked more)

-- what the algorithm and the test for floats leave of a module: each body is accepted under its own locals
pub record Checked (C : Context) (m : Module) : Type 0 where
  pub same_types : m.types ≡ C.types
  pub same_functions : map (λ (fn : Function). fn.func_type) m.functions ≡ C.functions
  pub accepted : (f : ℕ) (fn : Function) → slice_get m.functions f ≡ Some fn → alg (record C { locals = fn.func_type.params ++ fn.locals }) (leave fn.func_type) (flat_body fn.body) ≡ Accepted
  pub integer : (f : ℕ) (fn : Function) → slice_get m.functions f ≡ Some fn → IntegerCode fn.body × AreIntegers fn.locals

-- what the algorithm accepts is a typed module, and so never stuck
abbrev pub CheckedIsTyped : Type 0
CheckedIsTyped = (C : Context) (m : Module) → Checked C m → ModuleTyped C m
