-- Validation and execution together: the run-time module of a module that was judged, its fresh store, its start function and its calls.
use Rattle.std.specs.Prelude.{◌≡◌, ℕ, ◌<◌, List, [], false, Some, None, length, slice_get, All}
use Rattle.wsyntax.specs.Types.{FuncType}
use Rattle.wsyntax.specs.Instructions.{Code, flat_body}
use Rattle.wsyntax.specs.Modules.{ModuleShape, BodyShape}
use Rattle.wsyntax.specs.Validation.Typing.{BodyTyped}
use Rattle.wsyntax.specs.Validation.ModuleContext.{module_context, function_context, empty_type}
use Rattle.wsyntax.specs.Validation.Rules.{NoneBroken}
use Rattle.wsyntax.specs.Validation.Verdict.{function_at, result_of}
use Rattle.wsyntax.specs.declared.value.Value.{Value}
use Rattle.wsyntax.specs.Execution.Store.{Module, Store}
use Rattle.wsyntax.specs.Execution.Step.{Config, Kind}
use Rattle.wsyntax.specs.Execution.Chain.{Chain}
use Rattle.wsyntax.specs.Execution.Ends.{Outcome, Values, Ends, IsStuck, start}
use Rattle.wsyntax.specs.Execution.Allocation.{LayoutTyped}
use Rattle.wsyntax.specs.Execution.ConfigTyped.{ValuesTyped, ModuleTyped, StoreTyped}
use Rattle.wsyntax.specs.Execution.Laws.{CallTyped}
use Rattle.wsyntax.specs.Execution.Start.{has_floats, layout_of, start_refusal, InstanceOf, fresh_store}
use Rattle.wsyntax.specs.Texts.Answer.{Limits, Started, EndsOn}

-- What was judged.

-- the body at that position is typed: its tokens are those of a tree, which is typed under the context of its function
pub record TypedAt (m : ModuleShape) (position : ℕ) (b : BodyShape) : Type 0 where
  pub code : Code
  pub tree : flat_body code ≡ b.code
  pub typed : BodyTyped (function_context (module_context m) (function_at m position) b.runs) (result_of (module_context m) (function_at m position)) code

-- a module that was judged and accepted: no rule is broken, and each function has its body, which is typed
pub record Judged (m : ModuleShape) (bodies : List BodyShape) : Type 0 where
  pub unbroken : NoneBroken m
  pub count : length m.functions ≡ length bodies
  pub bodies_typed : (position : ℕ) (b : BodyShape) → slice_get bodies position ≡ Some b → TypedAt m position b

-- and that may be run: nothing is imported, no float is mentioned
pub record Runnable (m : ModuleShape) (bodies : List BodyShape) : Type 0 where
  pub judged : Judged m bodies
  pub no_imports : m.imports ≡ []
  pub no_floats : has_floats m bodies ≡ false

-- Instances.

-- a judged module without imports and floats has one run-time module, which is typed
pub record OneInstance : Type 0 where
  pub exists : (m : ModuleShape) (bodies : List BodyShape) → Judged m bodies → (i : Module) × InstanceOf m bodies i
  pub same : (m : ModuleShape) (bodies : List BodyShape) (i j : Module) → InstanceOf m bodies i → InstanceOf m bodies j → i ≡ j
  pub typed : (m : ModuleShape) (bodies : List BodyShape) (i : Module) → Runnable m bodies → InstanceOf m bodies i → ModuleTyped (module_context m) i

-- the bytes of data segments are bytes
abbrev pub SegmentsAreBytes : ModuleShape → Type 0
SegmentsAreBytes m = All (λ d. All (λ b. b < 256) d.bytes) m.segments

-- an instance of a module that was judged and that is not refused
pub record Instantiated (m : ModuleShape) (bodies : List BodyShape) (pages : ℕ) (i : Module) : Type 0 where
  pub judged : Judged m bodies
  pub bytes : SegmentsAreBytes m
  pub not_refused : start_refusal pages m bodies ≡ None
  pub instance : InstanceOf m bodies i

-- where nothing refuses the start, the module may be run, and its layout and its fresh store are typed
pub record StartsTyped : Type 0 where
  pub runnable : (m : ModuleShape) (bodies : List BodyShape) (pages : ℕ) → Judged m bodies → start_refusal pages m bodies ≡ None → Runnable m bodies
  pub layout : (m : ModuleShape) (bodies : List BodyShape) (pages : ℕ) → Judged m bodies → SegmentsAreBytes m → start_refusal pages m bodies ≡ None → LayoutTyped (module_context m) pages (layout_of m)
  pub store : (m : ModuleShape) (bodies : List BodyShape) (pages : ℕ) → Judged m bodies → SegmentsAreBytes m → start_refusal pages m bodies ≡ None → StoreTyped (module_context m) (fresh_store pages m)

-- The start function.

-- the start function has no parameters and no results, so it ends in no values
pub record StartIsPlain : Type 0 where
  pub typed : (m : ModuleShape) (f : ℕ) → NoneBroken m → m.start ≡ Some f → slice_get (module_context m).functions f ≡ Some empty_type
  pub no_values : (m : ModuleShape) (bodies : List BodyShape) (pages : ℕ) (i : Module) (f fuel frames k : ℕ) (vs : List Value) (s : Store) → Instantiated m bodies pages i → m.start ≡ Some f → Ends i (fresh_store pages m) f [] fuel frames (Values vs) k s → vs ≡ []

-- Calls.

-- a call with arguments of the function's type is typed, on the fresh store and on the one that the start function leaves
pub record CallsTyped : Type 0 where
  pub on_fresh : (m : ModuleShape) (bodies : List BodyShape) (pages : ℕ) (i : Module) (f : ℕ) (args : List Value) (sig : FuncType) → Instantiated m bodies pages i → slice_get (module_context m).functions f ≡ Some sig → ValuesTyped args sig.params → CallTyped (module_context m) i (fresh_store pages m) f args sig
  pub on_started : (m : ModuleShape) (bodies : List BodyShape) (l : Limits) (i : Module) (s : Store) (k f : ℕ) (args : List Value) (sig : FuncType) → Instantiated m bodies l.pages i → Started m i l s k → slice_get (module_context m).functions f ≡ Some sig → ValuesTyped args sig.params → CallTyped (module_context m) i s f args sig

-- such a call is never stuck, it ends, and where it ends in values they are of the function's result types
pub record CallsAreSafe : Type 0 where
  pub never_stuck : (m : ModuleShape) (bodies : List BodyShape) (l : Limits) (i : Module) (s : Store) (k f : ℕ) (args : List Value) (sig : FuncType) → Instantiated m bodies l.pages i → Started m i l s k → slice_get (module_context m).functions f ≡ Some sig → ValuesTyped args sig.params → (kinds : List Kind) (c : Config) → Chain i (start s f args) kinds c → IsStuck i c → ⊥
  pub ends : (m : ModuleShape) (bodies : List BodyShape) (l : Limits) (i : Module) (f : ℕ) (args : List Value) (sig : FuncType) → Instantiated m bodies l.pages i → slice_get (module_context m).functions f ≡ Some sig → ValuesTyped args sig.params → (o : Outcome) × (k : ℕ) × EndsOn m i l f args o k
  pub results : (m : ModuleShape) (bodies : List BodyShape) (l : Limits) (i : Module) (f k : ℕ) (args vs : List Value) (sig : FuncType) → Instantiated m bodies l.pages i → slice_get (module_context m).functions f ≡ Some sig → ValuesTyped args sig.params → EndsOn m i l f args (Values vs) k → ValuesTyped vs sig.results
