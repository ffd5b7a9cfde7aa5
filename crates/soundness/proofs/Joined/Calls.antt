-- Calls on an instance of a judged module are typed: so they are never stuck, they end, and in values of their types.
use Rattle.std.proofs.Common.{◌≡◌, ℕ, ◌+◌, List, [], ◌∷◌, Option, Some, None, refl, ap, ◌∙◌, subst, arith}
use Rattle.std.specs.Prelude.{slice_get, option_map, unwrap_or}
use Rattle.std.proofs.lemmas.Option.{slice_get-map}
use Rattle.wsyntax.specs.Types.{FuncType}
use Rattle.wsyntax.specs.Modules.{ModuleShape, BodyShape}
use Rattle.wsyntax.specs.Validation.ModuleContext.{functions_of, type_at, empty_type, module_context}
use Rattle.wsyntax.specs.Validation.Rules.{NoneBroken, StartsPlainly}
use Rattle.wsyntax.specs.declared.value.Value.{Value}
use Rattle.wsyntax.specs.Execution.Store.{Module, Store}
use Rattle.wsyntax.specs.Execution.Ends.{Outcome, Values, Trapped, OutOfFuel, OutOfFrames, Ends, start}
use Rattle.wsyntax.specs.Execution.ConfigTyped.{ValuesTyped, ModuleTyped, StoreTyped}
use Rattle.wsyntax.specs.Execution.Laws.{CallTyped}
use Rattle.wsyntax.specs.Execution.Start.{fresh_store}
use Rattle.wsyntax.specs.Texts.Answer.{Limits, Started, plainly, by_start, EndsOn, in_start, in_call}
use Rattle.soundness.specs.Instances.{Instantiated, StartIsPlain, CallsTyped, CallsAreSafe}
use Rattle.soundness.proofs.Chapter4.Stacks.{no_values}
use Rattle.soundness.proofs.Chapter4.Chains.{never_stuck, results_typed, store_kept, paid}
use Rattle.soundness.proofs.Chapter4.Weight.{end_exists}
use Rattle.soundness.proofs.Joined.Functions.{one_instance}
use Rattle.soundness.proofs.Joined.Fresh.{starts_typed}

-- The start function.

start_type : (m : ModuleShape) (f : ℕ) → NoneBroken m → m.start ≡ Some f → slice_get (module_context m).functions f ≡ Some empty_type
start_type m f h e =
    let plain : StartsPlainly m = h 11 in
    let t = plain f e in
    slice_get-map (type_at m.types) (functions_of m) f ∙ ap (option_map (type_at m.types)) t.1 ∙ ap (λ o. Some (unwrap_or o empty_type)) t.2

no_results : (vs : List Value) → ValuesTyped vs [] → vs ≡ []
no_results [] h = refl
no_results (v ∷ vs) h = let e = h.typed in absurd cc

module_typed : (m : ModuleShape) (bodies : List BodyShape) (pages : ℕ) (i : Module) → Instantiated m bodies pages i → ModuleTyped (module_context m) i
module_typed m bodies pages i h =
    one_instance.typed m bodies i (starts_typed.runnable m bodies pages h.judged h.not_refused) h.instance

fresh_call : (m : ModuleShape) (bodies : List BodyShape) (pages : ℕ) (i : Module) (f : ℕ) (args : List Value) (sig : FuncType) → Instantiated m bodies pages i → slice_get (module_context m).functions f ≡ Some sig → ValuesTyped args sig.params → CallTyped (module_context m) i (fresh_store pages m) f args sig
fresh_call m bodies pages i f args sig h e a = record {
  typed_module = module_typed m bodies pages i h;
  typed_store = starts_typed.store m bodies pages h.judged h.bytes h.not_refused;
  function = e;
  arguments = a;
}

start_call : (m : ModuleShape) (bodies : List BodyShape) (pages : ℕ) (i : Module) (f : ℕ) → Instantiated m bodies pages i → m.start ≡ Some f → CallTyped (module_context m) i (fresh_store pages m) f [] empty_type
start_call m bodies pages i f h e =
    fresh_call m bodies pages i f [] empty_type h (start_type m f h.judged.unbroken e) no_values

start_values : (m : ModuleShape) (bodies : List BodyShape) (pages : ℕ) (i : Module) (f fuel frames k : ℕ) (vs : List Value) (s : Store) → Instantiated m bodies pages i → m.start ≡ Some f → Ends i (fresh_store pages m) f [] fuel frames (Values vs) k s → vs ≡ []
start_values m bodies pages i f fuel frames k vs s h e ends =
    no_results vs (results_typed (module_context m) i (fresh_store pages m) f [] empty_type (start_call m bodies pages i f h e) fuel frames k vs s ends)

pub start_is_plain : StartIsPlain
start_is_plain = record { typed = start_type; no_values = start_values }

-- Calls.

started_store : (m : ModuleShape) (bodies : List BodyShape) (l : Limits) (i : Module) (s : Store) (k : ℕ) → Instantiated m bodies l.pages i → Started m i l s k → StoreTyped (module_context m) s
started_store m bodies l i s k h (plainly e) = starts_typed.store m bodies l.pages h.judged h.bytes h.not_refused
started_store m bodies l i s k h (by_start {f = f} e ends) =
    store_kept (module_context m) i (fresh_store l.pages m) f [] empty_type (start_call m bodies l.pages i f h e) l.fuel l.frames k (Values []) s ends

started_call : (m : ModuleShape) (bodies : List BodyShape) (l : Limits) (i : Module) (s : Store) (k f : ℕ) (args : List Value) (sig : FuncType) → Instantiated m bodies l.pages i → Started m i l s k → slice_get (module_context m).functions f ≡ Some sig → ValuesTyped args sig.params → CallTyped (module_context m) i s f args sig
started_call m bodies l i s k f args sig h st e a = record {
  typed_module = module_typed m bodies l.pages i h;
  typed_store = started_store m bodies l i s k h st;
  function = e;
  arguments = a;
}

pub calls_typed : CallsTyped
calls_typed = record { on_fresh = fresh_call; on_started = started_call }

-- How they end.

-- a call after the start
call_ends : (m : ModuleShape) (bodies : List BodyShape) (l : Limits) (i : Module) (s : Store) (k left f : ℕ) (args : List Value) (sig : FuncType) → Instantiated m bodies l.pages i → Started m i l s k → l.fuel ≡ k + left → slice_get (module_context m).functions f ≡ Some sig → ValuesTyped args sig.params → (o : Outcome) × (n : ℕ) × EndsOn m i l f args o n
call_ends m bodies l i s k left f args sig h st p e a =
    let r = end_exists (module_context m) i s f args sig (started_call m bodies l i s k f args sig h st e a) left l.frames in
    (r.0, k + r.1, in_call st p r.3)

-- what the start function ends in decides
after_start : (m : ModuleShape) (bodies : List BodyShape) (l : Limits) (i : Module) (g f : ℕ) (args : List Value) (sig : FuncType) → Instantiated m bodies l.pages i → m.start ≡ Some g → slice_get (module_context m).functions f ≡ Some sig → ValuesTyped args sig.params → (o : Outcome) (k : ℕ) (s : Store) → Ends i (fresh_store l.pages m) g [] l.fuel l.frames o k s → (o : Outcome) × (n : ℕ) × EndsOn m i l f args o n
after_start m bodies l i g f args sig h eg e a (Values vs) k s ends =
    let none = start_values m bodies l.pages i g l.fuel l.frames k vs s h eg ends in
    let plain = subst (λ vs. Ends i (fresh_store l.pages m) g [] l.fuel l.frames (Values vs) k s) none ends in
    let fuel = paid i l.frames l.fuel ends.left (start (fresh_store l.pages m) g []) ends.last ends.kinds ends.chain in
    call_ends m bodies l i s k ends.left f args sig h (by_start eg plain) (omega (arith, fuel, ends.count)) e a
after_start m bodies l i g f args sig h eg e a (Trapped t) k s ends = (Trapped t, k, in_start eg ends (λ q. absurd cc))
after_start m bodies l i g f args sig h eg e a OutOfFuel k s ends = (OutOfFuel, k, in_start eg ends (λ q. absurd cc))
after_start m bodies l i g f args sig h eg e a OutOfFrames k s ends = (OutOfFrames, k, in_start eg ends (λ q. absurd cc))

any_start : (m : ModuleShape) (bodies : List BodyShape) (l : Limits) (i : Module) (f : ℕ) (args : List Value) (sig : FuncType) → Instantiated m bodies l.pages i → slice_get (module_context m).functions f ≡ Some sig → ValuesTyped args sig.params → (o : Option ℕ) → m.start ≡ o → (o : Outcome) × (n : ℕ) × EndsOn m i l f args o n
any_start m bodies l i f args sig h e a None es = call_ends m bodies l i (fresh_store l.pages m) 0 l.fuel f args sig h (plainly es) (omega arith) e a
any_start m bodies l i f args sig h e a (Some g) es =
    let r = end_exists (module_context m) i (fresh_store l.pages m) g [] empty_type (start_call m bodies l.pages i g h es) l.fuel l.frames in
    after_start m bodies l i g f args sig h es e a r.0 r.1 r.2 r.3

results : (m : ModuleShape) (bodies : List BodyShape) (l : Limits) (i : Module) (f k : ℕ) (args vs : List Value) (sig : FuncType) → Instantiated m bodies l.pages i → slice_get (module_context m).functions f ≡ Some sig → ValuesTyped args sig.params → EndsOn m i l f args (Values vs) k → ValuesTyped vs sig.results
results m bodies l i f k args vs sig h e a (in_start {g = g} {s = s} eg ends other) =
    absurd (other (ap Values (start_values m bodies l.pages i g l.fuel l.frames k vs s h eg ends)))
results m bodies l i f k' args vs sig h e a (in_call {k = k} {n = n} {left = left} {s = s} {after = after} st p ends) =
    results_typed (module_context m) i s f args sig (started_call m bodies l i s k f args sig h st e a) left l.frames n vs after ends

pub calls_are_safe : CallsAreSafe
calls_are_safe = record {
  never_stuck = λ m bodies l i s k f args sig h st e a kinds c chain. (never_stuck (module_context m) i s f args sig (started_call m bodies l i s k f args sig h st e a) kinds c chain).1;
  ends = λ m bodies l i f args sig h e a. any_start m bodies l i f args sig h e a m.start refl;
  results = results;
}
