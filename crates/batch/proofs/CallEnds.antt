-- How a call of a batch ends.
use Rattle.std.proofs.Common.{◌≡◌, ℕ, ◌<◌, Bool, IsTrue, true, false, List, Option, Some, None, length, refl, sym, subst, get_or}
use Rattle.std.specs.Prelude.{slice_get}
use Rattle.std.proofs.lemmas.List.{length-map}
use Rattle.std.proofs.lemmas.Option.{slice_get-get_or}
use Rattle.std.proofs.lemmas.List.Elements.{All-contains}
use Rattle.std.proofs.Math.Logic.{∥∥₁_elim, ∥∥₁_map}
use Rattle.wsyntax.specs.Types.{FuncType}
use Rattle.wsyntax.specs.declared.value.Value.{Value}
use Rattle.wsyntax.specs.declared.module.ExportKind.TheVariants.{Function}
use Rattle.wsyntax.specs.Modules.{ModuleShape, BodyShape, ExportShape}
use Rattle.wsyntax.specs.Validation.Context.{Context}
use Rattle.wsyntax.specs.Validation.ModuleContext.{module_context, functions_of, empty_type}
use Rattle.wsyntax.specs.Validation.Rules.{NoneBroken, count_of}
use Rattle.wsyntax.specs.Execution.Values.{types}
use Rattle.wsyntax.specs.Execution.Store.{Module}
use Rattle.wsyntax.specs.Execution.Start.{InstanceOf}
use Rattle.wsyntax.specs.Texts.Calls.{Call}
use Rattle.wsyntax.specs.Texts.Answer.{Limits, Names, EndOf, misfit, not_started, no_memory, ran}
use Rattle.soundness.specs.Instances.{Judged}
use Rattle.accepted_module.specs.Exports.{IsExported}
use Rattle.wmachine.specs.Calls.{HasParams}
use Rattle.batch_text.specs.Ends.{end_of}
use Rattle.batch_text.specs.declared.line.Line.{Line}
use Rattle.batch_text.specs.declared.line.Line.TheVariants as line
use Rattle.batch.specs.Ends.{EndsAlone, IsCallee, is_short}

-- ---- the function that is called

false_true : IsTrue false → ⊥
false_true t = cc

none_and_some : {A : Type 0} (found : Option A) (x : A) → found ≡ None → found ≡ Some x → ⊥
none_and_some found x a b = cc

-- an exported function is there
exported_within : (m : ModuleShape) (name : List ℕ) (f : ℕ) → NoneBroken m → IsExported m name Function f → f < length (module_context m).functions
exported_within m name f none e =
    let exists : f < length (functions_of m) = All-contains (λ (x : ExportShape). x.index < count_of m x.kind) m.exports (record { item_name = name; kind = Function; index = f }) (none 9) e in
    rw length-map exists

past : (fs : List FuncType) (f : ℕ) → f < length fs → slice_get fs f ≡ None → ⊥
past fs f h e = none_and_some (slice_get fs f) (get_or fs f empty_type) e (slice_get-get_or fs f empty_type h)

-- so it has a type
typed_at : (found : Option FuncType) (fs : List FuncType) (f : ℕ) → slice_get fs f ≡ found → ∥ f < length fs ∥₁ → (sig : FuncType) × (slice_get fs f ≡ Some sig)
typed_at None fs f e h = absurd (∥∥₁_elim h (λ a b. absurd a) (λ (x : f < length fs). past fs f x e))
typed_at (Some sig) fs f e h = (sig, e)

pub exported_names : (m : ModuleShape) (bodies : List BodyShape) (c : Call) (f : ℕ) → ∥ Judged m bodies ∥₁ → IsExported m c.name Function f → (sig : FuncType) × Names m c f sig
exported_names m bodies c f judged e =
    let within = ∥∥₁_map judged (λ (j : Judged m bodies). exported_within m c.name f j.unbroken e) in
    let (sig, typed) = typed_at (slice_get (module_context m).functions f) (module_context m).functions f refl within in
    (sig, record { exported = e; typed = typed })

-- arguments that do not fit
pub refused_arguments : (m : ModuleShape) (bodies : List BodyShape) (c : Call) (f : ℕ) → ∥ Judged m bodies ∥₁ → IsExported m c.name Function f → (HasParams (module_context m) f c.args → ⊥)
    → (l : Limits) → EndOf m bodies l (IsTrue (is_short (Some line.BadArguments))) c (end_of line.BadArguments)
refused_arguments m bodies c f judged e misfits l =
    let (sig, names) = exported_names m bodies c f judged e in
    misfit names (λ (same : types c.args ≡ sig.params). misfits (record { sig = sig; function = names.typed; params = same }))

-- the test says no, or yes
pub fits_no : (C : Context) (f : ℕ) (given args : List Value) (b : Bool) → given ≡ args → b ≡ false → (HasParams C f given → IsTrue b) → HasParams C f args → ⊥
fits_no C f given args b same is_false h p = false_true (subst IsTrue is_false (h (subst (HasParams C f) (sym same) p)))

pub fits_yes : (C : Context) (f : ℕ) (given args : List Value) (b : Bool) → given ≡ args → b ≡ true → (IsTrue b → HasParams C f given) → HasParams C f args
fits_yes C f given args b same is_true h = subst (HasParams C f) same (h is_true)

-- arguments that fit
pub callee_of : (m : ModuleShape) (c : Call) (f : ℕ) → IsExported m c.name Function f → HasParams (module_context m) f c.args → IsCallee m c f
callee_of m c f e h = (h.sig, record { exported = e; typed = h.function }, h.params)

-- ---- its end

-- the end alone is that of the call
pub alone_end : (m : ModuleShape) (bodies : List BodyShape) (l : Limits) (c : Call) (f : ℕ) (i : Module) («end» : Line) → IsCallee m c f → InstanceOf m bodies i → EndsAlone m bodies l f c.args «end»
    → EndOf m bodies l (IsTrue (is_short (Some end))) c (end_of end)
alone_end m bodies l c f i (line.NotStarted r) (sig, names, same) inst h = not_started names same h
alone_end m bodies l c f i line.NoMemory (sig, names, same) inst h = no_memory names same h refl
alone_end m bodies l c f i (line.Ran o k) (sig, names, same) inst h = ran names same h.0 (λ (t : IsTrue false). false_true t) inst (h.1 i inst)
alone_end m bodies l c f i line.NoExport callee inst h = absurd h
alone_end m bodies l c f i line.NotAFunction callee inst h = absurd h
alone_end m bodies l c f i line.BadArguments callee inst h = absurd h
