-- What is done to an instance between its module and its handle.
use Rattle.std.proofs.Common.{◌≡◌, ℕ, Bool, true, false, List, map, Option, Some, None, option_map, IsSomeAnd, inl, inr, refl, sym, ap, ◌∙◌, subst}
use Rattle.std.specs.Prelude.{option_and_then}
use Rattle.wsyntax.specs.Modules.{module_shape}
use Rattle.wsyntax.specs.Validation.ModuleContext.{module_context}
use Rattle.wsyntax.specs.Validation.Context.{Context}
use Rattle.wsyntax.specs.Execution.Values.{AreWords}
use Rattle.wsyntax.specs.Execution.Store.{Memory, Store}
use Rattle.wsyntax.specs.Texts.Answer.{Limits}
use Rattle.wsyntax.specs.declared.module.ExportKind.{ExportKind}
use Rattle.wsyntax.specs.declared.types.GlobalType.{GlobalType}
use Rattle.wsyntax.specs.declared.value.Value.{Value}
use Rattle.soundness.specs.Slots.{SlotStore, all_tagged}
use Rattle.interpreter.specs.Seen.{seen}
use Rattle.interpreter.specs.declared.store.InstanceState.{InstanceState}
use Rattle.accepted_module.specs.declared.accepted.Accepted.{Accepted}
use Rattle.batch_text.specs.declared.line.Line.{Line}
use Rattle.wstore.specs.Bytes.{StorePuts, put_at}
use Rattle.wstore.specs.CallLimits as limits
use Rattle.wstore.specs.Detached.{IsDetached, store_as}
use Rattle.wstore.specs.ExportedGlobals.{IsGlobalOf}
use Rattle.wstore.specs.Held.{store_of}
use Rattle.wstore.specs.Views as views
use Rattle.wstore.specs.declared.detached.Detached.{Detached}
use Rattle.wstore.specs.declared.instance.Instance.{Instance}
use Rattle.wstore.specs.declared.settings.Settings.{Settings}
use Rattle.c_api.specs.Beginnings.{Begins, begun_fields}
use Rattle.c_api.specs.CallsOn.{EndsFound}
use Rattle.c_api.specs.Ends.{end_fields, values_of}
use Rattle.c_api.specs.Instances.{KeepsModule, AnswersWrite, AnswersGlobal, AnswersCallOn, store_in, memory_in, failed_in, module_of}
use Rattle.c_api.specs.Made.{IsMade, MakesInstance}
use Rattle.c_api.specs.Runs.{limits_of, in_range}
use Rattle.c_api.specs.Values.{value_fields, overlay}
use Rattle.c_api.specs.declared.ending.GateCall.{GateCall}
use Rattle.c_api.specs.declared.instance.InstanceSlot.{InstanceSlot}
use Rattle.c_api.specs.declared.live.Live.{Live}
use Rattle.c_api.specs.declared.settings.GateSettings.{GateSettings}
use Rattle.c_api.specs.declared.value.GateValue.{GateValue}
use Rattle.c_api.proofs.Instances.{store_same}

-- its store, where there is one
store_is : (l : Live) (d : Detached) → l.state ≡ Some d → store_in l ≡ Some (store_as l.accepted.value d)
store_is l d is = ap (option_map (store_as l.accepted.value)) is

memory_is : (l : Live) (d : Detached) → l.state ≡ Some d → memory_in l ≡ (seen d.parts).memory
memory_is l d is = ap (λ (o : Option Detached). option_and_then (λ (s : Store). s.memory) (option_map (store_as l.accepted.value) o)) is

failed_is : (l : Live) (d : Detached) → l.state ≡ Some d → failed_in l ≡ Some d.failed
failed_is l d is = ap (option_map (λ (x : Detached). x.failed)) is

-- as an instance of the module before
store_then : (old new : Live) (e : Detached) → KeepsModule old new → new.state ≡ Some e → store_in new ≡ Some (store_as old.accepted.value e)
store_then old new e keeps is = store_is new e is ∙ ap (λ (a : Accepted). Some (store_as a e)) keeps.0

-- what was noted of calls stays
failed_then : (old new : Live) (d e : Detached) → old.state ≡ Some d → new.state ≡ Some e → e.failed ≡ d.failed → failed_in new ≡ failed_in old
failed_then old new d e was is same = failed_is new e is ∙ ap (λ (b : Bool). Some b) same ∙ sym (failed_is old d was)

-- what was written through an instance was written to its parts
parts_put : (i j : Instance) (d e : Detached) (at : ℕ) (bytes : List ℕ) (done : Bool) → d.parts ≡ i.parts → e.parts ≡ j.parts
    → StorePuts (seen i.parts) at bytes done (seen j.parts) → StorePuts (seen d.parts) at bytes done (seen e.parts)
parts_put i j d e at bytes done p q h =
    subst (λ (x : InstanceState). StorePuts (seen x) at bytes done (seen e.parts)) (sym p) (subst (λ (y : InstanceState). StorePuts (seen i.parts) at bytes done (seen y)) (sym q) h)

-- bytes that are written
pub puts : (old new : Live) (i j : Instance) (d e : Detached) (at : ℕ) (bytes : List ℕ) → old.state ≡ Some d → new.state ≡ Some e → KeepsModule old new
    → IsDetached i d → IsDetached j e → j.failed ≡ i.failed → StorePuts (seen i.parts) at bytes true (seen j.parts) → AnswersWrite old at bytes new 0
puts old new i j d e at bytes was is keeps from to failed h =
    let a = old.accepted.value in
    let C : Context = module_context (module_shape a.«module») in
    let put : StorePuts (seen d.parts) at bytes true (seen e.parts) = parts_put i j d e at bytes true from.0 to.0 h in
    inl (
      refl,
      (
        store_as a d,
        store_as a e,
        store_is old d was,
        store_then old new e keeps is,
        put.0,
        put.1,
        put.2,
        ap (all_tagged (map (λ (g : GlobalType). g.val_type) C.globals)) put.3,
      ),
      keeps,
      failed_then old new d e was is (to.2 ∙ failed ∙ sym from.2),
    )

-- bytes that do not lie there
pub misses : (old new : Live) (i j : Instance) (d e : Detached) (at : ℕ) (bytes : List ℕ) → old.state ≡ Some d → new.state ≡ Some e → KeepsModule old new
    → IsDetached i d → IsDetached j e → j.failed ≡ i.failed → StorePuts (seen i.parts) at bytes false (seen j.parts) → AnswersWrite old at bytes new 80
misses old new i j d e at bytes was is keeps from to failed h =
    let a = old.accepted.value in
    let put : StorePuts (seen d.parts) at bytes false (seen e.parts) = parts_put i j d e at bytes false from.0 to.0 h in
    inr (
      refl,
      ap (λ (m : Option Memory). put_at m at bytes) (memory_is old d was) ∙ put.0,
      (
        keeps,
        store_then old new e keeps is ∙ ap (λ (s : SlotStore). Some (store_of (module_context (module_shape a.«module»)) s)) put.1 ∙ sym (store_is old d was),
        failed_then old new d e was is (to.2 ∙ failed ∙ sym from.2),
      ),
    )

-- what an instance says of a global
global_in : (l : Live) (i : Instance) (d : Detached) (name : List ℕ) (r : Option Value) → i.accepted.now ≡ l.accepted.value → d.parts ≡ i.parts
    → IsGlobalOf (views.module_in i) (views.store_in i) name r → IsGlobalOf (module_of l) (store_as l.accepted.value d) name r
global_in l i d name r of parts h =
    subst (λ (x : Accepted). IsGlobalOf (module_shape x.«module») (store_as l.accepted.value d) name r) of
    (subst (λ (s : Store). IsGlobalOf (views.module_in i) s name r) (store_same l.accepted.value i d of parts) h)

-- a global that is found
pub found : (l : Live) (i : Instance) (d : Detached) (name : List ℕ) (v : Value) (old new : GateValue) → l.state ≡ Some d → i.accepted.now ≡ l.accepted.value → d.parts ≡ i.parts
    → IsGlobalOf (views.module_in i) (views.store_in i) name (Some v) → new ≡ value_fields v → AnswersGlobal l name old new 0
found l i d name v old new is of parts h e = inl (refl, (store_as l.accepted.value d, v, store_is l d is, global_in l i d name (Some v) of parts h, e))

-- one that is not
pub lacks : (l : Live) (i : Instance) (d : Detached) (name : List ℕ) (old : GateValue) → i.accepted.now ≡ l.accepted.value → d.parts ≡ i.parts
    → IsGlobalOf (views.module_in i) (views.store_in i) name None → AnswersGlobal l name old old 82
lacks l i d name old of parts h = inr (refl, refl, λ (s : Store) (is : store_in l ≡ Some s). global_in l i d name None of parts h)

-- a call that is made
pub called_on : (old new : Live) (found : Option (ExportKind × ℕ)) (numbers : List GateValue) (s : GateSettings) (before after : List GateValue) (was ended : GateCall) (line : Line) (args : List Value)
    (i j : Instance) (d e : Detached) (l : Limits) → in_range s ≡ true → l ≡ limits_of s → AreWords args → map value_fields args ≡ numbers
    → old.state ≡ Some d → new.state ≡ Some e → KeepsModule old new → i.accepted.now ≡ old.accepted.value → IsDetached i d → j.accepted.now ≡ i.accepted.now → IsDetached j e
    → EndsFound i.accepted.now l found args (views.store_in i) i.failed line (views.store_in j) j.failed
    → ended ≡ end_fields line → after ≡ overlay (values_of line) before → AnswersCallOn old found numbers s before after was ended new 0
called_on old new found numbers s before after was ended line args i j d e l range within words same there here keeps of from still to ends told written =
    let a = old.accepted.value in
    let E : Accepted → Limits → Store → Bool → Store → Bool → Type 0 = λ x y t b t' b'. EndsFound x y found args t b line t' b' in
    let h₁ : E a l (views.store_in i) i.failed (views.store_in j) j.failed = subst (λ (x : Accepted). E x l (views.store_in i) i.failed (views.store_in j) j.failed) of ends in
    let h₂ : E a (limits_of s) (views.store_in i) i.failed (views.store_in j) j.failed = subst (λ (y : Limits). E a y (views.store_in i) i.failed (views.store_in j) j.failed) within h₁ in
    let h₃ : E a (limits_of s) (store_as a d) i.failed (views.store_in j) j.failed = subst (λ (t : Store). E a (limits_of s) t i.failed (views.store_in j) j.failed) (store_same a i d of from.0) h₂ in
    let h₄ : E a (limits_of s) (store_as a d) d.failed (views.store_in j) j.failed = subst (λ (b : Bool). E a (limits_of s) (store_as a d) b (views.store_in j) j.failed) (sym from.2) h₃ in
    let h₅ : E a (limits_of s) (store_as a d) d.failed (store_as a e) j.failed = subst (λ (t : Store). E a (limits_of s) (store_as a d) d.failed t j.failed) (store_same a j e (still ∙ of) to.0) h₄ in
    let h₆ : E a (limits_of s) (store_as a d) d.failed (store_as a e) e.failed = subst (λ (b : Bool). E a (limits_of s) (store_as a d) d.failed (store_as a e) b) (sym to.2) h₅ in
    inr (inr (refl, range, (line, (args, d, e, words, same, there, here, h₆), told, written), keeps))

-- an instance that is made
pub made : (a : Accepted) (s : GateSettings) (old new : InstanceSlot) (was ended : GateCall) (l : Settings) (live : Live) (d : Detached) (k : ℕ) → in_range s ≡ true → limits.limits_of l ≡ limits_of s
    → live.accepted.value ≡ a → live.settings ≡ l → live.state ≡ Some d → Begins a (limits.limits_of l) d k → new.value ≡ Some live → ended ≡ begun_fields k → MakesInstance a s old new was ended 0
made a s old new was ended l live d k range within of set is begins given told =
    let kept : IsMade a s k live = (of, ap limits.limits_of set ∙ within, d, is, subst (λ (x : Limits). Begins a x d k) within begins) in
    inr (inr (refl, range, k, subst (λ (o : Option Live). IsSomeAnd o (IsMade a s k)) (sym given) kept, told))
