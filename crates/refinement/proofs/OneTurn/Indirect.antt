-- Turns of call_indirect: it enters the function of its entry, or traps, or finds no fuel or no frame.
use Rattle.std.proofs.Common.{◌≡◌, ℕ, ◌%◌, ◌^◌, Bool, true, false, cond, List, [], ◌∷◌, ◌++◌, Option, Some, None, refl, ap, ◌∙◌}
use Rattle.std.specs.Prelude.{slice_get}
use Rattle.std.proofs.Math.Nat.{mod-eq_of_lt}
use Rattle.wsyntax.specs.Types.{FuncType, same_func_type}
use Rattle.wsyntax.specs.Instructions.{Code}
use Rattle.wsyntax.specs.declared.value.Value.{Value}
use Rattle.wsyntax.specs.declared.value.Value.TheVariants.{I32 as V32}
use Rattle.wsyntax.specs.declared.value.Trap.TheVariants.{UndefinedElement, UninitializedElement, TypeMismatch}
use Rattle.wsyntax.specs.Execution.Store.{Function, Module, Entry, Unset, SetTo, Store}
use Rattle.wsyntax.specs.Execution.Step.{Work, Source, Invoke, Trap, Working, Next, Steps, on_some, or_trap, traps, enter_entry, act, source, next, step}
use Rattle.wsyntax.specs.Execution.Layers.{in_labels}
use Rattle.soundness.specs.State.{config_of, belows, frames_around}
use Rattle.soundness.specs.Slots.{slots}
use Rattle.refinement.specs.Machine.{Body, Program, module_of, fails, on_found, enters, enters_entry, takes}
use Rattle.refinement.specs.Joint.{Joint, activation, state_of, machine_of}
use Rattle.refinement.specs.Reduction.{ReductionLaws}
use Rattle.refinement.specs.Turns.{holding, AtIndirect, CallIndirectTurn, UndefinedEnds, UninitializedEnds, MismatchEnds, NoFuelAtIndirect, NoFramesAtIndirect}
use Rattle.refinement.proofs.OneTurn.Labels.{others}
use Rattle.refinement.proofs.OneTurn.Straight.{falling}
use Rattle.refinement.proofs.OneTurn.Calls.{body_at, invoking, entering, moves_in, without_fuel, without_frames}

-- The machine, and the step, at an entry.

-- the operands below the number
abbrev under : Joint → List ℕ
under j = slots ((j.running).held ++ belows (j.running).levels)

machine_at : (p : Program) (frames n y : ℕ) (j : Joint) (table : List Entry) (t : FuncType) (rest : Code) (entry : Option Entry) → AtIndirect p n y j table t rest → slice_get table n ≡ entry → takes p frames (machine_of (holding j n)) (slice_get (((j.running).body).filled).tokens (j.running).pc) ≡ enters_entry p frames (machine_of (holding j n)) (under j) t entry
machine_at p frames n y j table t rest entry a ee =
    let m = machine_of (holding j n) in
    ap (takes p frames m) a.token
    ∙ ap (λ o. on_found o (λ table. on_found (slice_get p.types y) (λ t. enters_entry p frames m (under j) t (slice_get table (n % 2 ^ 32))))) a.there
    ∙ ap (λ o. on_found o (λ t. enters_entry p frames m (under j) t (slice_get table (n % 2 ^ 32)))) a.sig
    ∙ ap (λ i. enters_entry p frames m (under j) t (slice_get table i)) (mod-eq_of_lt a.word)
    ∙ ap (enters_entry p frames m (under j) t) ee

-- what the step finds at an entry
abbrev found : Module → FuncType → Store → List Value → List Value → Code → Option Entry → Next
found m t s l vs rest entry = or_trap entry UndefinedElement s l vs rest (enter_entry m t s l vs rest)

next_at : (p : Program) (n y : ℕ) (j : Joint) (table : List Entry) (t : FuncType) (rest : Code) (entry : Option Entry) → AtIndirect p n y j table t rest → slice_get table n ≡ entry → next (module_of p) j.store (j.running).locals (Source (V32 n ∷ (j.running).held) (j.running).code) ≡ found (module_of p) t j.store (j.running).locals (j.running).held rest entry
unfolding next source act
next_at p n y j table t rest entry a ee =
    let s = j.store in
    let l = (j.running).locals in
    let vs = (j.running).held in
    ap (λ code. next (module_of p) s l (Source (V32 n ∷ vs) code)) a.code
    ∙ ap (λ o. on_some o (λ table. on_some (slice_get p.types y) (λ t. found (module_of p) t s l vs rest (slice_get table n)))) a.there
    ∙ ap (λ o. on_some o (λ t. found (module_of p) t s l vs rest (slice_get table n))) a.sig
    ∙ ap (found (module_of p) t s l vs rest) ee

-- at the function of an entry
found_function : (p : Program) (t : FuncType) (s : Store) (l vs : List Value) (rest : Code) (f : ℕ) (b : Body) (same : Bool) → slice_get p.bodies f ≡ Some b → same_func_type (b.function).func_type t ≡ same → found (module_of p) t s l vs rest (Some (SetTo f)) ≡ cond same (Steps Working s l (Invoke vs f rest)) (traps Working s l vs TypeMismatch rest)
found_function p t s l vs rest f b same eb es =
    ap (λ o. on_some o (λ (fn : Function). cond (same_func_type fn.func_type t) (Steps Working s l (Invoke vs f rest)) (traps Working s l vs TypeMismatch rest))) (body_at p.bodies f b eb)
    ∙ ap (λ c. cond c (Steps Working s l (Invoke vs f rest)) (traps Working s l vs TypeMismatch rest)) es

function_machine : (p : Program) (frames n : ℕ) (j : Joint) (t : FuncType) (f : ℕ) (b : Body) (same : Bool) → slice_get p.bodies f ≡ Some b → same_func_type (b.function).func_type t ≡ same → enters_entry p frames (machine_of (holding j n)) (under j) t (Some (SetTo f)) ≡ cond same (entering frames j b) (fails (machine_of j) TypeMismatch)
function_machine p frames n j t f b same eb es =
    ap (λ o. on_found o (λ (b : Body). cond (same_func_type (b.function).func_type t) (enters frames (machine_of (holding j n)) (under j) b) (fails (machine_of j) TypeMismatch))) eb
    ∙ ap (λ c. cond c (entering frames j b) (fails (machine_of j) TypeMismatch)) es

module _ (laws : ReductionLaws) where
  module _ (p : Program) (frames n y : ℕ) (j : Joint) (table : List Entry) (t : FuncType) (rest : Code) (a : AtIndirect p n y j table t rest) where
    -- the step at an entry is a step of the whole
    whole : (entry : Option Entry) (w : Work) → slice_get table n ≡ entry → found (module_of p) t j.store (j.running).locals (j.running).held rest entry ≡ Steps Working j.store (j.running).locals w → step (module_of p) (config_of (state_of (holding j n))) ≡ Steps Working j.store [] (frames_around (activation j.running).arity (j.running).locals (in_labels (j.running).levels w) (others j))
    whole entry w ee is =
        laws.steps_there (module_of p) j.store j.store (activation j.running) (others j) (Source (V32 n ∷ (j.running).held) (j.running).code) w (j.running).locals Working
        (next_at p n y j table t rest entry a ee ∙ is)

    module _ (f : ℕ) (b : Body) (ee : slice_get table n ≡ Some (SetTo f)) (eb : slice_get p.bodies f ≡ Some b) (es : same_func_type (b.function).func_type t ≡ true) where
      in_machine : takes p frames (machine_of (holding j n)) (slice_get (((j.running).body).filled).tokens (j.running).pc) ≡ entering frames j b
      in_machine = machine_at p frames n y j table t rest (Some (SetTo f)) a ee ∙ function_machine p frames n j t f b true eb es

      in_step : step (module_of p) (config_of (state_of (holding j n))) ≡ Steps Working j.store [] (invoking j f rest)
      in_step = whole (Some (SetTo f)) (Invoke (j.running).held f rest) ee (found_function p t j.store (j.running).locals (j.running).held rest f b true eb es)

  pub call_indirect_turn : CallIndirectTurn
  call_indirect_turn p frames left n y f j table t b rest a ee eb es le ef room =
      moves_in laws p frames f j b rest (V32 n ∷ (j.running).held) _ (in_machine p frames n y j table t rest a f b ee eb es) (in_step p frames n y j table t rest a f b ee eb es) eb le left ef room

  pub no_fuel_at_indirect : NoFuelAtIndirect
  no_fuel_at_indirect p frames n y f j table t b rest a ee eb es le ef =
      without_fuel laws p frames f j b rest (V32 n ∷ (j.running).held) _ (in_machine p frames n y j table t rest a f b ee eb es) (in_step p frames n y j table t rest a f b ee eb es) eb le ef

  pub no_frames_at_indirect : NoFramesAtIndirect
  no_frames_at_indirect p frames left n y f j table t b rest a ee eb es le ef full =
      without_frames laws p frames f j b rest (V32 n ∷ (j.running).held) _ (in_machine p frames n y j table t rest a f b ee eb es) (in_step p frames n y j table t rest a f b ee eb es) eb le left ef full

  pub undefined_ends : UndefinedEnds
  undefined_ends p frames n y j table t rest a ee =
      falling laws p frames (holding j n) Working (j.running).held UndefinedElement rest _ (machine_at p frames n y j table t rest None a ee) refl
      (whole p frames n y j table t rest a None (Trap (j.running).held UndefinedElement rest) ee refl)

  pub uninitialized_ends : UninitializedEnds
  uninitialized_ends p frames n y j table t rest a ee =
      falling laws p frames (holding j n) Working (j.running).held UninitializedElement rest _ (machine_at p frames n y j table t rest (Some Unset) a ee) refl
      (whole p frames n y j table t rest a (Some Unset) (Trap (j.running).held UninitializedElement rest) ee refl)

  pub mismatch_ends : MismatchEnds
  mismatch_ends p frames n y f j table t b rest a ee eb es =
      falling laws p frames (holding j n) Working (j.running).held TypeMismatch rest _ (machine_at p frames n y j table t rest (Some (SetTo f)) a ee ∙ function_machine p frames n j t f b false eb es) refl
      (whole p frames n y j table t rest a (Some (SetTo f)) (Trap (j.running).held TypeMismatch rest) ee (found_function p t j.store (j.running).locals (j.running).held rest f b false eb es))
