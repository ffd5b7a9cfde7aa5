-- local.tee is two steps of the configuration and one turn of the machine.
use Rattle.std.proofs.Common.{◌≡◌, ℕ, List, [], ◌∷◌, ◌++◌, map, refl, sym, ap, subst, arith}
use Rattle.std.specs.Prelude.{Some, slice_get}
use Rattle.wsyntax.specs.declared.types.ValType.{ValType}
use Rattle.wsyntax.specs.Instructions.{LocalSet, LocalTee, Code, Plain}
use Rattle.wsyntax.specs.Validation.Context.{Stack, Context}
use Rattle.wsyntax.specs.Execution.Values.{type_of, types}
use Rattle.wsyntax.specs.declared.value.Value.{Value}
use Rattle.wsyntax.specs.Execution.Step.{Source, Quiet, Steps, act, source, next, step}
use Rattle.wsyntax.specs.Execution.Chain.{Within}
use Rattle.wsyntax.specs.Execution.ConfigTyped.{ValuesTyped, ModuleTyped, StoreTyped}
use Rattle.soundness.specs.State.{config_of, work_of, belows}
use Rattle.soundness.specs.Slots.{slots, slot_store, Effect, Puts, Fails, Off, effect}
use Rattle.refinement.specs.Machine.{Program, module_of, takes, takes_effect}
use Rattle.refinement.specs.Joint.{Joint, activation, state_of, machine_of}
use Rattle.refinement.specs.Reduction.{ReductionLaws}
use Rattle.refinement.specs.Turns.{Turned, TeeTurn}
use Rattle.refinement.proofs.OneTurn.Straight.{turned}

-- the same with these values at the innermost level
abbrev pub with_held : Joint → List Value → Joint
with_held j vs = record j { running = record (j.running) { held = vs } }

-- the same before this code
abbrev before : Joint → List Value → Code → Joint
before j vs code = record j { running = record (j.running) { held = vs; code = code } }

-- a turn after one uncharged step that changes operands and code alone
first : (p : Program) (frames : ℕ) (C : Context) (z : Stack) (rest code : Code) (j : Joint) (vs : List Value) → step (module_of p) (config_of (state_of j)) ≡ Steps Quiet j.store [] (work_of (activation (before j vs code).running) (map activation j.waiting)) → (eff : Effect) → Turned p frames C z rest (before j vs code) (takes_effect (machine_of (before j vs code)) eff) → Turned p frames C z rest j (takes_effect (machine_of j) eff)
first p frames C z rest code j vs is (Puts S L ns) h = (
  h.0,
  h.1,
  h.2,
  Quiet ∷ h.3,
  h.4,
  Within.after {spare = j.fuel} {d = config_of (state_of (before j vs code))} is (omega arith) (λ q. absurd cc) h.5,
  omega (arith, h.6),
  h.7,
  h.8,
  h.9,
)
first p frames C z rest code j vs is (Fails t) h = (
  Quiet ∷ h.0,
  h.1,
  h.2,
  Within.after {spare = j.fuel} {d = config_of (state_of (before j vs code))} is (omega arith) (λ q. absurd cc) h.3,
  omega (arith, h.4),
)
first p frames C z rest code j vs is Off h = absurd h

module _ (laws : ReductionLaws) where
  twice_step : (p : Program) (j : Joint) (x : ℕ) (rest : Code) (v : Value) (vs : List Value) → (j.running).code ≡ Plain (LocalTee x) rest → step (module_of p) (config_of (state_of (with_held j (v ∷ vs)))) ≡ Steps Quiet j.store [] (work_of (activation (before j (v ∷ v ∷ vs) (Plain (LocalSet x) rest)).running) (map activation j.waiting))
  unfolding next source act
  twice_step p j x rest v vs ec =
      laws.steps_there (module_of p) j.store j.store (activation j.running) (map activation j.waiting) (Source (v ∷ vs) (j.running).code) (Source (v ∷ v ∷ vs) (Plain (LocalSet x) rest)) (j.running).locals Quiet
      (ap (λ code. next (module_of p) j.store (j.running).locals (Source (v ∷ vs) code)) ec)

  tee_of : (p : Program) (frames : ℕ) (C : Context) (j : Joint) (x : ℕ) (rest : Code) (t : ValType) (c : Stack) (vs : List Value) → ModuleTyped C (module_of p) → StoreTyped C j.store → ValuesTyped (j.running).locals C.locals → (j.running).code ≡ Plain (LocalTee x) rest → slice_get C.locals x ≡ Some t → ValuesTyped vs (t ∷ c) → Turned p frames C (t ∷ c) rest (with_held j vs) (takes_effect (machine_of (with_held j vs)) (effect (LocalTee x) (slot_store j.store) (slots (j.running).locals) (slots (vs ++ belows (j.running).levels))))
  tee_of p frames C j x rest t c [] mt st lt ec ex h =
      let e = h.typed in
      absurd cc
  tee_of p frames C j x rest t c (v ∷ vs) mt st lt ec ex h =
      let e : type_of v ∷ types vs ≡ t ∷ c = h.typed in
      let top : type_of v ≡ t = cc in
      first p frames C (t ∷ c) rest (Plain (LocalSet x) rest) (with_held j (v ∷ vs)) (v ∷ v ∷ vs) (twice_step p j x rest v vs ec) _
      (turned laws p frames C (before j (v ∷ v ∷ vs) (Plain (LocalSet x) rest)) (LocalSet x) rest (t ∷ []) [] (t ∷ c) mt st lt refl tt tt (t, ex, refl, refl)
      (record { typed = λ k. top k ∷ e k; words = ((h.words).0, h.words) }))

  pub tee_turn : TeeTurn
  tee_turn p frames C j x rest a z c mt st lt ec et h e =
      let to : a ++ c ≡ h.0 ∷ c = ap (λ a. a ++ c) h.2 in
      let from : z ++ c ≡ h.0 ∷ c = ap (λ z. z ++ c) h.3 in
      subst (λ o. Turned p frames C (z ++ c) rest j (takes p frames (machine_of j) o)) (sym et)
      (subst (λ z. Turned p frames C z rest j (takes_effect (machine_of j) (effect (LocalTee x) (slot_store j.store) (slots (j.running).locals) (slots ((j.running).held ++ belows (j.running).levels))))) (sym from)
      (tee_of p frames C j x rest h.0 c (j.running).held mt st lt ec h.1 (subst (ValuesTyped (j.running).held) to e)))
