-- 5.5.2 and 3.4 What is known of a module once its head is decoded and keeps the early rules.
use Rattle.std.specs.Prelude.{◌≡◌, ◌↔◌, ◌<◌, ◌≤◌, ℕ, List, length}
use Rattle.std.proofs.Common.{refl, ap, subst, arith, inl, inr}
use Rattle.std.proofs.lemmas.Bool.{cases_lt}
use Rattle.wsyntax.specs.Modules.{ModuleShape, DataShape, module_shape}
use Rattle.wsyntax.specs.Binary.Production.{Agrees}
use Rattle.wsyntax.specs.Binary.Sections.{body}
use Rattle.wsyntax.specs.Binary.Shell.{Shell, module_limit}
use Rattle.wsyntax.specs.Validation.Laws.{AcceptedIsTyped, RefusedAtFirstFault}
use Rattle.wsyntax.specs.Validation.Rules.{Keeps, NoneBroken, LeastBroken}
use Rattle.wsyntax.specs.Validation.Verdict.{IsModule}
use Rattle.wcontext.specs.declared.space_sizes.SpaceSizes.{SpaceSizes}
use Rattle.wcontext.specs.Counted.{AreCountsOf}
use Rattle.wcontext.specs.declared.fault.ModuleFault.{ModuleFault}
use Rattle.wcontext.specs.declared.fault.ModuleFault.TheVariants as rules
use Rattle.wdecode.specs.declared.front.ModuleHead.{ModuleHead}
use Rattle.wdecode.specs.Fronts.{EndsFront, with_segments}
use Rattle.refusal.specs.declared.refusal.Refusal.{Refusal}
use Rattle.refusal.specs.declared.refusal.Refusal.TheVariants.{TooLarge, Malformed, Rule, Body, Memory}

-- the module whose front it is: the same, with the data segments that end it
abbrev pub IsWhole : ModuleHead → ModuleShape → Type 0
IsWhole f m = (segments : List DataShape) × EndsFront f segments × (m ≡ with_segments (module_shape f.«module») segments)

-- there is one at most
abbrev pub UniqueWhole : ModuleHead → Type 0
UniqueWhole f = (m n : ModuleShape) → IsWhole f m → IsWhole f n → m ≡ n

-- the bytes are no more than a module may have, and spell the whole of that front and no other; and the laws by which its bodies are judged
pub record Decoded (bytes : List ℕ) (f : ModuleHead) : Type 0 where
  pub small : length bytes ≤ module_limit
  pub whole : (m : ModuleShape) → Shell bytes m ↔ IsWhole f m
  pub one : UniqueWhole f
  pub reads : Agrees body
  pub typed : AcceptedIsTyped
  pub faults : RefusedAtFirstFault

-- what is known before the rest is judged: the early rules are kept, and these are the module's counts
pub record EarlyRulesHold (f : ModuleHead) (c : SpaceSizes) : Type 0 where
  pub counted : AreCountsOf (module_shape f.«module») c
  pub early : (k : ℕ) → k < 9 → Keeps (module_shape f.«module») k

-- the same of the head of the module of these bytes
pub record IsHead (bytes : List ℕ) (f : ModuleHead) (c : SpaceSizes) : Type 0 where
  pub decoded : Decoded bytes f
  pub early_hold : EarlyRulesHold f c

-- ---- the rest

-- it is a module, and keeps all rules
abbrev pub RestPasses : ModuleHead → Type 0
RestPasses f = (m : ModuleShape) × IsWhole f m × NoneBroken m

-- it is none, or that is the least rule that it breaks
abbrev pub RestRefused : ModuleHead → Refusal → Type 0
RestRefused f Malformed = (m : ModuleShape) → IsWhole f m → ⊥
RestRefused f (Rule k) = (m : ModuleShape) × IsWhole f m × LeastBroken m k
RestRefused f TooLarge = ⊥
RestRefused f (Body func c) = ⊥
RestRefused f Memory = ⊥

-- where an early rule is broken: that of the rule, or, since that goes before, that the front is that of no module
abbrev pub IsEarlyRefusal : ModuleHead → ModuleFault → Refusal → Type 0
IsEarlyRefusal f e Malformed = RestRefused f Malformed
IsEarlyRefusal f e (Rule k) = (e ≡ rules.Rule k) × (m : ModuleShape) × IsWhole f m
IsEarlyRefusal f e Memory = Unit {0}
IsEarlyRefusal f e TooLarge = ⊥
IsEarlyRefusal f e (Body func c) = ⊥

-- what is known of a module that keeps all rules: the bytes spell it; and the laws by which its bodies are judged
pub record Known (bytes : List ℕ) (m : ModuleShape) : Type 0 where
  pub whole : IsModule bytes m
  pub rules : NoneBroken m
  pub reads : Agrees body
  pub typed : AcceptedIsTyped
  pub faults : RefusedAtFirstFault

-- ---- no rest both passes and is refused, nor is refused for two reasons

kept : (f : ModuleHead) (k : ℕ) → UniqueWhole f → RestPasses f → RestRefused f (Rule k) → ⊥
kept f k one p r = r.2.broken (subst (λ (m : ModuleShape). Keeps m k) (one p.0 r.0 p.1 r.1) (p.2 k))

pub rest_passes_or_refused : (f : ModuleHead) (r : Refusal) → UniqueWhole f → RestPasses f → RestRefused f r → ⊥
rest_passes_or_refused f Malformed one p r = r p.0 p.1
rest_passes_or_refused f (Rule k) one p r = kept f k one p r
rest_passes_or_refused f TooLarge one p r = r
rest_passes_or_refused f (Body func c) one p r = r
rest_passes_or_refused f Memory one p r = r

not_sooner : (f : ModuleHead) (j k : ℕ) → UniqueWhole f → RestRefused f (Rule j) → RestRefused f (Rule k) → j < k → ⊥
not_sooner f j k one r s lt = r.2.broken (subst (λ (m : ModuleShape). Keeps m j) (one s.0 r.0 s.1 r.1) (s.2.before j lt))

pub one_rest : (f : ModuleHead) (r s : Refusal) → UniqueWhole f → RestRefused f r → RestRefused f s → r ≡ s
one_rest f TooLarge t one r s = absurd r
one_rest f (Body func c) t one r s = absurd r
one_rest f Memory t one r s = absurd r
one_rest f Malformed TooLarge one r s = absurd s
one_rest f Malformed (Body func c) one r s = absurd s
one_rest f Malformed Memory one r s = absurd s
one_rest f Malformed Malformed one r s = refl
one_rest f Malformed (Rule k) one r s = absurd (r s.0 s.1)
one_rest f (Rule j) TooLarge one r s = absurd s
one_rest f (Rule j) (Body func c) one r s = absurd s
one_rest f (Rule j) Memory one r s = absurd s
one_rest f (Rule j) Malformed one r s = absurd (s r.0 r.1)
one_rest f (Rule j) (Rule k) one r s =
    elim (cases_lt j k) [
      | inl h ↦ absurd (not_sooner f j k one r s h)
      | inr h ↦ elim (cases_lt k j) [ inl l ↦ absurd (not_sooner f k j one s r l) | inr l ↦ ap Rule (let same : j ≡ k = omega arith in same) ]
    ]
