-- From what is known of all bodies to the verdict on the module.
use Rattle.std.proofs.Common.{◌≡◌, ℕ, ◌+◌, ◌<◌, List, length, Option, Some, None, refl, sym, ap, subst, ◌∙◌, get_or, ◌≤◌, arith, inl, inr}
use Rattle.std.specs.Prelude.{slice_get, IfSome, Result, Ok, Err, MatchResult, IsErrOf, IsErrAnd, ◌↔◌}
use Rattle.wdecode.specs.declared.fault.DecodeFault.{DecodeFault}
use Rattle.wdecode.specs.declared.fault.DecodeFault.TheVariants as decoding
use Rattle.wcontext.specs.declared.fault.ModuleFault.{ModuleFault}
use Rattle.wcontext.specs.declared.fault.ModuleFault.TheVariants as rules
use Rattle.pieces.specs.TryAll.{AllPass}
use Rattle.std.proofs.lemmas.Option.{slice_get-get_or, slice_get_cases}
use Rattle.wsyntax.specs.Modules.{ModuleShape}
use Rattle.wsyntax.specs.Binary.Shell.{Shell, module_limit}
use Rattle.wsyntax.specs.Validation.Context.{Context}
use Rattle.wsyntax.specs.Validation.ModuleContext.{module_context, imported_functions, IndexedContext, indexed_context}
use Rattle.wsyntax.specs.Validation.Rules.{LeastBroken}
use Rattle.wsyntax.specs.Validation.Verdict.{IsModule, IsVerdict, Accepted, AcceptedBefore, FirstRefused}
use Rattle.refusal.specs.declared.refusal.BodyRefusal.{BodyRefusal}
use Rattle.refusal.specs.declared.refusal.Refusal.{Refusal}
use Rattle.refusal.specs.declared.refusal.Refusal.TheVariants.{TooLarge, Malformed, Rule, Body, Memory}
use Rattle.verdict.specs.Heads.{Known}
use Rattle.verdict.specs.Judged.{body_refusal_of, given_refusal, body_refusal_at, PassBefore, IsFirstBody}
use Rattle.refusal.specs.Refusals.{fault_of, verdict_of, of_decoding, of_rules}
use Rattle.verdict.proofs.Sizes.{functions_fit}
use Rattle.verdict.proofs.Bodies.{accepted_where_none, refused_where_some}

-- the refusal of the bytes that stand at that position
at_position : (C : Context) (imported : ℕ) (bodies : List (List ℕ)) (position : ℕ) (bytes : List ℕ) (o : Option BodyRefusal) → slice_get bodies position ≡ Some bytes → body_refusal_at C imported bodies position ≡ o → body_refusal_of C (imported + position) bytes ≡ o
at_position C imported bodies position bytes o is e = sym (ap (given_refusal C (imported + position)) is) ∙ e

accepted_before : (bytes : List ℕ) (m : ModuleShape) (position : ℕ) → Known bytes m → PassBefore (module_context m) (length (imported_functions m)) m.bodies position → AcceptedBefore m position
accepted_before bytes m position k before j b lt is = accepted_where_none k.reads k.typed _ _ b (at_position _ _ m.bodies j b None is (before j lt))

all_accepted : (bytes : List ℕ) (m : ModuleShape) → Known bytes m → PassBefore (module_context m) (length (imported_functions m)) m.bodies (length m.bodies) → IsVerdict bytes Accepted
unfolding IsVerdict
all_accepted bytes m k before = (m, k.whole, k.rules, accepted_before bytes m (length m.bodies) k before)

first_refused : (bytes : List ℕ) (m : ModuleShape) (f : ℕ) (c : BodyRefusal) (position : ℕ) → Known bytes m → position < length m.bodies → f ≡ length (imported_functions m) + position → body_refusal_at (module_context m) (length (imported_functions m)) m.bodies position ≡ Some c → PassBefore (module_context m) (length (imported_functions m)) m.bodies position → FirstRefused m f (fault_of c)
first_refused bytes m f c position k lt is e before =
    let b = get_or m.bodies position bytes in
    let stands : slice_get m.bodies position ≡ Some b = slice_get-get_or m.bodies position bytes lt in
    record {
      position = position;
      bytes = b;
      stands = stands;
      index = is;
      refused = refused_where_some k.reads k.faults (module_context m) f b c
          (ap (λ (x : ℕ). body_refusal_of (module_context m) x b) is ∙ at_position _ _ m.bodies position b (Some c) stands e);
      before = accepted_before bytes m position k before;
    }

body_refused : (bytes : List ℕ) (m : ModuleShape) (r : Refusal) → Known bytes m → IsFirstBody (module_context m) (length (imported_functions m)) m.bodies r → IfSome (verdict_of r) (IsVerdict bytes)
unfolding IsVerdict
body_refused bytes m (Body f c) k h = (m, k.whole, k.rules, first_refused bytes m f c h.0 k h.1 h.2 h.3 h.4)
body_refused bytes m Memory k h = tt
body_refused bytes m TooLarge k h = absurd h
body_refused bytes m Malformed k h = absurd h
body_refused bytes m (Rule n) k h = absurd h

-- ---- what the run over all indices tells

-- each index passes
pub each_passes : {O : Type 0} (passes : ℕ → Type 0) (gives : ℕ → O → Type 0) (n : ℕ) (outs : List O) → AllPass n passes gives outs → (k : ℕ) → k < n → passes k
each_passes passes gives n outs all k lt =
    elim (slice_get_cases outs k).1 [
      | inl h ↦ (all.each k h.0 h.2).0
      | inr h ↦ let len : length outs ≡ n = all.len in let past : length outs ≤ k = h.0 in absurd (omega arith)
    ]

-- ---- the verdicts of the judge

at_most : (a b : ℕ) → (a < b → ⊥) → b ≤ a
at_most a b never = omega (arith, never)

-- what is decoded is within the limit
pub within_limit : {T : Type 0} (bytes : List ℕ) (x : T) → (IsErrOf {T = T} (Ok x) decoding.TooLarge ↔ (module_limit < length bytes)) → length bytes ≤ module_limit
within_limit {T} bytes x large = at_most module_limit (length bytes) (λ lt. fault (large.1 lt))
  where
    fault : IsErrOf {T = T} (Ok x) decoding.TooLarge → ⊥
    fault e = cc

pub decoded : {T : Type 0} (bytes : List ℕ) (m : ModuleShape) (x : T) → Shell bytes m → (IsErrOf {T = T} (Ok x) decoding.TooLarge ↔ (module_limit < length bytes)) → IsModule bytes m
decoded bytes m x s large = record { small = within_limit bytes x large; shell = s }

-- a module that is not decoded
pub not_decoded : {T : Type 0} (bytes : List ℕ) (e : DecodeFault) → (IsErrOf {T = T} (Err e) decoding.Malformed → (m : ModuleShape) → Shell bytes m → ⊥) → (IsErrOf {T = T} (Err e) decoding.TooLarge ↔ (module_limit < length bytes)) → IfSome (verdict_of (of_decoding e)) (IsVerdict bytes)
unfolding IsVerdict
not_decoded bytes decoding.TooLarge malformed large = large.0 refl
not_decoded {T} bytes decoding.Malformed malformed large = (at_most module_limit (length bytes) (λ lt. other (large.1 lt)), malformed refl)
  where
    other : IsErrOf {T = T} (Err decoding.Malformed) decoding.TooLarge → ⊥
    other e = cc
not_decoded bytes decoding.Memory malformed large = tt

-- a module that breaks a rule
pub not_kept : (bytes : List ℕ) (m : ModuleShape) (e : ModuleFault) → IsModule bytes m → ((k : ℕ) → e ≡ rules.Rule k → LeastBroken m k) → IfSome (verdict_of (of_rules e)) (IsVerdict bytes)
unfolding IsVerdict
not_kept bytes m (rules.Rule k) whole broken = (m, whole, broken k refl)
not_kept bytes m rules.Memory whole broken = tt

-- the verdict is that of the bodies, where the rules are kept
pub judged : {T : Type 0} (bytes : List ℕ) (m : ModuleShape) (x : IndexedContext) (bodies : List (List ℕ)) (n : ℕ) (r : Result T Refusal) → Known bytes m → x ≡ indexed_context m → bodies ≡ m.bodies → n ≡ length m.bodies → MatchResult r (λ _. PassBefore x.context x.imported bodies n) (IsFirstBody x.context x.imported bodies) → MatchResult r (λ _. IsVerdict bytes Accepted) (λ r. IfSome (verdict_of r) (IsVerdict bytes))
judged bytes m x bodies n (Ok t) k is all count h =
    all_accepted bytes m k
    (subst (λ (x : IndexedContext). PassBefore x.context x.imported m.bodies (length m.bodies)) is
    (subst (λ (n : ℕ). PassBefore x.context x.imported m.bodies n) count
    (subst (λ (b : List (List ℕ)). PassBefore x.context x.imported b n) all h)))
judged bytes m x bodies n (Err r) k is all count h =
    body_refused bytes m r k
    (subst (λ (x : IndexedContext). IsFirstBody x.context x.imported m.bodies r) is
    (subst (λ (b : List (List ℕ)). IsFirstBody x.context x.imported b r) all h))

-- the verdict is that of the refusal
pub refused_so : {T : Type 0} (P : T → Type 0) (bytes : List ℕ) (r : Result T Refusal) (x : Refusal) → IsErrAnd r (λ y. y ≡ x) → IfSome (verdict_of x) (IsVerdict bytes) → MatchResult r P (λ y. IfSome (verdict_of y) (IsVerdict bytes))
refused_so P bytes (Ok t) x is h = absurd is
refused_so P bytes (Err y) x is h = subst (λ (z : Refusal). IfSome (verdict_of z) (IsVerdict bytes)) (sym is) h

-- the indices of all functions are numbers of 32 bits
pub indices_fit : (bytes : List ℕ) (m : ModuleShape) (x : IndexedContext) (n : ℕ) → IsModule bytes m → x ≡ indexed_context m → n ≡ length m.bodies → x.imported + n < 4294967296
indices_fit bytes m x n whole is count =
    let imported : x.imported ≡ length (imported_functions m) = ap (λ (x : IndexedContext). x.imported) is in
    let few : length (imported_functions m) + length m.bodies ≤ module_limit = functions_fit bytes m whole in
    omega arith
