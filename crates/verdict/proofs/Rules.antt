-- From what judging found of the bodies of a module that keeps all rules to the verdict on it.
use Rattle.std.proofs.Common.{Bor, ◌≡◌, ℕ, ◌+◌, ◌<◌, ◌≤◌, List, length, map, get_or, Some, Vec, Global, sym, ap, subst, ◌∙◌, arith}
use Rattle.std.specs.Prelude.{Result, MatchResult, IfSome, All, slice_get}
use Rattle.std.proofs.lemmas.List.{length-map}
use Rattle.wsyntax.specs.declared.module.Module.{Module}
use Rattle.wsyntax.specs.Modules.{ModuleShape, module_shape}
use Rattle.wsyntax.specs.Binary.Shell.{Shell, module_limit}
use Rattle.wsyntax.specs.Validation.ModuleContext.{IndexedContext, indexed_context, module_context, imported_functions}
use Rattle.wsyntax.specs.Validation.Rules.{NoneBroken}
use Rattle.wsyntax.specs.Validation.Verdict.{IsVerdict, Accepted as accepted_verdict}
use Rattle.checked_body.specs.declared.body.CheckedBody.{CheckedBody}
use Rattle.accepted_module.specs.declared.accepted.Accepted.{Accepted}
use Rattle.accepted_module.specs.Judgement.{AreChecked, IsJudged}
use Rattle.accepted_module.specs.Small.{IsSmall}
use Rattle.accepted_module.specs.Kept.{IsAcceptedFrom}
use Rattle.refusal.specs.declared.refusal.Refusal.{Refusal}
use Rattle.verdict.specs.Judged.{PassBefore, IsFirstBody}
use Rattle.refusal.specs.Refusals.{verdict_of}
use Rattle.verdict.specs.Rules.{KeepsRules}
use Rattle.verdict.proofs.Firsts.{judged, indices_fit}
use Rattle.verdict.proofs.Groups.{bytes_there}
use Rattle.verdict.proofs.Parts.{each_has_type}
use Rattle.verdict.proofs.Sizes.{body_fits}
use Rattle.verdict.proofs.Smallness.{is_small}

-- ---- the bodies that are judged are those of the module

as_many : (m : Module) (bodies : List (Bor (List ℕ))) → bodies ≡ m.bodies.items → length bodies ≡ length (module_shape m).bodies
as_many m bodies same = ap length same ∙ sym (length-map _ _)

pub each_typed : (bytes : List ℕ) (m : Module) (x : IndexedContext) (bodies : List (Bor (List ℕ))) → KeepsRules bytes m x → bodies ≡ m.bodies.items → x.imported + length bodies ≡ length x.context.functions
each_typed bytes m x bodies keeps same =
    let count : length bodies ≡ length (module_shape m).bodies = as_many m bodies same in
    let each : x.imported + length (module_shape m).bodies ≡ length x.context.functions = each_has_type (module_shape m) x keeps.context keeps.known.whole.shell.paired in
    omega arith

pub few_functions : (bytes : List ℕ) (m : Module) (x : IndexedContext) (bodies : List (Bor (List ℕ))) → KeepsRules bytes m x → bodies ≡ m.bodies.items → x.imported + length bodies < 4294967296
few_functions bytes m x bodies keeps same = indices_fit bytes (module_shape m) x (length bodies) keeps.known.whole keeps.context (as_many m bodies same)

pub short_bodies : (bytes : List ℕ) (m : Module) (x : IndexedContext) (bodies : List (Bor (List ℕ))) → KeepsRules bytes m x → bodies ≡ m.bodies.items → All (λ b. length b.now < 2147483648) bodies
short_bodies bytes m x bodies keeps same k d lt =
    let b = (get_or bodies k d).now in
    let stands : slice_get (module_shape m).bodies k ≡ Some b = subst (λ (bs : List (List ℕ)). slice_get bs k ≡ Some b) (ap (map (λ b. b.now)) same) (bytes_there bodies k d lt) in
    let within : length b ≤ module_limit = body_fits bytes (module_shape m) k b keeps.known.whole stands in
    omega arith

-- ---- what judging them found

pub verdict_so : {T : Type 0} (bytes : List ℕ) (m : Module) (x : IndexedContext) (bodies : List (Bor (List ℕ))) (r : Result T Refusal) → KeepsRules bytes m x → bodies ≡ m.bodies.items
    → MatchResult r (λ _. PassBefore x.context x.imported (map (λ b. b.now) bodies) (length bodies)) (IsFirstBody x.context x.imported (map (λ b. b.now) bodies))
    → MatchResult r (λ _. IsVerdict bytes accepted_verdict) (λ r. IfSome (verdict_of r) (IsVerdict bytes))
verdict_so bytes m x bodies r keeps same found =
    judged bytes (module_shape m) x (map (λ b. b.now) bodies) (length bodies) r keeps.known keeps.context (ap (map (λ b. b.now)) same) (as_many m bodies same) found

-- the bodies were checked under the context that was made, and are those of the module
is_judged : (m : ModuleShape) (x : IndexedContext) (bodies : List (List ℕ)) (n : ℕ) (all : List CheckedBody) → NoneBroken m → x ≡ indexed_context m → length m.functions ≡ length m.bodies → bodies ≡ m.bodies → n ≡ length m.bodies → AreChecked x.context x.imported bodies n all → IsJudged m x all
is_judged m x bodies n all rules is paired same count checked =
    record {
      rules = rules;
      context = is;
      paired = paired;
      bodies = subst (λ (y : IndexedContext). AreChecked y.context y.imported m.bodies (length m.bodies) all) is
          (subst (λ (k : ℕ). AreChecked x.context x.imported m.bodies k all) count
          (subst (λ (bs : List (List ℕ)). AreChecked x.context x.imported bs n all) same checked));
    }

pub judged_so : (bytes : List ℕ) (m : Module) (x : IndexedContext) (bodies : List (Bor (List ℕ))) (all : List CheckedBody) → KeepsRules bytes m x → bodies ≡ m.bodies.items
    → AreChecked x.context x.imported (map (λ b. b.now) bodies) (length bodies) all → IsJudged (module_shape m) x all
judged_so bytes m x bodies all keeps same checked =
    is_judged (module_shape m) x (map (λ b. b.now) bodies) (length bodies) all keeps.known.rules keeps.context keeps.known.whole.shell.paired (ap (map (λ b. b.now)) same) (as_many m bodies same) checked

pub small_so : (bytes : List ℕ) (m : Module) (x : IndexedContext) (bodies : List (Bor (List ℕ))) (all : List CheckedBody) → KeepsRules bytes m x → bodies ≡ m.bodies.items
    → AreChecked x.context x.imported (map (λ b. b.now) bodies) (length bodies) all → IsSmall (module_shape m) all
small_so bytes m x bodies all keeps same checked = is_small bytes (module_shape m) x all keeps.known.whole (judged_so bytes m x bodies all keeps same checked)

-- a value that is made of what was judged is the one that the bytes spell
accepted_from : (bytes : List ℕ) (m : Module) (x : IndexedContext) (all : Vec CheckedBody Global) (a : Accepted) → (a.«module» ≡ m) × (a.context ≡ x) × (a.bodies ≡ all)
    → Shell bytes (module_shape m) → IsJudged (module_shape m) x all.items → IsAcceptedFrom bytes a
accepted_from bytes m x all a made shell judged = record {
  shell = subst (λ (n : Module). Shell bytes (module_shape n)) (sym made.0) shell;
  context = made.1 ∙ judged.context ∙ ap (λ (n : Module). indexed_context (module_shape n)) (sym made.0);
  bodies = subst (λ (n : Module). let s = module_shape n in AreChecked (module_context s) (length (imported_functions s)) s.bodies (length s.bodies) a.bodies.items) (sym made.0)
      (subst (λ (v : Vec CheckedBody Global). let s = module_shape m in AreChecked (module_context s) (length (imported_functions s)) s.bodies (length s.bodies) v.items) (sym made.2) judged.bodies);
}

pub accepted_so : (bytes : List ℕ) (m : Module) (x : IndexedContext) (bodies : List (Bor (List ℕ))) (all : Vec CheckedBody Global) (a : Accepted) → KeepsRules bytes m x → bodies ≡ m.bodies.items
    → AreChecked x.context x.imported (map (λ b. b.now) bodies) (length bodies) all.items → (a.«module» ≡ m) × (a.context ≡ x) × (a.bodies ≡ all) → IsAcceptedFrom bytes a
accepted_so bytes m x bodies all a keeps same checked made =
    accepted_from bytes m x all a made keeps.known.whole.shell (judged_so bytes m x bodies all.items keeps same checked)
