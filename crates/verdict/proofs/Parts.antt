-- From what is known of each part of a module, its bodies and the rest, to the verdict on the module: the theorem is `run_judged`.
-- It goes by the parts in their order: all pass (`all_judged`), or one is refused and all before it pass (`first_judged`).
-- Functions of src/head.rt, jobs.rt, rest.rt and examining.rt cite it, and Rules.antt cites `each_has_type`.
use Rattle.std.proofs.Common.{Bor, get_or, map, Option, ◌≡◌, ◌≢◌, ℕ, zero, suc, ◌+◌, ◌-◌, ◌*◌, ◌<◌, ◌≤◌, min, List, length, Some, None, refl, sym, ap, subst, ◌∙◌, arith}
use Rattle.std.specs.Prelude.{Result, Ok, Err, MatchResult, IfSome, IsErrAnd, ◌↔◌}
use Rattle.std.proofs.Math.Nat.{min-eq_left, min-eq_right}
use mathlib.Core.Logic.{dite}
use native.Mathlib.Decide.{dec_le}
use Rattle.pieces.specs.declared.job.JobFault.{JobFault}
use Rattle.pieces.specs.Faults.{AllowsFault}
use Rattle.pieces.specs.TryAll.{AllPass, StopsAt}
use Rattle.pieces.specs.declared.trying.TryFault.{TryFault}
use Rattle.pieces.specs.declared.trying.TryFault.TheVariants.{Stopped}
use Rattle.pieces.specs.declared.trying.TryFault.TheVariants as run
use Rattle.wsyntax.specs.Modules.{ModuleShape, module_shape}
use Rattle.wsyntax.specs.Binary.Shell.{Shell, module_limit}
use Rattle.wsyntax.specs.Validation.ModuleContext.{IndexedContext, indexed_context, imported_functions, functions_of, type_at}
use Rattle.std.proofs.lemmas.List.{length-map, length-append}
use Rattle.wsyntax.specs.Validation.Rules.{NoneBroken, LeastBroken}
use Rattle.wsyntax.specs.Validation.Verdict.{IsVerdict, Accepted}
use Rattle.wcontext.specs.declared.fault.ModuleFault.{ModuleFault}
use Rattle.wcontext.specs.declared.fault.ModuleFault.TheVariants as rules
use Rattle.wdecode.specs.declared.front.ModuleHead.{ModuleHead}
use Rattle.verdict.specs.declared.head.Head.{Head}
use Rattle.wsyntax.specs.Validation.Context.{Context}
use Rattle.refusal.specs.declared.refusal.BodyRefusal.{BodyRefusal}
use Rattle.refusal.specs.declared.refusal.Refusal.{Refusal}
use Rattle.refusal.specs.declared.refusal.Refusal.TheVariants.{TooLarge, Malformed, Rule, Body, Memory}
use Rattle.verdict.specs.Judged.{body_refusal_of, body_refusal_at, IsBodyRefusal}
use Rattle.verdict.specs.Groups.{IsInGroup, IsFirstOfGroup}
use Rattle.verdict.specs.Heads.{IsWhole, UniqueWhole, Decoded, Known, IsHead, RestPasses, RestRefused, IsEarlyRefusal}
use Rattle.verdict.specs.Parts.{bodies_of, body_refusal_in, BodiesPass, parts_of, PartPasses, PartRefused, IsFirstPart, HasRun}
use Rattle.refusal.specs.Refusals.{AllowsRefusal, verdict_of, of_rules, of_run, in_job}
use Rattle.verdict.proofs.Firsts.{each_passes, judged}
use Rattle.verdict.proofs.Groups.{refusal_there, group_refused, groups_pass, pass_before}
use Rattle.verdict.proofs.RefusalSteps.{job_refused}
use Rattle.verdict.proofs.Rests.{least_of_whole}
use Rattle.verdict.proofs.Sizes.{functions_within}

-- ---- one part

pub behind_the_first : (i : ℕ) → i ≢ 0 → suc (i - 1) ≡ i
behind_the_first zero ne = absurd (ne refl)
behind_the_first (suc i) ne = omega arith

-- what was found of the bytes of a body is found of the body
pub body_there : {T : Type 0} (C D : Context) (i j position : ℕ) (bodies : List (Bor (List ℕ))) (d : Bor (List ℕ)) (r : Result T Refusal) → D ≡ C → j ≡ i → position < length bodies
    → MatchResult r (λ _. body_refusal_of D (j + position) (get_or bodies position d).now ≡ None) (AllowsRefusal (IsBodyRefusal (j + position) (body_refusal_of D (j + position) (get_or bodies position d).now)))
    → MatchResult r (λ _. body_refusal_at C i (map (λ b. b.now) bodies) position ≡ None) (AllowsRefusal (IsBodyRefusal (i + position) (body_refusal_at C i (map (λ b. b.now) bodies) position)))
body_there C D i j position bodies d r same is lt h =
    subst (λ (k : ℕ). MatchResult r (λ _. body_refusal_at C i (map (λ b. b.now) bodies) position ≡ None) (AllowsRefusal (IsBodyRefusal (k + position) (body_refusal_at C i (map (λ b. b.now) bodies) position)))) is
    (subst (λ (o : Option BodyRefusal). MatchResult r (λ _. o ≡ None) (AllowsRefusal (IsBodyRefusal (j + position) o))) (refusal_there C D i j position bodies d same is lt) h)

-- the rest is part 0
pub rest_passed : (h : Head) (size index : ℕ) → index ≡ 0 → RestPasses h.front → PartPasses h size index
rest_passed h size index first passes = subst (PartPasses h size) (sym first) passes

pub rest_part : {T : Type 0} (h : Head) (size index : ℕ) (r : Result T (JobFault Refusal)) (x : Refusal) → IsErrAnd r (λ y. y ≡ in_job x) → index ≡ 0 → AllowsRefusal (RestRefused h.front) x
    → MatchResult r (λ _. PartPasses h size index × Unit {0}) (AllowsFault (PartRefused h size index))
rest_part h size index r x is first a =
    job_refused (λ _. PartPasses h size index × Unit {0}) (PartRefused h size index) r x is (subst (λ (k : ℕ). AllowsRefusal (PartRefused h size k) x) (sym first) a)

-- a body is refused, and those of its group before it are accepted
pub body_part : {T : Type 0} (h : Head) (size index position : ℕ) (r : Result T (JobFault Refusal)) (x : Refusal) → IsErrAnd r (λ y. y ≡ in_job x) → index ≢ 0
    → IsInGroup size (length (bodies_of h)) (index - 1) position
    → ((k : ℕ) → IsInGroup size (length (bodies_of h)) (index - 1) k → k < position → body_refusal_in h k ≡ None)
    → AllowsRefusal (IsBodyRefusal (h.context.imported + position) (body_refusal_in h position)) x
    → MatchResult r (λ _. PartPasses h size index × Unit {0}) (AllowsFault (PartRefused h size index))
body_part h size index position r x is ne inside before a =
    job_refused (λ _. PartPasses h size index × Unit {0}) (PartRefused h size index) r x is
    (subst (λ (k : ℕ). AllowsRefusal (PartRefused h size k) x) (behind_the_first index ne) (group_refused h.context.context h.context.imported (bodies_of h) size (index - 1) position x inside before a))

-- each body of a group is accepted
pub group_part : (h : Head) (size index end : ℕ) → index ≢ 0
    → (index - 1) * size + min size (length (bodies_of h) - (index - 1) * size) ≤ end
    → ((k : ℕ) → IsInGroup size (length (bodies_of h)) (index - 1) k → k < end → body_refusal_in h k ≡ None)
    → PartPasses h size index
group_part h size index end ne whole before =
    subst (PartPasses h size) (behind_the_first index ne) (λ position inside. before position inside (let to = inside.to in let there = inside.there in ends position to there))
  where
    ends : (position : ℕ) → position < (index - 1) * size + size → position < length (bodies_of h) → position < end
    ends position to there =
        dite (dec_le size (length (bodies_of h) - (index - 1) * size))
        (λ le. let e : min size (length (bodies_of h) - (index - 1) * size) ≡ size = min-eq_left le in omega (arith, e, whole, to))
        (λ no. let e : min size (length (bodies_of h) - (index - 1) * size) ≡ length (bodies_of h) - (index - 1) * size = min-eq_right (omega (arith, no)) in omega (arith, e, whole, there))

-- ---- the run over all parts

-- each part passes
pub all_passed : {O : Type 0} (h : Head) (size n : ℕ) (gives : ℕ → O → Type 0) (outs : List O) → 0 < size → n ≡ parts_of h size → AllPass n (PartPasses h size) gives outs → RestPasses h.front × BodiesPass h (length (bodies_of h))
all_passed h size n gives outs some count all =
    let passes = each_passes (PartPasses h size) gives n outs all in
    (passes 0 (omega (arith, count)), groups_pass h.context.context h.context.imported (bodies_of h) size some (λ i lt. passes (suc i) (omega (arith, count, lt))))

-- a part is refused, and all before it pass
pub first_part : (h : Head) (size n : ℕ) (e : TryFault Refusal) → 0 < size → StopsAt n (PartPasses h size) (PartRefused h size) e → IsFirstPart h (of_run e)
first_part h size n (Stopped zero Malformed) some stop = stop.1
first_part h size n (Stopped zero (Rule k)) some stop = stop.1
first_part h size n (Stopped zero TooLarge) some stop = absurd stop.1
first_part h size n (Stopped zero (Body f c)) some stop = absurd stop.1
first_part h size n (Stopped zero Memory) some stop = tt
first_part h size n (Stopped (suc i) (Body f c)) some stop =
    let first : IsFirstOfGroup h.context.context h.context.imported (bodies_of h) size i f c = stop.1 in
    let inside = first.inside in
    (stop.2 0 (omega arith), (first.position, inside.there, first.index, first.refused, pass_before h.context.context h.context.imported (bodies_of h) size i f c some first (λ k lt. stop.2 (suc k) (omega (arith, lt)))))
first_part h size n (Stopped (suc i) TooLarge) some stop = absurd stop.1
first_part h size n (Stopped (suc i) Malformed) some stop = absurd stop.1
first_part h size n (Stopped (suc i) (Rule k)) some stop = absurd stop.1
first_part h size n (Stopped (suc i) Memory) some stop = tt
first_part h size n run.Memory some stop = tt

-- ---- one body after the other

-- the rest is refused
pub rest_first : (h : Head) (x : Refusal) → AllowsRefusal (RestRefused h.front) x → IsFirstPart h x
rest_first h Malformed a = a
rest_first h (Rule k) a = a
rest_first h TooLarge a = absurd a
rest_first h (Body f c) a = absurd a
rest_first h Memory a = tt

-- a body is refused, and all before it are accepted
pub body_first : (h : Head) (position : ℕ) (x : Refusal) → position < length (bodies_of h) → RestPasses h.front → BodiesPass h position → AllowsRefusal (IsBodyRefusal (h.context.imported + position) (body_refusal_in h position)) x → IsFirstPart h x
body_first h position (Body f c) lt passes before a = (passes, (position, lt, a.0, a.1, before))
body_first h position TooLarge lt passes before a = absurd a
body_first h position Malformed lt passes before a = absurd a
body_first h position (Rule k) lt passes before a = absurd a
body_first h position Memory lt passes before a = tt

-- ---- the verdict

known : (bytes : List ℕ) (f : ModuleHead) (m : ModuleShape) → Decoded bytes f → IsWhole f m → NoneBroken m → Known bytes m
known bytes f m d is kept =
    record { whole = record { small = d.small; shell = (d.whole m).1 is }; rules = kept; reads = d.reads; typed = d.typed; faults = d.faults }

-- the context and the bodies are those of the front
same_context : (f : ModuleHead) (m : ModuleShape) → IsWhole f m → indexed_context (module_shape f.«module») ≡ indexed_context m
same_context f m is = ap indexed_context (sym is.2)

same_bodies : (f : ModuleHead) (m : ModuleShape) → IsWhole f m → (module_shape f.«module»).bodies ≡ m.bodies
same_bodies f m is = ap (λ (n : ModuleShape). n.bodies) (sym is.2)

-- all pass
pub all_judged : (h : Head) → Decoded h.bytes.now h.front → RestPasses h.front × BodiesPass h (length (bodies_of h)) → IsVerdict h.bytes.now Accepted
all_judged h d x =
    let m = x.0.0 in
    let w : IsWhole h.front m = x.0.1 in
    judged {T = Unit {0}} h.bytes.now m h.context (bodies_of h) (length (bodies_of h)) (Ok tt) (known h.bytes.now h.front m d w x.0.2)
    (h.indexed ∙ same_context h.front m w) (same_bodies h.front m w) (ap length (same_bodies h.front m w)) x.1

-- the first refusal of all parts is that of the module
pub first_judged : (h : Head) (r : Refusal) → Decoded h.bytes.now h.front → IsFirstPart h r → IfSome (verdict_of r) (IsVerdict h.bytes.now)
unfolding IsVerdict
first_judged h TooLarge d x = absurd x
first_judged h Malformed d x = (d.small, λ m s. x m ((d.whole m).0 s))
first_judged h (Rule k) d x = (x.0, record { small = d.small; shell = (d.whole x.0).1 x.1 }, x.2)
first_judged h (Body g c) d x =
    let m = x.0.0 in
    let w : IsWhole h.front m = x.0.1 in
    judged {T = Unit {0}} h.bytes.now m h.context (bodies_of h) (length (bodies_of h)) (Err (Body g c)) (known h.bytes.now h.front m d w x.0.2)
    (h.indexed ∙ same_context h.front m w) (same_bodies h.front m w) (ap length (same_bodies h.front m w)) x.1
first_judged h Memory d x = tt

-- so is what judging all parts gives
pub run_judged : {T : Type 0} (bytes : List ℕ) (h : Head) (r : Result T Refusal) → h.bytes.now ≡ bytes → IsHead h.bytes.now h.front h.counts → HasRun h r → MatchResult r (λ _. IsVerdict bytes Accepted) (λ x. IfSome (verdict_of x) (IsVerdict bytes))
run_judged bytes h (Ok t) is head ran = subst (λ (b : List ℕ). IsVerdict b Accepted) is (all_judged h head.decoded ran)
run_judged bytes h (Err x) is head ran = subst (λ (b : List ℕ). IfSome (verdict_of x) (IsVerdict b)) is (first_judged h x head.decoded ran)

-- ---- a late rule is broken

pub late_rule : (f : ModuleHead) (m : ModuleShape) (e : ModuleFault) → IsWhole f m → ((k : ℕ) → e ≡ rules.Rule k → LeastBroken m k) → AllowsRefusal (RestRefused f) (of_rules e)
late_rule f m (rules.Rule k) is broken = (m, is, broken k refl)
late_rule f m rules.Memory is broken = tt

-- ---- an early rule is broken

pub early_for : (f : ModuleHead) (m : ModuleShape) (e : ModuleFault) → IsWhole f m → IsEarlyRefusal f e (of_rules e)
early_for f m (rules.Rule k) is = (refl, m, is)
early_for f m rules.Memory is = tt

pub is_early : (f : ModuleHead) (bytes : List ℕ) (e : ModuleFault) (r : Refusal) → Decoded bytes f → ((k : ℕ) → e ≡ rules.Rule k → (k < 9) × LeastBroken (module_shape f.«module») k) → IsEarlyRefusal f e r → IfSome (verdict_of r) (IsVerdict bytes)
unfolding IsVerdict
is_early f bytes e TooLarge d broken h = absurd h
is_early f bytes e Malformed d broken h = (d.small, λ m s. h m ((d.whole m).0 s))
is_early f bytes e (Rule k) d broken h =
    let b = broken k h.0 in
    let m = h.1 in
    let w : IsWhole f m = h.2 in
    (m, record { small = d.small; shell = (d.whole m).1 w }, subst (λ (n : ModuleShape). LeastBroken n k) (sym w.2) (least_of_whole (module_shape f.«module») w.0 k (omega (arith, b.0)) b.1))
is_early f bytes e (Body g c) d broken h = absurd h
is_early f bytes e Memory d broken h = tt

-- there is one whole
pub one_whole : (bytes : List ℕ) (f : ModuleHead) → ((m : ModuleShape) → Shell bytes m ↔ IsWhole f m) → ((bytes : List ℕ) (m n : ModuleShape) → Shell bytes m → Shell bytes n → m ≡ n) → UniqueWhole f
one_whole bytes f whole determined m n a b = determined bytes m n ((whole m).1 a) ((whole n).1 b)

-- ---- the functions

-- each function that has a body, after those that are imported, is one of the context
pub each_has_type : (m : ModuleShape) (x : IndexedContext) → x ≡ indexed_context m → length m.functions ≡ length m.bodies → x.imported + length m.bodies ≡ length x.context.functions
each_has_type m x is paired =
    let imported : x.imported ≡ length (imported_functions m) = ap (λ (y : IndexedContext). y.imported) is in
    let typed : length x.context.functions ≡ length (functions_of m) = ap (λ (y : IndexedContext). length y.context.functions) is ∙ length-map (functions_of m) (type_at m.types) in
    let both : length (functions_of m) ≡ length (imported_functions m) + length m.functions = length-append (imported_functions m) m.functions in
    omega arith

-- bytes that are fewer spell no module
pub no_module : (bytes : List ℕ) (f : ModuleHead) (x : IndexedContext) (count : ℕ) → ((m : ModuleShape) → Shell bytes m ↔ IsWhole f m) → x ≡ indexed_context (module_shape f.«module») → length (module_shape f.«module»).functions ≡ length (module_shape f.«module»).bodies → count ≡ length x.context.functions → length bytes < count → (m : ModuleShape) → Shell bytes m → ⊥
no_module bytes f x count whole is paired functions few m s =
    let front = module_shape f.«module» in
    let w : IsWhole f m = (whole m).0 s in
    let all : x.imported + length front.bodies ≡ length x.context.functions = each_has_type front x is paired in
    let imported : x.imported ≡ length (imported_functions front) = ap (λ (y : IndexedContext). y.imported) is in
    let same_imports : length (imported_functions m) ≡ length (imported_functions front) = ap (λ (n : ModuleShape). length (imported_functions n)) w.2 in
    let same_bodies : length m.bodies ≡ length front.bodies = ap (λ (n : ModuleShape). length n.bodies) w.2 in
    let within : length (imported_functions m) + length m.bodies ≤ length bytes = functions_within bytes m s in
    absurd (omega (arith, few))

pub none_spelled : (bytes : List ℕ) → length bytes ≤ module_limit → ((m : ModuleShape) → Shell bytes m → ⊥) → IfSome (verdict_of Malformed) (IsVerdict bytes)
unfolding IsVerdict
none_spelled bytes small none = (small, none)

-- so these are fewer than a number that the functions of the context are below
pub fewer : (m : ModuleShape) (x : IndexedContext) (count most : ℕ) → x ≡ indexed_context m → length m.functions ≡ length m.bodies → count ≡ length x.context.functions → count < most → x.imported + length m.bodies < most
fewer m x count most is paired functions few = subst (λ (n : ℕ). n < most) (functions ∙ sym (each_has_type m x is paired)) few
