-- Bytes have one verdict at most: what is spelled is determined, and no refusal holds beside an earlier or another one.
use Rattle.std.proofs.Common.{◌≡◌, ℕ, ◌<◌, ◌≤◌, List, length, refl, sym, ap, subst, ◌∙◌, arith, inl, inr}
use Rattle.std.specs.Prelude.{slice_get}
use Rattle.std.proofs.lemmas.Bool.{cases_lt}
use Rattle.std.proofs.lemmas.Option.{same_Some, slice_get_within}
use Rattle.wsyntax.specs.Instructions.{Code, flat_body}
use Rattle.wsyntax.specs.Modules.{ModuleShape, BodyShape}
use Rattle.wsyntax.specs.Binary.Sections.{locals_of}
use Rattle.wsyntax.specs.Binary.Shell.{Shell, SpellsBody, FewLocals, local_limit, module_limit}
use Rattle.wsyntax.specs.Validation.Context.{Context}
use Rattle.wsyntax.specs.Validation.Typing.{BodyTyped}
use Rattle.wsyntax.specs.Validation.FirstFault.{FirstFault}
use Rattle.wsyntax.specs.Validation.ModuleContext.{module_context, function_context}
use Rattle.wsyntax.specs.Validation.Rules.{LeastBroken, NoneBroken}
use Rattle.wsyntax.specs.Validation.Verdict.{Accepted, TooLarge, Malformed, RuleBroken, BodyRefused, BodyFault, BodyMalformed, TooManyLocals, IllTyped, IsAccepted, IsIllTyped, IsRefused, AcceptedBefore, FirstRefused, IsModule, IsVerdict, function_at, result_of}
use Rattle.wsyntax.specs.Validation.Laws.{OneFault, TypedWhereNoFault, UniqueTree}
use Rattle.verdict.specs.Laws.{OneVerdict}

-- ---- what crates below promise

-- bytes spell one body at most
abbrev pub OneBody : Type 0
OneBody = (bytes : List ℕ) (b d : BodyShape) → SpellsBody bytes b → SpellsBody bytes d → b ≡ d

-- and one module
abbrev pub OneShell : Type 0
OneShell = (bytes : List ℕ) (m n : ModuleShape) → Shell bytes m → Shell bytes n → m ≡ n

pub record Laws : Type 0 where
  pub one_body : OneBody
  pub one_shell : OneShell
  pub one_tree : UniqueTree
  pub typed_where_no_fault : TypedWhereNoFault
  pub one_fault : OneFault

-- ---- one body

-- a body that the bytes spell has few locals or many
few_or_many : Laws → (bytes : List ℕ) (b d : BodyShape) → SpellsBody bytes b → SpellsBody bytes d → FewLocals b → local_limit < locals_of d.runs → ⊥
few_or_many laws bytes b d s t few many =
    let within : locals_of d.runs ≤ local_limit = subst FewLocals (laws.one_body bytes b d s t) few in
    omega (arith, many)

-- its tokens are those of one tree
one_code : Laws → (b d : BodyShape) (code other : Code) → b ≡ d → flat_body code ≡ b.code → flat_body other ≡ d.code → code ≡ other
one_code laws b d code other same tree tree2 = laws.one_tree code other (tree ∙ ap (λ (x : BodyShape). x.code) same ∙ sym tree2)

-- a body is not typed and ill typed
typed_or_not : Laws → (C : Context) (f at : ℕ) (bytes : List ℕ) → IsAccepted C f bytes → IsIllTyped C f bytes at → ⊥
typed_or_not laws C f at bytes a r =
    let same : a.body ≡ r.body = laws.one_body bytes a.body r.body a.spelled r.spelled in
    let tree : a.code ≡ r.code = one_code laws a.body r.body a.code r.code same a.tree r.tree in
    let here : BodyTyped (function_context C f a.body.runs) (result_of C f) r.code = subst (λ (x : Code). BodyTyped (function_context C f a.body.runs) (result_of C f) x) tree a.typed in
    let typed : BodyTyped (function_context C f r.body.runs) (result_of C f) r.code = subst (λ (x : BodyShape). BodyTyped (function_context C f x.runs) (result_of C f) r.code) same here in
    (laws.typed_where_no_fault (function_context C f r.body.runs) (result_of C f) r.code).1 typed at r.fault

-- an ill typed body has one first fault
one_position : Laws → (C : Context) (f i j : ℕ) (bytes : List ℕ) → IsIllTyped C f bytes i → IsIllTyped C f bytes j → i ≡ j
one_position laws C f i j bytes r s =
    let same : r.body ≡ s.body = laws.one_body bytes r.body s.body r.spelled s.spelled in
    let tree : r.code ≡ s.code = one_code laws r.body s.body r.code s.code same r.tree s.tree in
    let here : FirstFault (function_context C f r.body.runs) (result_of C f) s.code i = subst (λ (x : Code). FirstFault (function_context C f r.body.runs) (result_of C f) x i) tree r.fault in
    let there : FirstFault (function_context C f s.body.runs) (result_of C f) s.code i = subst (λ (x : BodyShape). FirstFault (function_context C f x.runs) (result_of C f) s.code i) same here in
    laws.one_fault (function_context C f s.body.runs) (result_of C f) s.code i j there s.fault

-- no body is accepted and refused
never_both : Laws → (C : Context) (f : ℕ) (bytes : List ℕ) (fault : BodyFault) → IsAccepted C f bytes → IsRefused C f bytes fault → ⊥
never_both laws C f bytes BodyMalformed a r = r a.body a.spelled
never_both laws C f bytes TooManyLocals a r = few_or_many laws bytes a.body r.0 a.spelled r.1 a.few r.2
never_both laws C f bytes (IllTyped at) a r = typed_or_not laws C f at bytes a r

-- no body is refused for two reasons
one_reason : Laws → (C : Context) (f : ℕ) (bytes : List ℕ) (a b : BodyFault) → IsRefused C f bytes a → IsRefused C f bytes b → a ≡ b
one_reason laws C f bytes BodyMalformed BodyMalformed r s = refl
one_reason laws C f bytes BodyMalformed TooManyLocals r s = absurd (r s.0 s.1)
one_reason laws C f bytes BodyMalformed (IllTyped j) r s = absurd (r s.body s.spelled)
one_reason laws C f bytes TooManyLocals BodyMalformed r s = absurd (s r.0 r.1)
one_reason laws C f bytes TooManyLocals TooManyLocals r s = refl
one_reason laws C f bytes TooManyLocals (IllTyped j) r s = absurd (few_or_many laws bytes s.body r.0 s.spelled r.1 s.few r.2)
one_reason laws C f bytes (IllTyped i) BodyMalformed r s = absurd (s r.body r.spelled)
one_reason laws C f bytes (IllTyped i) TooManyLocals r s = absurd (few_or_many laws bytes r.body s.0 r.spelled s.1 r.few s.2)
one_reason laws C f bytes (IllTyped i) (IllTyped j) r s = ap IllTyped (one_position laws C f i j bytes r s)

-- ---- the first body

-- the body of the function at its position
refused_there : (m : ModuleShape) (f : ℕ) (fault : BodyFault) (r : FirstRefused m f fault) → IsRefused (module_context m) (function_at m r.position) r.bytes fault
refused_there m f fault r = subst (λ (x : ℕ). IsRefused (module_context m) x r.bytes fault) r.index r.refused

-- no body before it is refused
not_before : Laws → (m : ModuleShape) (f n : ℕ) (fault : BodyFault) (r : FirstRefused m f fault) → AcceptedBefore m n → r.position < n → ⊥
not_before laws m f n fault r before lt = never_both laws (module_context m) (function_at m r.position) r.bytes fault (before r.position r.bytes lt r.stands) (refused_there m f fault r)

-- of one position
same_first : Laws → (m : ModuleShape) (f g : ℕ) (a b : BodyFault) (r : FirstRefused m f a) (s : FirstRefused m g b) → r.position ≡ s.position → BodyRefused f a ≡ BodyRefused g b
same_first laws m f g a b r s same =
    let bytes : r.bytes ≡ s.bytes = same_Some r.bytes s.bytes (sym r.stands ∙ ap (slice_get m.bodies) same ∙ s.stands) in
    let index : f ≡ g = r.index ∙ ap (function_at m) same ∙ sym s.index in
    let here : IsRefused (module_context m) g r.bytes a = subst (λ (x : ℕ). IsRefused (module_context m) x r.bytes a) index r.refused in
    let there : IsRefused (module_context m) g s.bytes a = subst (λ (x : List ℕ). IsRefused (module_context m) g x a) bytes here in
    ap (λ (x : ℕ). BodyRefused x a) index ∙ ap (BodyRefused g) (one_reason laws (module_context m) g s.bytes a b there s.refused)

one_first : Laws → (m : ModuleShape) (f g : ℕ) (a b : BodyFault) → FirstRefused m f a → FirstRefused m g b → BodyRefused f a ≡ BodyRefused g b
one_first laws m f g a b r s =
    elim (cases_lt r.position s.position) [
      | inl h ↦ absurd (not_before laws m f s.position a r s.before h)
      | inr h ↦ elim (cases_lt s.position r.position) [ inl k ↦ absurd (not_before laws m g r.position b s r.before k) | inr k ↦ same_first laws m f g a b r s (omega arith) ]
    ]

-- where a body is refused, not all are accepted
not_all : Laws → (m : ModuleShape) (f : ℕ) (fault : BodyFault) → FirstRefused m f fault → AcceptedBefore m (length m.bodies) → ⊥
not_all laws m f fault r all = not_before laws m f (length m.bodies) fault r all (slice_get_within m.bodies r.position r.bytes r.stands)

-- ---- the module

too_large : (n : ℕ) → module_limit < n → n ≤ module_limit → ⊥
too_large n lt le = omega (arith, lt, le)

-- bytes spell one module
one_module : Laws → (bytes : List ℕ) (m n : ModuleShape) → IsModule bytes m → IsModule bytes n → m ≡ n
one_module laws bytes m n a b = laws.one_shell bytes m n a.shell b.shell

-- one rule is the least broken
one_rule : (m : ModuleShape) (j k : ℕ) → LeastBroken m j → LeastBroken m k → j ≡ k
one_rule m j k a b =
    elim (cases_lt j k) [
      | inl h ↦ absurd (a.broken (b.before j h))
      | inr h ↦ elim (cases_lt k j) [ inl g ↦ absurd (b.broken (a.before k g)) | inr g ↦ omega arith ]
    ]

-- no module breaks a rule and none
broken_or_none : Laws → (bytes : List ℕ) (m n : ModuleShape) (k : ℕ) → IsModule bytes m → IsModule bytes n → LeastBroken m k → NoneBroken n → ⊥
broken_or_none laws bytes m n k a b broken none = broken.broken (subst (λ (x : ModuleShape). NoneBroken x) (one_module laws bytes n m b a) none k)

-- no module has a body that is refused and none
refused_or_none : Laws → (bytes : List ℕ) (m n : ModuleShape) (f : ℕ) (fault : BodyFault) → IsModule bytes m → IsModule bytes n → FirstRefused m f fault → AcceptedBefore n (length n.bodies) → ⊥
refused_or_none laws bytes m n f fault a b r all = not_all laws m f fault r (subst (λ (x : ModuleShape). AcceptedBefore x (length x.bodies)) (one_module laws bytes n m b a) all)

pub one_verdict : Laws → OneVerdict
unfolding IsVerdict
one_verdict laws bytes TooLarge TooLarge p q = refl
one_verdict laws bytes TooLarge Malformed p q = absurd (too_large (length bytes) p q.0)
one_verdict laws bytes TooLarge (RuleBroken k) p q = absurd (too_large (length bytes) p q.1.small)
one_verdict laws bytes TooLarge (BodyRefused g b) p q = absurd (too_large (length bytes) p q.1.small)
one_verdict laws bytes TooLarge Accepted p q = absurd (too_large (length bytes) p q.1.small)
one_verdict laws bytes Malformed TooLarge p q = absurd (too_large (length bytes) q p.0)
one_verdict laws bytes Malformed Malformed p q = refl
one_verdict laws bytes Malformed (RuleBroken k) p q = absurd (p.1 q.0 q.1.shell)
one_verdict laws bytes Malformed (BodyRefused g b) p q = absurd (p.1 q.0 q.1.shell)
one_verdict laws bytes Malformed Accepted p q = absurd (p.1 q.0 q.1.shell)
one_verdict laws bytes (RuleBroken j) TooLarge p q = absurd (too_large (length bytes) q p.1.small)
one_verdict laws bytes (RuleBroken j) Malformed p q = absurd (q.1 p.0 p.1.shell)
one_verdict laws bytes (RuleBroken j) (RuleBroken k) p q = ap RuleBroken (one_rule q.0 j k (subst (λ (x : ModuleShape). LeastBroken x j) (one_module laws bytes p.0 q.0 p.1 q.1) p.2) q.2)
one_verdict laws bytes (RuleBroken j) (BodyRefused g b) p q = absurd (broken_or_none laws bytes p.0 q.0 j p.1 q.1 p.2 q.2)
one_verdict laws bytes (RuleBroken j) Accepted p q = absurd (broken_or_none laws bytes p.0 q.0 j p.1 q.1 p.2 q.2)
one_verdict laws bytes (BodyRefused f a) TooLarge p q = absurd (too_large (length bytes) q p.1.small)
one_verdict laws bytes (BodyRefused f a) Malformed p q = absurd (q.1 p.0 p.1.shell)
one_verdict laws bytes (BodyRefused f a) (RuleBroken k) p q = absurd (broken_or_none laws bytes q.0 p.0 k q.1 p.1 q.2 p.2)
one_verdict laws bytes (BodyRefused f a) (BodyRefused g b) p q = one_first laws q.0 f g a b (subst (λ (x : ModuleShape). FirstRefused x f a) (one_module laws bytes p.0 q.0 p.1 q.1) p.3) q.3
one_verdict laws bytes (BodyRefused f a) Accepted p q = absurd (refused_or_none laws bytes p.0 q.0 f a p.1 q.1 p.3 q.3)
one_verdict laws bytes Accepted TooLarge p q = absurd (too_large (length bytes) q p.1.small)
one_verdict laws bytes Accepted Malformed p q = absurd (q.1 p.0 p.1.shell)
one_verdict laws bytes Accepted (RuleBroken k) p q = absurd (broken_or_none laws bytes q.0 p.0 k q.1 p.1 q.2 p.2)
one_verdict laws bytes Accepted (BodyRefused g b) p q = absurd (refused_or_none laws bytes q.0 p.0 g b q.1 p.1 q.3 p.3)
one_verdict laws bytes Accepted Accepted p q = refl
