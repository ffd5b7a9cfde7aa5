-- The parts of a module that workers judge: first what is left of it once its head is known, and then its bodies, group by group.
use Rattle.std.specs.Prelude.{◌≡◌, ℕ, zero, suc, List, Option, length, Result, MatchResult}
use Rattle.std.specs.Int.{div_ceil}
use Rattle.wsyntax.specs.Modules.{module_shape}
use Rattle.refusal.specs.declared.refusal.BodyRefusal.{BodyRefusal}
use Rattle.refusal.specs.declared.refusal.Refusal.{Refusal}
use Rattle.refusal.specs.declared.refusal.Refusal.TheVariants.{TooLarge, Malformed, Rule, Body, Memory}
use Rattle.verdict.specs.declared.head.Head.{Head}
use Rattle.verdict.specs.Judged.{body_refusal_at, PassBefore, IsFirstBody}
use Rattle.verdict.specs.Groups.{GroupPasses, GroupRefused, passes_or_refused, one_first}
use Rattle.verdict.specs.Heads.{RestPasses, RestRefused, rest_passes_or_refused, one_rest}

-- ---- the bodies of a module, under its context

abbrev pub bodies_of : Head → List (List ℕ)
bodies_of h = (module_shape h.front.«module»).bodies

abbrev pub body_refusal_in : Head → ℕ → Option BodyRefusal
body_refusal_in h position = body_refusal_at h.context.context h.context.imported (bodies_of h) position

-- those before that position are accepted
abbrev pub BodiesPass : Head → ℕ → Type 0
BodiesPass h position = PassBefore h.context.context h.context.imported (bodies_of h) position

-- ---- the parts, where groups have that size

abbrev pub parts_of : Head → ℕ → ℕ
parts_of h size = suc (div_ceil (length (bodies_of h)) size)

-- part 0 is the rest, and part i + 1 is group i
abbrev pub PartPasses : Head → ℕ → ℕ → Type 0
PartPasses h size zero = RestPasses h.front
PartPasses h size (suc i) = GroupPasses h.context.context h.context.imported (bodies_of h) size i

abbrev pub PartRefused : Head → ℕ → ℕ → Refusal → Type 0
PartRefused h size zero = RestRefused h.front
PartRefused h size (suc i) = GroupRefused h.context.context h.context.imported (bodies_of h) size i

-- ---- the module

-- the refusal is that of the rest, or the rest passes and it is that of the first body that is refused; out of memory says nothing
abbrev pub IsFirstPart : Head → Refusal → Type 0
IsFirstPart h Malformed = RestRefused h.front Malformed
IsFirstPart h (Rule k) = RestRefused h.front (Rule k)
IsFirstPart h (Body func c) = RestPasses h.front × IsFirstBody h.context.context h.context.imported (bodies_of h) (Body func c)
IsFirstPart h Memory = Unit {0}
IsFirstPart h TooLarge = ⊥

-- all that is asked of the module is kept, or that is the first refusal of its parts
abbrev pub HasRun : {T : Type 0} → Head → Result T Refusal → Type 0
HasRun h run = MatchResult run (λ _. RestPasses h.front × BodiesPass h (length (bodies_of h))) (IsFirstPart h)

-- ---- no part both passes and is refused, nor is refused for two reasons

pub part_passes_or_refused : (h : Head) (size i : ℕ) (r : Refusal) → PartPasses h size i → PartRefused h size i r → ⊥
part_passes_or_refused h size zero r p x = rest_passes_or_refused h.front r h.one p x
part_passes_or_refused h size (suc i) r p x = passes_or_refused h.context.context h.context.imported (bodies_of h) size i r p x

pub one_part : (h : Head) (size i : ℕ) (r s : Refusal) → PartRefused h size i r → PartRefused h size i s → r ≡ s
one_part h size zero r s a b = one_rest h.front r s h.one a b
one_part h size (suc i) r s a b = one_first h.context.context h.context.imported (bodies_of h) size i r s a b
