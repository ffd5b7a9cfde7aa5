-- Why a body is refused, computed, so that no body is refused for two reasons; nothing where it is accepted.
use Rattle.std.specs.Prelude.{◌≡◌, ◌<◌, ◌+◌, ℕ, List, Option, Some, None, nat_le, length, slice_get, if◌then◌else◌}
use Rattle.wsyntax.specs.Modules.{BodyShape}
use Rattle.wsyntax.specs.Binary.Production.{whole_at}
use Rattle.wsyntax.specs.Binary.Sections.{body, locals_of}
use Rattle.wsyntax.specs.Binary.Shell.{local_limit}
use Rattle.wsyntax.specs.Validation.Context.{Context}
use Rattle.wsyntax.specs.Validation.Algorithm.{alg, Accepted, Refused}
use Rattle.wsyntax.specs.Validation.Algorithm as algorithm
use Rattle.wsyntax.specs.Validation.ModuleContext.{function_context}
use Rattle.wsyntax.specs.Validation.Verdict.{result_of}
use Rattle.refusal.specs.declared.refusal.BodyRefusal.{BodyRefusal}
use Rattle.refusal.specs.declared.refusal.BodyRefusal.TheVariants.{Malformed, TooManyLocals, IllTyped}
use Rattle.refusal.specs.declared.refusal.Refusal.{Refusal}
use Rattle.refusal.specs.declared.refusal.Refusal.TheVariants.{TooLarge, Rule, Body, Memory}
use Rattle.refusal.specs.declared.refusal.Refusal.TheVariants as refusal

-- the tokens, by the algorithm
abbrev pub typing_refusal : algorithm.Verdict → Option BodyRefusal
typing_refusal Accepted = None
typing_refusal (Refused at) = Some (IllTyped at)

-- the body of function f under the context of its module
abbrev pub shape_refusal : Context → ℕ → BodyShape → Option BodyRefusal
shape_refusal C f b =
    if nat_le (locals_of b.runs) local_limit
    then typing_refusal (alg (function_context C f b.runs) (result_of C f) b.code)
    else Some TooManyLocals

abbrev pub read_refusal : Context → ℕ → Option BodyShape → Option BodyRefusal
read_refusal C f None = Some Malformed
read_refusal C f (Some b) = shape_refusal C f b

-- the bytes that stand for the body of function f
unfoldable pub body_refusal_of : Context → ℕ → List ℕ → Option BodyRefusal
body_refusal_of C f bytes = read_refusal C f (whole_at body.read bytes)

-- the bytes of a body of that function, if there are any
abbrev pub given_refusal : Context → ℕ → Option (List ℕ) → Option BodyRefusal
given_refusal C f None = None
given_refusal C f (Some bytes) = body_refusal_of C f bytes

-- the body at that position, after `imported` imported functions
abbrev pub body_refusal_at : Context → ℕ → List (List ℕ) → ℕ → Option BodyRefusal
body_refusal_at C imported bodies position = given_refusal C (imported + position) (slice_get bodies position)

-- that is the refusal of the body of function f, by why it is refused
abbrev pub IsBodyRefusal : ℕ → Option BodyRefusal → Refusal → Type 0
IsBodyRefusal f o (Body g c) = (g ≡ f) × (o ≡ Some c)
IsBodyRefusal f o TooLarge = ⊥
IsBodyRefusal f o refusal.Malformed = ⊥
IsBodyRefusal f o (Rule k) = ⊥
IsBodyRefusal f o Memory = ⊥

-- the bodies before that position are accepted
abbrev pub PassBefore : Context → ℕ → List (List ℕ) → ℕ → Type 0
PassBefore C imported bodies position = (k : ℕ) → k < position → body_refusal_at C imported bodies k ≡ None

-- the refusal is that of the first body that is refused; out of memory says nothing
abbrev pub IsFirstBody : Context → ℕ → List (List ℕ) → Refusal → Type 0
IsFirstBody C imported bodies (Body f c) =
    (position : ℕ) × (position < length bodies) × (f ≡ imported + position) × (body_refusal_at C imported bodies position ≡ Some c) × PassBefore C imported bodies position
IsFirstBody C imported bodies Memory = Unit {0}
IsFirstBody C imported bodies TooLarge = ⊥
IsFirstBody C imported bodies refusal.Malformed = ⊥
IsFirstBody C imported bodies (Rule k) = ⊥

-- no body passes and is refused
pub none_and_some : {A : Type 0} (o : Option A) (x : A) → o ≡ None → o ≡ Some x → ⊥
none_and_some o x a b = cc

-- no body is refused for two reasons
pub one_body_refusal : {A : Type 0} (o : Option A) (x y : A) → o ≡ Some x → o ≡ Some y → x ≡ y
one_body_refusal o x y a b = cc
