-- The refusal of a body, while its tokens are read one after the other.
use Rattle.std.specs.Prelude.{◌≡◌, ℕ, ◌+◌, List, [], ◌∷◌, length, Option, Some, None, Result, Ok, Err}
use Rattle.wdecode.specs.declared.fault.Fault.{Fault}
use Rattle.wdecode.specs.declared.fault.Fault.TheVariants as fault
use Rattle.wsyntax.specs.Instructions.{Token}
use Rattle.wsyntax.specs.Binary.Nesting.{token_at, expression}
use Rattle.wsyntax.specs.Validation.Context.{Context}
use Rattle.wsyntax.specs.Validation.Algorithm.{Frame, alg_from}
use Rattle.wcheck.specs.Checking.{Checking}
use Rattle.verdict.specs.declared.body.Known.{Known}
use Rattle.verdict.specs.declared.body.Known.TheVariants.{Nothing, Stop, Refusal}
use Rattle.verdict.specs.declared.passing.Passing.{Passing}
use Rattle.verdict.specs.declared.passing.Passing.TheVariants.{Passed, Stopped, Unknown}
use Rattle.refusal.specs.declared.refusal.BodyRefusal.{BodyRefusal}
use Rattle.refusal.specs.declared.refusal.BodyRefusal.TheVariants.{Malformed}
use Rattle.verdict.specs.Judged.{typing_refusal, body_refusal_of}
use Rattle.verdict.specs.OnePass.{StopsAt}

-- what is known is so, where the bytes of the tokens to come are these, and these frames are open
abbrev pub IsKnown : Context → List Frame → Checking → List ℕ → Known → Type 0
IsKnown C fs x bytes Nothing = (x.inside ≡ C) × (x.frames ≡ fs)
IsKnown C fs x bytes (Stop left) = StopsAt C fs bytes left
IsKnown C fs x bytes (Refusal c) = Unit {0}

-- the tokens from the one at this position on: a fault that is known goes before theirs
abbrev pub refusal_from : Context → Known → List Frame → ℕ → List Token → Option BodyRefusal
refusal_from C Nothing fs k ts = typing_refusal (alg_from C ts fs k)
refusal_from C (Stop left) fs k ts = typing_refusal (alg_from C ts fs k)
refusal_from C (Refusal c) fs k ts = Some c

-- with this token next, at that position, and whatever after it: what is known after it gives the same
abbrev pub GoesOn : Checking → Known → ℕ → ℕ → Token → Checking → Known → Type 0
GoesOn old known k left t new now =
    (C : Context) (fs : List Frame) (bytes rest : List ℕ) → length bytes ≡ left → token_at bytes ≡ Some (t, rest) → IsKnown C fs old bytes known
    → (gs : List Frame) × IsKnown C gs new rest now × ((after : List Token) → refusal_from C known fs k (t ∷ after) ≡ refusal_from C now gs (k + 1) after)

-- no token is left
abbrev pub AtEnd : Checking → Known → ℕ → Option BodyRefusal → Type 0
AtEnd x known count given = (C : Context) (fs : List Frame) → IsKnown C fs x [] known → given ≡ refusal_from C known fs count []

-- no byte is after the body
abbrev pub refusal_behind : List ℕ → Option BodyRefusal → Option BodyRefusal
refusal_behind [] c = c
refusal_behind (b ∷ bytes) c = Some Malformed

-- the tokens that are read from there on, up to the end of the body
abbrev pub refusal_read : Context → Known → List Frame → ℕ → Option (List Token × List ℕ) → Option BodyRefusal
refusal_read C known fs k None = Some Malformed
refusal_read C known fs k (Some x) = refusal_behind x.1 (refusal_from C known fs k x.0)

-- the refusal that is given; Malformed is the refusal of what is not read, and out of memory says nothing
abbrev pub GivesRefusal : Result (Option BodyRefusal) Fault → Option BodyRefusal → Type 0
GivesRefusal (Ok given) c = c ≡ given
GivesRefusal (Err fault.Malformed) c = c ≡ Some Malformed
GivesRefusal (Err fault.Memory) c = Unit {0}

-- the refusal of the body whose tokens have these bytes
abbrev pub Judges : Checking → Known → List ℕ → Result (Option BodyRefusal) Fault → Type 0
Judges x known bytes given =
    (C : Context) (fs : List Frame) → IsKnown C fs x bytes known → GivesRefusal given (refusal_read C known fs 0 (expression.read bytes))

-- what one loop says of the body of function f
abbrev pub BodyPasses : Context → ℕ → List ℕ → Passing → Type 0
BodyPasses C f bytes Passed = body_refusal_of C f bytes ≡ None
BodyPasses C f bytes (Stopped tokens left) =
    (D : Context) × (fs : List Frame) × StopsAt D fs tokens.now left × (body_refusal_of C f bytes ≡ refusal_read D (Stop left) fs 0 (expression.read tokens.now))
BodyPasses C f bytes Unknown = Unit {0}
