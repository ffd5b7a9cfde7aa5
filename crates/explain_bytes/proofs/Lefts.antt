-- What is left of a body after one token more, and which blocks are open then or why reading stops there.
use Rattle.std.proofs.Common.{◌≡◌, ◌≢◌, ℕ, ◌+◌, ◌≤◌, Bool, List, [], ◌∷◌, ◌++◌, length, get_or, Option, Some, None, ap, sym, subst, refl, ◌∙◌, add-one, append-nil, arith}
use Rattle.std.specs.Prelude.{IfSome, true, false, if◌then◌else◌}
use Rattle.wsyntax.specs.declared.instructions.Token.{Token as Held}
use Rattle.wsyntax.specs.Instructions.{Token}
use Rattle.wsyntax.specs.Modules.{decoded_as}
use Rattle.wsyntax.specs.Binary.Nesting.{token_at}
use Rattle.wdecode.specs.Gives.{Fails, rest_of}
use Rattle.wdecode.specs.declared.fault.Fault.{Fault}
use Rattle.wdecode.specs.declared.fault.Fault.TheVariants.{Malformed, Memory}
use Rattle.explain_bytes.specs.declared.stops.Halt.{Halt}
use Rattle.explanation.specs.declared.explanation.Stopped.{Stopped}
use Rattle.explanation.specs.declared.explanation.Stopped.TheVariants.{Left, Short}
use Rattle.explain_bytes.specs.Locations.{left_after, after_one, nested_after, Enters, Halts, IsHaltIn}

-- one token more
pub one_more : (n : ℕ) (bytes rest after : List ℕ) → left_after n bytes ≡ Some rest → rest_of (token_at rest) ≡ Some after → left_after (n + 1) bytes ≡ Some after
one_more n bytes rest after e r = rw add-one (ap after_one e ∙ r)

-- the bytes after a token
pub one_after : (t : Token) (bytes after : List ℕ) → ◌≡◌ {A = Option (Token × List ℕ)} (token_at bytes) (Some (t, after)) → rest_of (token_at bytes) ≡ Some after
one_after t bytes after e = ap (λ (x : Option (Token × List ℕ)). rest_of x) e

-- a token is seen by its own labels
pub token_read : (bytes after targets : List ℕ) (t : Held) → ((more : List ℕ) → ◌≡◌ {A = Option (Token × List ℕ)} (token_at bytes) (Some (decoded_as (targets ++ more) t, after)))
    → ◌≡◌ {A = Option (Token × List ℕ)} (token_at bytes) (Some (decoded_as targets t, after))
token_read bytes after targets t h = subst (λ (ts : List ℕ). ◌≡◌ {A = Option (Token × List ℕ)} (token_at bytes) (Some (decoded_as ts t, after))) (append-nil targets) (h [])

-- the first of bytes, and the others
pub first_of : (bytes : List ℕ) → 1 ≤ length bytes → (tail : List ℕ) × (bytes ≡ get_or bytes 0 0 ∷ tail)
first_of [] h = absurd (let no : ⊥ = omega (arith, h) in no)
first_of (b ∷ bytes) h = (bytes, refl)

-- what is open, one token more
pub nested_more : (n : ℕ) (code rest after : List ℕ) (inner : List Bool) (now : Option (List Bool)) → left_after n code ≡ Some rest → nested_after n code ≡ Some (Some inner)
    → Enters rest after inner now → nested_after (n + 1) code ≡ Some now
nested_more n code rest after inner now l e s = rw (add-one, e, l, s.1) s.2

-- what is left, one token more
pub entered_more : (n : ℕ) (code rest after : List ℕ) (inner : List Bool) (now : Option (List Bool)) → left_after n code ≡ Some rest → Enters rest after inner now → left_after (n + 1) code ≡ Some after
entered_more n code rest after inner now l s = one_more n code rest after l (one_after s.0 rest after s.1)

-- bytes after the last end, where some are left
pub halts_after : (code rest after : List ℕ) (n : ℕ) (inner : List Bool) (o : Option Halt) → left_after n code ≡ Some rest → nested_after n code ≡ Some (Some inner) → Enters rest after inner None
    → IfSome o (λ h. (h.tokens ≡ n + 1) × (h.rest.now ≡ after) × (h.why ≡ Left) × (after ≢ [])) → IfSome o (IsHaltIn code)
halts_after code rest after n inner None l e s h = tt
halts_after code rest after n inner (Some x) l e s h =
    let one : Halts code (n + 1) Left after = (entered_more n code rest after inner None l s, (h.3, nested_more n code rest after inner None l e s)) in
    let two : Halts code x.tokens Left after = subst (λ (k : ℕ). Halts code k Left after) (sym h.0) one in
    let three : Halts code x.tokens x.why after = subst (λ (w : Stopped). Halts code x.tokens w after) (sym h.2) two in
    subst (λ (bytes : List ℕ). Halts code x.tokens x.why bytes) (sym h.1) three

pub no_bytes : (bytes : List ℕ) → length bytes ≡ 0 → bytes ≡ []
no_bytes [] e = refl
no_bytes (b ∷ bytes) e = absurd (let no : ⊥ = omega (arith, e) in no)

-- the bytes end before the last end
pub short_halt : (code rest : List ℕ) (inner : List Bool) (n m : ℕ) → n ≡ m → left_after n code ≡ Some rest → nested_after n code ≡ Some (Some inner) → rest ≡ [] → Halts code m Short rest
short_halt code rest inner n m e l k none = subst (λ (i : ℕ). Halts code i Short rest) e (l, (none, inner, k))

-- what the answer says of a token that stands there
pub closed_when : (o : Option (Option (List Bool))) (inner : List Bool) (closes : Bool) → o ≡ Some (if closes then None else Some inner) → closes ≡ true → o ≡ Some None
closed_when o inner true e k = e
closed_when o inner false e k = absurd cc

pub open_when : (o : Option (Option (List Bool))) (inner : List Bool) (closes : Bool) → o ≡ Some (if closes then None else Some inner) → closes ≡ false → o ≡ Some (Some inner)
open_when o inner true e k = absurd cc
open_when o inner false e k = e

-- and of one that cannot
pub none_when : {Y : Type 0} (fault : Fault) (o : Option Y) → fault ≡ Malformed → Fails fault o → o ≡ None
none_when Malformed o k h = h
none_when Memory o k h = absurd cc
