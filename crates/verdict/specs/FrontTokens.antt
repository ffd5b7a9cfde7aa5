-- The token at the front, read, checked and handed on.
use Rattle.std.specs.Prelude.{◌≡◌, ◌<◌, ℕ, Bool, true, false, List, [], length, Some, Result, Ok, Err}
use Rattle.std.specs.Borrow.{Bor}
use Rattle.wcheck.specs.Checking.{Checking, with_frames}
use Rattle.wsyntax.specs.declared.instructions.Token.{Token as Held}
use Rattle.wsyntax.specs.Modules.{decoded_as}
use Rattle.wsyntax.specs.Binary.Nesting.{token_at}
use Rattle.wsyntax.specs.Validation.Algorithm.{step}
use Rattle.verdict.specs.declared.front_token.FrontToken.{FrontToken}
use Rattle.verdict.specs.declared.front_token.FrontToken.TheVariants.{Taken, Refused, Memory, Other}

-- this token is at the front, whatever labels there are, and these are the bytes after it
abbrev pub ReadsAlone : List ℕ → Held → List ℕ → Type 0
ReadsAlone bytes h rest = (length rest < length bytes) × ((targets : List ℕ) → token_at bytes ≡ Some (decoded_as targets h, rest))

-- it is taken
abbrev pub TakesFront : List ℕ → Checking → Checking → Held → List ℕ → Type 0
TakesFront bytes old new h rest =
    ReadsAlone bytes h rest × (step old.inside (decoded_as [] h) old.frames ≡ Some new.frames) × (new ≡ with_frames old new.frames)

-- what became of the token at the front: where it is another, nothing was done
abbrev pub PassesFront : List ℕ → Checking → Checking → FrontToken → Type 0
PassesFront bytes old new (Taken h rest) = TakesFront bytes old new h rest.now
PassesFront bytes old new Refused = Unit {0}
PassesFront bytes old new Memory = Unit {0}
PassesFront bytes old new Other = new ≡ old

-- what a look at this token at the front says, with these bytes after it
abbrev pub front_token : {E : Type 0} → Result Bool E → Held → Bor (List ℕ) → FrontToken
front_token (Ok true) h after = Taken h after
front_token (Ok false) h after = Refused
front_token (Err e) h after = Memory
