-- Reading and checking in one pass.
use Rattle.std.specs.Prelude.{◌≡◌, ◌<◌, ℕ, Bool, true, false, List, [], ◌∷◌, length, Some, None, Result, Ok, Err}
use Rattle.std.specs.Borrow.{Bor}
use Rattle.verdict.specs.declared.passing.FirstToken.{FirstToken}
use Rattle.verdict.specs.declared.passing.FirstToken.TheVariants.{Taken, Refused, Memory, Other}
use Rattle.verdict.specs.declared.passing.Passing.{Passing}
use Rattle.verdict.specs.declared.passing.Passing.TheVariants.{Passed, Stopped, Unknown}
use Rattle.wcheck.specs.Checking.{Checking, with_frames}
use Rattle.wsyntax.specs.Instructions.{Token}
use Rattle.wsyntax.specs.Binary.Nesting.{token_at}
use Rattle.wsyntax.specs.Validation.Context.{Context}
use Rattle.wsyntax.specs.Validation.Algorithm.{Frame, step}

-- these tokens are at the front, each of a byte at least and taken; those frames and bytes come after them
abbrev pub Reaches : Context → List Frame → List ℕ → List Token → List Frame → List ℕ → Type 0
Reaches C fs bytes [] gs rest = (fs ≡ gs) × (bytes ≡ rest)
Reaches C fs bytes (t ∷ ts) gs rest =
    (after : List ℕ) × (hs : List Frame) × (token_at bytes ≡ Some (t, after)) × (length after < length bytes) × (step C t fs ≡ Some hs) × Reaches C hs after ts gs rest

-- the bytes are these tokens, and after the last no frame is open and no byte is left
abbrev pub PassesAs : Context → List Frame → List ℕ → List Token → Type 0
PassesAs C fs bytes tokens = Reaches C fs bytes tokens [] []

-- no token at the front is taken
abbrev pub Refuses : Context → List Frame → List ℕ → Type 0
Refuses C fs bytes = (t : Token) (rest : List ℕ) → token_at bytes ≡ Some (t, rest) → step C t fs ≡ None

-- the bytes do not pass: tokens are taken up to where this many bytes are left, and none is taken there
abbrev pub StopsAt : Context → List Frame → List ℕ → ℕ → Type 0
StopsAt C fs bytes left =
    (tokens : List Token) × (gs : List Frame) × (rest : List ℕ) × Reaches C fs bytes tokens gs rest × (length rest ≡ left) × Refuses C gs rest × (gs ≡ [] → rest ≡ [] → ⊥)

-- what one loop says of the bytes of tokens
abbrev pub TokensPass : Context → List Frame → List ℕ → Passing → Type 0
TokensPass C fs bytes Passed = (all : List Token) × PassesAs C fs bytes all
TokensPass C fs bytes (Stopped tokens left) = (tokens.now ≡ bytes) × StopsAt C fs bytes left
TokensPass C fs bytes Unknown = Unit {0}

-- the token at the front is taken, and these are the bytes after it
abbrev pub Takes : List ℕ → Checking → Checking → List ℕ → Type 0
Takes bytes old new rest =
    (t : Token) × (token_at bytes ≡ Some (t, rest)) × (length rest < length bytes) × (step old.inside t old.frames ≡ Some new.frames) × (new ≡ with_frames old new.frames)

-- what became of the token at the front: where it is another, nothing was done
abbrev pub Passes : List ℕ → Checking → Checking → FirstToken → Type 0
Passes bytes old new (Taken rest) = Takes bytes old new rest.now
Passes bytes old new Refused = Refuses old.inside old.frames bytes
Passes bytes old new Memory = Unit {0}
Passes bytes old new Other = new ≡ old

-- what a look at the token at the front says, with these bytes after it
abbrev pub first_token : {E : Type 0} → Result Bool E → Bor (List ℕ) → FirstToken
first_token (Ok true) after = Taken after
first_token (Ok false) after = Refused
first_token (Err e) after = Memory
