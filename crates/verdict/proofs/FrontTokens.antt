-- The token at the front, looked at and handed on.
use Rattle.std.proofs.Common.{Bor, ◌≡◌, ℕ, ◌-◌, get_or, take, drop, ◌<◌, ◌≤◌, Bool, true, false, List, [], ◌∷◌, length, Some, Result, Ok, Err, IfOk, sym, ap, subst, ◌∙◌, arith}
use Rattle.wsyntax.specs.declared.instructions.Token.{Token as Held}
use Rattle.wsyntax.specs.Instructions.{Token}
use Rattle.wsyntax.specs.Modules.{decoded_as}
use Rattle.wsyntax.specs.Binary.Nesting.{token_at}
use Rattle.wsyntax.specs.Validation.Algorithm.{when, step}
use Rattle.wcheck.specs.Checking.{Checking, with_frames}
use Rattle.wdecode.specs.Gives.{ReadsPlain, ReadsBracket}
use Rattle.verdict.specs.declared.front_token.FrontToken.{FrontToken}
use Rattle.verdict.specs.FrontTokens.{ReadsAlone, TakesFront, PassesFront, front_token}
use Rattle.verdict.proofs.OnePass.{front}

-- the token h is at the front, and the checker looked at it
told : {E : Type 0} (old new : Checking) (bytes : List ℕ) (after : Bor (List ℕ)) (h : Held) (r : Result Bool E) → ReadsAlone bytes h after.now → IfOk r (λ ok. step old.inside (decoded_as [] h) old.frames ≡ when ok (Some new.frames)) → IfOk r (λ _. new ≡ with_frames old new.frames) → PassesFront bytes old new (front_token r h after)
told old new bytes after h (Ok true) read step_is same = (read, step_is, same)
told old new bytes after h (Ok false) read step_is same = tt
told old new bytes after h (Err e) read step_is same = tt

-- what is read that has no labels
alone : (bytes after : List ℕ) (h : Held) → ReadsPlain bytes h after → ReadsAlone bytes h after
alone bytes after h read =
    (read.0, λ targets. let i = read.2 targets in i.2 ∙ ap (λ (t : Token). Some (t, after)) (sym i.1))

-- a frequent instruction that is read and looked at
pub looked : {E : Type 0} (old new : Checking) (bytes : List ℕ) (after : Bor (List ℕ)) (b : ℕ) (h : Held) (r : Result Bool E) (given : FrontToken) → 1 ≤ length bytes → get_or bytes 0 0 ≡ b → ReadsPlain (b ∷ take (length bytes - 1) (drop 1 bytes)) h after.now → IfOk r (λ ok. step old.inside (decoded_as [] h) old.frames ≡ when ok (Some new.frames)) → IfOk r (λ _. new ≡ with_frames old new.frames) → given ≡ front_token r h after → PassesFront bytes old new given
looked old new bytes after b h r given some is read step_is same e =
    rw e (told old new bytes after h r (alone bytes after.now h (subst (λ (x : List ℕ). ReadsPlain x h after.now) (front bytes b some is) read)) step_is same)

-- the beginning of a block that is read and looked at
pub looked_open : {E : Type 0} (old new : Checking) (bytes : List ℕ) (after : Bor (List ℕ)) (b : ℕ) (h : Held) (r : Result Bool E) (given : FrontToken) → 1 ≤ length bytes → get_or bytes 0 0 ≡ b → ReadsBracket (b ∷ take (length bytes - 1) (drop 1 bytes)) h after.now → IfOk r (λ ok. step old.inside (decoded_as [] h) old.frames ≡ when ok (Some new.frames)) → IfOk r (λ _. new ≡ with_frames old new.frames) → given ≡ front_token r h after → PassesFront bytes old new given
looked_open old new bytes after b h r given some is read step_is same e =
    rw e (told old new bytes after h r (subst (λ (x : List ℕ). ReadsBracket x h after.now) (front bytes b some is) read) step_is same)

-- a token of one byte that is looked at
pub looked_one : {E : Type 0} (old new : Checking) (bytes : List ℕ) (after : Bor (List ℕ)) (b : ℕ) (h : Held) (r : Result Bool E) (given : FrontToken) → 1 ≤ length bytes → get_or bytes 0 0 ≡ b → after.now ≡ take (length bytes - 1) (drop 1 bytes) → ((targets rest : List ℕ) → token_at (b ∷ rest) ≡ Some (decoded_as targets h, rest)) → IfOk r (λ ok. step old.inside (decoded_as [] h) old.frames ≡ when ok (Some new.frames)) → IfOk r (λ _. new ≡ with_frames old new.frames) → given ≡ front_token r h after → PassesFront bytes old new given
looked_one old new bytes after b h r given some is rest_is read step_is same e =
    let whole : b ∷ after.now ≡ bytes = ap (λ (x : List ℕ). b ∷ x) rest_is ∙ front bytes b some is in
    let shorter : length after.now < length bytes = omega (arith, ap length whole) in
    rw e (told old new bytes after h r (shorter, λ targets. ap token_at (sym whole) ∙ read targets after.now) step_is same)

-- what is read and taken after a byte
pub looked_behind : (old new : Checking) (bytes after : List ℕ) (h : Held) → ReadsPlain bytes h after → step old.inside (decoded_as [] h) old.frames ≡ Some new.frames → new ≡ with_frames old new.frames → TakesFront bytes old new h after
looked_behind old new bytes after h read step_is same = (alone bytes after h read, step_is, same)

-- a frequent instruction that is read and taken
pub looked_known : (old new : Checking) (bytes after : List ℕ) (b : ℕ) (h : Held) → 1 ≤ length bytes → get_or bytes 0 0 ≡ b → ReadsPlain (b ∷ take (length bytes - 1) (drop 1 bytes)) h after → step old.inside (decoded_as [] h) old.frames ≡ Some new.frames → new ≡ with_frames old new.frames → TakesFront bytes old new h after
looked_known old new bytes after b h some is read step_is same =
    looked_behind old new bytes after h (subst (λ (x : List ℕ). ReadsPlain x h after) (front bytes b some is) read) step_is same
