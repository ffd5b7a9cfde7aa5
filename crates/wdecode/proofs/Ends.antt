-- 5.4.6 Where an expression ends, read token by token of which none is kept.
use Rattle.std.proofs.Common.{◌≡◌, ℕ, zero, suc, ◌-◌, ◌≤◌, Bool, true, false, cond, List, [], ◌∷◌, length, Some, None}
use Rattle.std.proofs.Common.{refl, sym, ap, subst, ◌∙◌, arith}
use Rattle.std.proofs.lemmas.List.{append-nil}
use Rattle.wnum.specs.Reading.{◌>>=◌}
use Rattle.wsyntax.specs.declared.instructions.Token.{Token as Held}
use Rattle.wsyntax.specs.Instructions.{Token}
use Rattle.wsyntax.specs.Initials.{tokens_in}
use Rattle.wsyntax.specs.Modules.{decoded_as}
use Rattle.wsyntax.specs.Binary.Nesting.{token_at, nest, and_then, tokens_at, expression}
use Rattle.wdecode.specs.declared.fault.Fault.{Fault}
use Rattle.wdecode.specs.declared.fault.Fault.TheVariants.{Malformed, Memory}
use Rattle.wdecode.specs.Gives.{Begins, Fails, GivesToken, rest_of}
use Rattle.wdecode.proofs.FlatLoop.{token_shorter}
use Rattle.wdecode.proofs.Trees.{Tokens}

-- the tokens from this one on, of which at most n come after it; s is open before it
abbrev pub from : ℕ → List Bool → Token → List ℕ → Tokens
from n s t rest = nest s t >>= and_then t rest (λ now. tokens_at n now rest)

-- from this token on, with s open before it, the expression at the front of all bytes ends where it does
pub record Reaches (whole : List ℕ) (s : List Bool) (t : Token) (rest : List ℕ) : Type 0 where
  pub most : ℕ
  pub enough : length rest ≤ most
  pub same : rest_of (from most s t rest) ≡ rest_of (expression.read whole)

-- a token is read, and then the others
token_then : (n : ℕ) (s : List Bool) (bytes : List ℕ) (t : Token) (rest : List ℕ) → Begins bytes t rest
    → tokens_at (suc n) s bytes ≡ from n s t rest
token_then n s bytes t rest is = rw is refl

-- nothing is read where no token is
none_then : (n : ℕ) (s : List Bool) (bytes : List ℕ) → token_at bytes ≡ None → tokens_at n s bytes ≡ None
none_then zero s bytes is = refl
none_then (suc n) s bytes is = rw is refl

-- a token in front does not move the end
same_rest : (t : Token) (read : Tokens)
    → rest_of (read >>= λ x. let y : List Token × List ℕ = (t ∷ x.0, x.1) in Some y) ≡ rest_of read
same_rest t (Some x) = refl
same_rest t None = refl

-- a token that is given is seen by the targets as they are
pub given : (bytes old new : List ℕ) (t : Held) (rest : List ℕ) → GivesToken decoded_as old new (t, rest) (token_at bytes)
    → Begins bytes (decoded_as new t) rest
given bytes old new t rest g = subst (λ (targets : List ℕ). Begins bytes (decoded_as targets t) rest) (append-nil new) (g.2 [])

-- the first token, and then the others
pub whole_from : (whole : List ℕ) (t : Token) (rest : List ℕ) → Begins whole t rest
    → expression.read whole ≡ from (length whole - 1) [] t rest
unfolding expression
whole_from whole t rest is =
    let shorter = token_shorter whole t rest is in
    let fuel : length whole ≡ suc (length whole - 1) = omega arith in
    ap (λ (n : ℕ). tokens_at n [] whole) fuel ∙ token_then (length whole - 1) [] whole t rest is

-- the first token stands at the front, and nothing is open
pub starts : (whole : List ℕ) (s : List Bool) (t : Token) (rest : List ℕ) → s ≡ [] → Begins whole t rest → Reaches whole s t rest
starts whole s t rest none is =
    let shorter = token_shorter whole t rest is in
    let n = length whole - 1 in
    record {
      most = n;
      enough = omega arith;
      same = ap (λ (o : List Bool). rest_of (from n o t rest)) none ∙ ap rest_of (sym (whole_from whole t rest is));
    }

-- a token moves what is open; or it ends the expression
abbrev Moves : List Bool → List Bool → Token → Bool → Type 0
Moves s now t ends = nest s t ≡ Some (cond ends None (Some now))

-- after a token that leaves the expression open
left_open : (n : ℕ) (s now : List Bool) (t : Token) (rest : List ℕ) (ends : Bool) → Moves s now t ends → ends ≡ false
    → rest_of (from n s t rest) ≡ rest_of (tokens_at n now rest)
left_open n s now t rest ends moves open_still = rw (moves, open_still) (same_rest t (tokens_at n now rest))

-- a token leaves the expression open, and the next one is read
pub goes_on : (whole : List ℕ) (s now : List Bool) (t u : Token) (rest after : List ℕ) (ends : Bool) → Reaches whole s t rest
    → Moves s now t ends → ends ≡ false → Begins rest u after → Reaches whole now u after
goes_on whole s now t u rest after ends h moves open_still is =
    let shorter = token_shorter rest u after is in
    let enough = h.enough in
    let n = h.most - 1 in
    let fuel : h.most ≡ suc n = omega arith in
    let next = ap (λ (m : ℕ). tokens_at m now rest) fuel ∙ token_then n now rest u after is in
    record {
      most = n;
      enough = omega arith;
      same = ap rest_of (sym next) ∙ sym (left_open h.most s now t rest ends moves open_still) ∙ h.same;
    }

-- a token closes the expression
pub closes : (whole : List ℕ) (s now : List Bool) (t : Token) (rest : List ℕ) (ends : Bool) → Reaches whole s t rest
    → Moves s now t ends → ends ≡ true → rest_of (expression.read whole) ≡ Some rest
closes whole s now t rest ends h moves at_end =
    let last : rest_of (from h.most s t rest) ≡ Some rest = rw (moves, at_end) refl in
    sym h.same ∙ last

-- a token that cannot stand there
pub cannot_stand : (e : Fault) (whole : List ℕ) (s : List Bool) (t : Token) (rest : List ℕ) → Reaches whole s t rest
    → Fails e (nest s t) → Fails e (rest_of (expression.read whole))
cannot_stand Memory whole s t rest h none = tt
cannot_stand Malformed whole s t rest h none =
    let nothing : rest_of (from h.most s t rest) ≡ None = rw none refl in
    sym h.same ∙ nothing

-- no token is there
pub none_there : (e : Fault) (whole : List ℕ) (s now : List Bool) (t : Token) (rest : List ℕ) (ends : Bool) → Reaches whole s t rest
    → Moves s now t ends → ends ≡ false → Fails e (token_at rest) → Fails e (rest_of (expression.read whole))
none_there Memory whole s now t rest ends h moves open_still none = tt
none_there Malformed whole s now t rest ends h moves open_still none =
    sym h.same ∙ left_open h.most s now t rest ends moves open_still ∙ ap rest_of (none_then h.most now rest none)

-- What is said of the end, said of all tokens.

-- no token is there at first
pub none_at_first : (e : Fault) (whole : List ℕ) → Fails e (token_at whole) → Fails e (expression.read whole)
unfolding expression
none_at_first Memory whole none = tt
none_at_first Malformed whole none = none_then (length whole) [] whole none

-- what has no end is not read
pub none_of_all : (e : Fault) (read : Tokens) → Fails e (rest_of read) → Fails e read
none_of_all Memory read none = tt
none_of_all Malformed (Some x) none = absurd cc
none_of_all Malformed None none = refl

-- what has an end is read
pub all_of : (read : Tokens) (rest : List ℕ) → rest_of read ≡ Some rest → read ≡ Some (tokens_in read, rest)
all_of (Some x) rest is =
    let same : x.1 ≡ rest = cc in
    ap (λ (r : List ℕ). let y : List Token × List ℕ = (x.0, r) in Some y) same
all_of None rest is = absurd cc
