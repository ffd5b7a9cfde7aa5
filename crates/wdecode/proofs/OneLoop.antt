-- One loop that reads an expression token by token, and may do more with each: what it keeps, how it goes on, and what it has at the end.
use Rattle.std.specs.Prelude.{IsTrue}
use Rattle.std.specs.List.{list_all}
use Rattle.std.proofs.Common.{◌≡◌, ℕ, suc, ◌+◌, ◌-◌, ◌≤◌, Bool, true, false, cond, List, [], ◌∷◌, ◌++◌, length, map, Some, None, refl, sym, ap, subst, ◌∙◌, append_assoc, arith}
use Rattle.std.proofs.lemmas.List.{map_push, append-nil, length-append}
use Rattle.wsyntax.specs.declared.instructions.Token.{Token as Held}
use Rattle.wsyntax.specs.Brackets.{closes, lies_within}
use Rattle.wsyntax.specs.BranchTables.{Follows, FollowAll}
use Rattle.wsyntax.specs.Instructions.{Token}
use Rattle.wsyntax.specs.Modules.{decoded_as}
use Rattle.wsyntax.specs.Binary.Nesting.{token_at, nest, tokens_at, expression}
use Rattle.wdecode.specs.Gives.{GivesToken, ReadsPlain}
use Rattle.wdecode.proofs.Trees.{push, Tokens}
use Rattle.wdecode.proofs.FlatLoop.{token_shorter, goes_on, comes_to_end}
use Rattle.wdecode.proofs.BranchTables.{follows_next, no_table}
use Rattle.wdecode.proofs.Closed.{Leaves, leaves_next, leaves_none, within_next}

-- Of the bytes of an expression these tokens were read, with these targets; s is open, from the innermost block on, and the rest is to be read.
pub record SoFar (bytes : List ℕ) (tokens : List Held) (targets : List ℕ) (s : List Bool) (rest : List ℕ) : Type 0 where
  pub so_far : (more : List ℕ) → push (map (decoded_as (targets ++ more)) tokens) (tokens_at (length bytes - length tokens) s rest) ≡ tokens_at (length bytes) [] bytes
  pub closing : Leaves tokens s
  pub within : IsTrue (list_all (lies_within (length targets)) tokens)
  pub follow : FollowAll 0 tokens (length targets)
  pub room : length rest + length tokens ≤ length bytes

grown : (old added new : List ℕ) (tokens : List Held) (read total : Tokens) → new ≡ old ++ added → ((more : List ℕ) → push (map (decoded_as (old ++ more)) tokens) read ≡ total) → (more : List ℕ) → push (map (decoded_as (new ++ more)) tokens) read ≡ total
grown old added new tokens read total e so_far more =
    let same : old ++ (added ++ more) ≡ new ++ more = sym (append_assoc old added more) ∙ ap (λ (x : List ℕ). x ++ more) (sym e) in
    subst (λ (x : List ℕ). push (map (decoded_as x) tokens) read ≡ total) same (so_far (added ++ more))

-- a token moves what is open; or it ends the expression
abbrev pub Moves : List Bool → List Bool → Held → Bool → Type 0
Moves s now t ends = (targets : List ℕ) → nest s (decoded_as targets t) ≡ Some (cond ends None (Some now))

one_more : (bytes : List ℕ) (tokens : List Held) (old new : List ℕ) (s now : List Bool) (rest after : List ℕ) (t : Held) → SoFar bytes tokens old s rest
    → GivesToken decoded_as old new (t, after) (token_at rest) → IsTrue (lies_within (length new) t) → Follows (length old) t (length new)
    → ((targets : List ℕ) → nest s (decoded_as targets t) ≡ Some (Some now))
    → SoFar bytes (tokens ++ t ∷ []) new now after
one_more bytes tokens old new s now rest after t h g fits adds opened =
    let shorter = token_shorter rest (decoded_as (new ++ []) t) after (g.2 []) in
    let room = h.room in
    let longer : length (tokens ++ t ∷ []) ≡ length tokens + 1 = length-append tokens (t ∷ []) in
    let fuel : length bytes - length tokens ≡ suc (length bytes - length (tokens ++ t ∷ [])) = omega arith in
    let targets_grow : length old ≤ length new = omega (arith, ap length g.1, length-append old g.0) in
    record {
      so_far = λ more.
          let look = decoded_as (new ++ more) in
          let on = goes_on (map look tokens) (length bytes - length tokens) (length bytes - length (tokens ++ t ∷ [])) s now rest after (look t) (tokens_at (length bytes) [] bytes) fuel (g.2 more) (opened (new ++ more))
          (grown old g.0 new tokens (tokens_at (length bytes - length tokens) s rest) (tokens_at (length bytes) [] bytes) g.1 h.so_far more) in
          subst (λ (x : List Token). push x (tokens_at (length bytes - length (tokens ++ t ∷ [])) now after) ≡ tokens_at (length bytes) [] bytes) (sym (map_push look tokens t)) on;
      closing = leaves_next new tokens t s now (opened new) h.closing;
      within = within_next (length old) (length new) targets_grow tokens t h.within fits;
      follow = follows_next 0 (length old) (length new) tokens t h.follow adds;
      room = omega arith;
    }

-- a token is read that leaves blocks or the expression open
pub continues : (bytes : List ℕ) (tokens pushed : List Held) (old new : List ℕ) (s now : List Bool) (rest after : List ℕ) (t : Held) (ends : Bool) → SoFar bytes tokens old s rest
    → GivesToken decoded_as old new (t, after) (token_at rest) → IsTrue (lies_within (length new) t) → Follows (length old) t (length new)
    → Moves s now t ends → ends ≡ false → pushed ≡ tokens ++ t ∷ []
    → SoFar bytes pushed new now after
continues bytes tokens pushed old new s now rest after t ends h g fits adds moves open_still is =
    let opened : (targets : List ℕ) → nest s (decoded_as targets t) ≡ Some (Some now) = λ targets. moves targets ∙ ap (λ (b : Bool). Some (cond b None (Some now))) open_still in
    subst (λ (x : List Held). SoFar bytes x new now after) (sym is) (one_more bytes tokens old new s now rest after t h g fits adds opened)

-- a token is read that has no labels and is no bracket
pub reads_on : (bytes : List ℕ) (tokens pushed : List Held) (targets : List ℕ) (s : List Bool) (rest after : List ℕ) (t : Held) → SoFar bytes tokens targets s rest
    → ReadsPlain rest t after → pushed ≡ tokens ++ t ∷ [] → SoFar bytes pushed targets s after
reads_on bytes tokens pushed targets s rest after t h plain is =
    continues bytes tokens pushed targets targets s s rest after t false h
    ([], sym (append-nil targets), λ more. let i = plain.2 (targets ++ more) in i.2 ∙ ap (λ (u : Token). Some (u, after)) (sym i.1))
    (plain.1 (length targets)) (no_table t plain.1 (length targets))
    (λ u. rw (plain.2 u).1 refl)
    refl is

-- what the loop has when a token closes the expression
pub record AllRead (bytes : List ℕ) (tokens : List Held) (targets rest : List ℕ) : Type 0 where
  pub read : expression.read bytes ≡ Some (map (decoded_as targets) tokens, rest)
  pub closed : IsTrue (closes [] tokens)
  pub within : IsTrue (list_all (lies_within (length targets)) tokens)
  pub follow : FollowAll 0 tokens (length targets)

the_last : (bytes : List ℕ) (tokens : List Held) (old new : List ℕ) (s : List Bool) (rest after : List ℕ) (t : Held) → SoFar bytes tokens old s rest
    → GivesToken decoded_as old new (t, after) (token_at rest) → IsTrue (lies_within (length new) t) → Follows (length old) t (length new)
    → ((targets : List ℕ) → nest s (decoded_as targets t) ≡ Some None)
    → AllRead bytes (tokens ++ t ∷ []) new after
unfolding expression
the_last bytes tokens old new s rest after t h g fits adds closed =
    let look = decoded_as (new ++ []) in
    let shorter = token_shorter rest (look t) after (g.2 []) in
    let room = h.room in
    let fuel : length bytes - length tokens ≡ suc (length bytes - (length tokens + 1)) = omega arith in
    let targets_grow : length old ≤ length new = omega (arith, ap length g.1, length-append old g.0) in
    let done = comes_to_end (map look tokens) (length bytes - length tokens) (length bytes - (length tokens + 1)) s rest after (look t) (tokens_at (length bytes) [] bytes) fuel (g.2 []) (closed (new ++ []))
    (grown old g.0 new tokens (tokens_at (length bytes - length tokens) s rest) (tokens_at (length bytes) [] bytes) g.1 h.so_far []) in
    record {
      read = done ∙ ap (λ (x : List Token). let y : List Token × List ℕ = (x, after) in Some y) (sym (map_push look tokens t) ∙ ap (λ (x : List ℕ). map (decoded_as x) (tokens ++ t ∷ [])) (append-nil new));
      closed = leaves_none new tokens t s (closed new) h.closing;
      within = within_next (length old) (length new) targets_grow tokens t h.within fits;
      follow = follows_next 0 (length old) (length new) tokens t h.follow adds;
    }

-- a token is read that closes the expression
pub finishes : (bytes : List ℕ) (tokens pushed : List Held) (old new : List ℕ) (s now : List Bool) (rest after : List ℕ) (t : Held) (ends : Bool) → SoFar bytes tokens old s rest
    → GivesToken decoded_as old new (t, after) (token_at rest) → IsTrue (lies_within (length new) t) → Follows (length old) t (length new)
    → Moves s now t ends → ends ≡ true → pushed ≡ tokens ++ t ∷ []
    → AllRead bytes pushed new after
finishes bytes tokens pushed old new s now rest after t ends h g fits adds moves at_end is =
    let closed : (targets : List ℕ) → nest s (decoded_as targets t) ≡ Some None = λ targets. moves targets ∙ ap (λ (b : Bool). Some (cond b None (Some now))) at_end in
    subst (λ (x : List Held). AllRead bytes x new after) (sym is) (the_last bytes tokens old new s rest after t h g fits adds closed)

-- the same lists without room to spare
pub shrunk : (bytes : List ℕ) (tokens kept : List Held) (targets few rest : List ℕ) → kept ≡ tokens → few ≡ targets → AllRead bytes tokens targets rest → AllRead bytes kept few rest
shrunk bytes tokens kept targets few rest e f all =
    subst (λ (ts : List Held). AllRead bytes ts few rest) (sym e) (subst (λ (xs : List ℕ). AllRead bytes tokens xs rest) (sym f) all)
