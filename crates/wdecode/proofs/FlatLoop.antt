-- Reading an expression token by token, as a loop does.
use Rattle.std.proofs.Common.{◌≡◌, ℕ, zero, suc, ◌<◌, Bool, List, [], ◌∷◌, ◌++◌, length, Some, None, refl, sym, ap, ◌∙◌, arith}
use Rattle.std.proofs.lemmas.List.{length-append}
use Rattle.wsyntax.specs.Instructions.{Token, Do, OpenBlock, OpenLoop, OpenIf, Else, End}
use Rattle.wdecode.specs.declared.fault.Fault.{Fault}
use Rattle.wdecode.specs.declared.fault.Fault.TheVariants.{Malformed, Memory}
use Rattle.wdecode.specs.Gives.{Fails}
use Rattle.wsyntax.specs.Binary.Nesting.{SpellsToken, token_at, nest, tokens_at}
use Rattle.wdecode.proofs.OneToken.{token_reads, plain_first}
use Rattle.wdecode.proofs.Trees.{Tokens, push, push-push}

spelled_some : (front : List ℕ) (t : Token) → SpellsToken front t → 0 < length front
spelled_some front (Do i) s = let f = plain_first front i s in omega (arith, ap length f.2)
spelled_some front (OpenBlock t) s = omega (arith, ap length s.1)
spelled_some front (OpenLoop t) s = omega (arith, ap length s.1)
spelled_some front (OpenIf t) s = omega (arith, ap length s.1)
spelled_some front Else s = omega (arith, ap length s)
spelled_some front End s = omega (arith, ap length s)

pub token_shorter : (bytes : List ℕ) (t : Token) (rest : List ℕ) → token_at bytes ≡ Some (t, rest) → length rest < length bytes
token_shorter bytes t rest e =
    let f = token_reads.sound bytes t rest e in
    let some = spelled_some f.0 t f.1 in
    omega (arith, ap length f.2, length-append f.0 rest)

pub goes_on : (front : List Token) (fuel m : ℕ) (s now : List Bool) (bytes after : List ℕ) (t : Token) (total : Tokens) → fuel ≡ suc m → token_at bytes ≡ Some (t, after) → nest s t ≡ Some (Some now)
    → push front (tokens_at fuel s bytes) ≡ total → push (front ++ t ∷ []) (tokens_at m now after) ≡ total
goes_on front fuel m s now bytes after t total k h opened so_far =
    let one : tokens_at fuel s bytes ≡ push (t ∷ []) (tokens_at m now after) = rw (k, h, opened) refl in
    sym (push-push front (t ∷ []) (tokens_at m now after)) ∙ ap (push front) (sym one) ∙ so_far

pub comes_to_end : (front : List Token) (fuel m : ℕ) (s : List Bool) (bytes after : List ℕ) (t : Token) (total : Tokens) → fuel ≡ suc m → token_at bytes ≡ Some (t, after) → nest s t ≡ Some None
    → push front (tokens_at fuel s bytes) ≡ total → total ≡ Some (front ++ t ∷ [], after)
comes_to_end front fuel m s bytes after t total k h closed so_far =
    let one : tokens_at fuel s bytes ≡ Some (t ∷ [], after) = rw (k, h, closed) refl in
    sym so_far ∙ ap (push front) one

pub token_fails : (e : Fault) (front : List Token) (fuel : ℕ) (s : List Bool) (bytes : List ℕ) (total : Tokens) → Fails e (token_at bytes) → push front (tokens_at fuel s bytes) ≡ total → Fails e total
token_fails Memory front fuel s bytes total h so_far = tt
token_fails Malformed front zero s bytes total h so_far = sym so_far
token_fails Malformed front (suc m) s bytes total h so_far =
    let one : tokens_at (suc m) s bytes ≡ None = rw h refl in
    sym so_far ∙ ap (push front) one

pub nest_fails : (e : Fault) (front : List Token) (fuel : ℕ) (s : List Bool) (bytes after : List ℕ) (t : Token) (total : Tokens) → token_at bytes ≡ Some (t, after) → Fails e (nest s t) → push front (tokens_at fuel s bytes) ≡ total → Fails e total
nest_fails Memory front fuel s bytes after t total h no_nest so_far = tt
nest_fails Malformed front zero s bytes after t total h no_nest so_far = sym so_far
nest_fails Malformed front (suc m) s bytes after t total h no_nest so_far =
    let one : tokens_at (suc m) s bytes ≡ None = rw (h, no_nest) refl in
    sym so_far ∙ ap (push front) one
