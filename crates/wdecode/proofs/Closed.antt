-- Held tokens that close an expression, read one after the other.
use Rattle.std.specs.List.{list_all}
use Rattle.std.proofs.Common.{◌≡◌, ℕ, ◌+◌, ◌≤◌, Bool, true, false, ◌&&◌, List, [], ◌∷◌, ◌++◌, Some, None, refl, ap, ◌∙◌, append_assoc, arith}
use Rattle.std.proofs.lemmas.Bool.{ltb-true, lt-ltb}
use Rattle.wsyntax.specs.declared.instructions.Token.{Token as Held}
use Rattle.wsyntax.specs.declared.instructions.Token.TheVariants as held
use Rattle.wsyntax.specs.Brackets.{Bracket, Opening, Parting, Closing, Inner, bracket, behind, is_last, closes, lies_within}
use Rattle.wsyntax.specs.Instructions.{Token, Do, OpenBlock, OpenLoop, OpenIf, Else, End}
use Rattle.wsyntax.specs.Modules.{decoded_as}
use Rattle.wsyntax.specs.Binary.Nesting.{nest}

-- what a token of a tree does to the open blocks
abbrev pub bracket_of : Token → Bracket
bracket_of (Do i) = Inner
bracket_of (OpenBlock t) = Opening false
bracket_of (OpenLoop t) = Opening false
bracket_of (OpenIf t) = Opening true
bracket_of Else = Parting
bracket_of End = Closing

pub seen_bracket : (targets : List ℕ) (t : Held) → bracket t ≡ bracket_of (decoded_as targets t)
seen_bracket targets held.Unreachable = refl
seen_bracket targets held.Nop = refl
seen_bracket targets (held.Block t) = refl
seen_bracket targets (held.Loop t) = refl
seen_bracket targets (held.If t to) = refl
seen_bracket targets (held.Else to) = refl
seen_bracket targets held.End = refl
seen_bracket targets (held.Br l) = refl
seen_bracket targets (held.BrIf l) = refl
seen_bracket targets (held.BrTable count first) = refl
seen_bracket targets held.Return = refl
seen_bracket targets (held.Call x) = refl
seen_bracket targets (held.CallIndirect x) = refl
seen_bracket targets held.Drop = refl
seen_bracket targets held.Select = refl
seen_bracket targets (held.LocalGet x) = refl
seen_bracket targets (held.LocalSet x) = refl
seen_bracket targets (held.LocalTee x) = refl
seen_bracket targets (held.GlobalGet x) = refl
seen_bracket targets (held.GlobalSet x) = refl
seen_bracket targets (held.Load l a o) = refl
seen_bracket targets (held.Store l a o) = refl
seen_bracket targets held.MemorySize = refl
seen_bracket targets held.MemoryGrow = refl
seen_bracket targets (held.I32Const n) = refl
seen_bracket targets (held.I64Const n) = refl
seen_bracket targets (held.F32Const b) = refl
seen_bracket targets (held.F64Const b) = refl
seen_bracket targets (held.Numeric f) = refl

open_is : (a c : List Bool) → Some (Some a) ≡ Some (Some c) → a ≡ c
open_is a c e = cc

-- a token after which blocks stay open, or the expression
behind_open : (t : Token) (s now : List Bool) (more : List Bool → Bool) (last : Bool) → nest s t ≡ Some (Some now) → behind (bracket_of t) s more last ≡ more now
behind_open (Do i) s now more last e = ap more (open_is s now e)
behind_open (OpenBlock t) s now more last e = ap more (open_is (false ∷ s) now e)
behind_open (OpenLoop t) s now more last e = ap more (open_is (false ∷ s) now e)
behind_open (OpenIf t) s now more last e = ap more (open_is (true ∷ s) now e)
behind_open Else [] now more last e = absurd cc
behind_open Else (true ∷ s) now more last e = ap more (open_is (false ∷ s) now e)
behind_open Else (false ∷ s) now more last e = absurd cc
behind_open End [] now more last e = absurd cc
behind_open End (b ∷ s) now more last e = ap more (open_is s now e)

-- the token that closes the expression
behind_close : (t : Token) (s : List Bool) (more : List Bool → Bool) (last : Bool) → nest s t ≡ Some None → behind (bracket_of t) s more last ≡ last
behind_close (Do i) s more last e = absurd cc
behind_close (OpenBlock t) s more last e = absurd cc
behind_close (OpenLoop t) s more last e = absurd cc
behind_close (OpenIf t) s more last e = absurd cc
behind_close Else [] more last e = absurd cc
behind_close Else (true ∷ s) more last e = absurd cc
behind_close Else (false ∷ s) more last e = absurd cc
behind_close End [] more last e = refl
behind_close End (b ∷ s) more last e = absurd cc

-- what tokens leave open, the rest closes
abbrev pub Leaves : List Held → List Bool → Type 0
Leaves tokens s = (more : List Held) → closes [] (tokens ++ more) ≡ closes s more

pub leaves_next : (targets : List ℕ) (tokens : List Held) (t : Held) (s now : List Bool) → nest s (decoded_as targets t) ≡ Some (Some now) → Leaves tokens s → Leaves (tokens ++ t ∷ []) now
leaves_next targets tokens t s now e so_far more =
    ap (closes []) (append_assoc tokens (t ∷ []) more) ∙ so_far (t ∷ more)
    ∙ ap (λ (b : Bracket). behind b s (λ k. closes k more) (is_last more)) (seen_bracket targets t)
    ∙ behind_open (decoded_as targets t) s now (λ k. closes k more) (is_last more) e

pub leaves_none : (targets : List ℕ) (tokens : List Held) (t : Held) (s : List Bool) → nest s (decoded_as targets t) ≡ Some None → Leaves tokens s → closes [] (tokens ++ t ∷ []) ≡ true
leaves_none targets tokens t s e so_far =
    so_far (t ∷ [])
    ∙ ap (λ (b : Bracket). behind b s (λ k. closes k []) true) (seen_bracket targets t)
    ∙ behind_close (decoded_as targets t) s (λ k. closes k []) true e

-- parts lie in the list of targets, also when it grows
one_grows : (n m : ℕ) → n ≤ m → (t : Held) → lies_within n t ≡ true → lies_within m t ≡ true
one_grows n m le held.Unreachable e = refl
one_grows n m le held.Nop e = refl
one_grows n m le (held.Block t) e = refl
one_grows n m le (held.Loop t) e = refl
one_grows n m le (held.If t to) e = refl
one_grows n m le (held.Else to) e = refl
one_grows n m le held.End e = refl
one_grows n m le (held.Br l) e = refl
one_grows n m le (held.BrIf l) e = refl
one_grows n m le (held.BrTable count first) e = let lt = ltb-true (first + count) n e in lt-ltb (first + count) m (omega arith)
one_grows n m le held.Return e = refl
one_grows n m le (held.Call x) e = refl
one_grows n m le (held.CallIndirect x) e = refl
one_grows n m le held.Drop e = refl
one_grows n m le held.Select e = refl
one_grows n m le (held.LocalGet x) e = refl
one_grows n m le (held.LocalSet x) e = refl
one_grows n m le (held.LocalTee x) e = refl
one_grows n m le (held.GlobalGet x) e = refl
one_grows n m le (held.GlobalSet x) e = refl
one_grows n m le (held.Load l a o) e = refl
one_grows n m le (held.Store l a o) e = refl
one_grows n m le held.MemorySize e = refl
one_grows n m le held.MemoryGrow e = refl
one_grows n m le (held.I32Const v) e = refl
one_grows n m le (held.I64Const v) e = refl
one_grows n m le (held.F32Const b) e = refl
one_grows n m le (held.F64Const b) e = refl
one_grows n m le (held.Numeric f) e = refl

pub both : (a b : Bool) → (a && b) ≡ true → (a ≡ true) × (b ≡ true)
both true b e = (refl, e)
both false b e = absurd cc

and_both : (a b : Bool) → a ≡ true → b ≡ true → (a && b) ≡ true
and_both a b e f = rw (e, f) refl

pub within_next : (n m : ℕ) → n ≤ m → (tokens : List Held) (t : Held) → list_all (lies_within n) tokens ≡ true → lies_within m t ≡ true → list_all (lies_within m) (tokens ++ t ∷ []) ≡ true
within_next n m le [] t all last = and_both (lies_within m t) true last refl
within_next n m le (u ∷ tokens) t all last =
    let h = both (lies_within n u) (list_all (lies_within n) tokens) all in
    and_both (lies_within m u) (list_all (lies_within m) (tokens ++ t ∷ [])) (one_grows n m le u h.0) (within_next n m le tokens t h.1 last)
