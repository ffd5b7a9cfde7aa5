-- What a function gives that reads, against what a production reads.
use Rattle.std.specs.Prelude.{◌≡◌, ◌<◌, ℕ, List, ◌++◌, length, Option, Some, None, Result, Ok, Err, IsTrue}
use Rattle.std.specs.Borrow.{Bor}
use Rattle.wsyntax.specs.Brackets.{lies_within}
use Rattle.wsyntax.specs.Instructions.{Op, Token, Do}
use Rattle.wsyntax.specs.declared.instructions.Token.{Token as Held}
use Rattle.wsyntax.specs.declared.opcode.Opcode.{Opcode}
use Rattle.wsyntax.specs.Modules.{decoded_as}
use Rattle.wsyntax.specs.Binary.Instructions.{immediates}
use Rattle.wsyntax.specs.Binary.Nesting.{seen_as, token_at}
use Rattle.wdecode.specs.declared.fault.Fault.{Fault}
use Rattle.wdecode.specs.declared.fault.Fault.TheVariants.{Malformed, Memory}

-- Malformed is a fault only where nothing is read; out of memory always may be one
abbrev pub Fails : {Y : Type 0} → Fault → Option Y → Type 0
Fails Memory read = Unit {0}
Fails Malformed read = read ≡ None

-- what is given, seen by view, is what is read
abbrev pub Gives : {X Y : Type 0} → (X → Y) → Result X Fault → Option Y → Type 0
Gives view (Ok x) read = read ≡ Some (view x)
Gives view (Err e) read = Fails e read

-- the bytes after what is read
abbrev pub rest_of : {A : Type 0} → Option (A × List ℕ) → Option (List ℕ)
rest_of (Some x) = Some x.1
rest_of None = None

-- a token stands at the front of the bytes, and the rest after it
abbrev pub Begins : List ℕ → Token → List ℕ → Type 0
Begins bytes t rest = ◌≡◌ {A = Option (Token × List ℕ)} (token_at bytes) (Some (t, rest))

-- The token that is given and the bytes after it are what is read after an opcode, whatever targets there are.
abbrev pub GivesImmediates : Result (Held × Bor (List ℕ)) Fault → Opcode → List ℕ → Type 0
GivesImmediates r opcode bytes =
    (targets : List ℕ) → Gives (λ x. (decoded_as targets x.0, x.1.now)) r (seen_as Do ((immediates opcode).read bytes))

-- A token that is given, seen by the targets and whatever goes after them, is what is read; the targets grew.
abbrev pub GivesToken : {X : Type 0} → (List ℕ → X → Token) → List ℕ → List ℕ → X × List ℕ
    → Option (Token × List ℕ) → Type 0
GivesToken look old new x read = (added : List ℕ) × (new ≡ old ++ added)
    × ((more : List ℕ) → ◌≡◌ {A = Option (Token × List ℕ)} read (Some (look (new ++ more) x.0, x.1)))

-- A token is read that has no labels and is no bracket.
abbrev pub ReadsPlain : List ℕ → Held → List ℕ → Type 0
ReadsPlain bytes t rest = (length rest < length bytes)
    × ((targets : ℕ) → IsTrue (lies_within targets t))
    × ((targets : List ℕ) → (i : Op) × (decoded_as targets t ≡ Do i) × (token_at bytes ≡ Some (Do i, rest)))

-- A token is read that opens a block.
abbrev pub ReadsBracket : List ℕ → Held → List ℕ → Type 0
ReadsBracket bytes t rest = (length rest < length bytes)
    × ((targets : List ℕ) → token_at bytes ≡ Some (decoded_as targets t, rest))
