-- 5.4 Expressions read token by token, with a stack of what is open.
use Rattle.std.specs.Prelude.{◌≡◌, ℕ, zero, suc, Bool, true, false, List, [], ◌∷◌, length, Option, Some, None, ◌==◌, if◌then◌else◌}
use Rattle.wnum.specs.Reading.{◌>>=◌}
use Rattle.wsyntax.specs.Instructions.{Token, Do, OpenBlock, OpenLoop, OpenIf, Else, End}
use Rattle.wsyntax.specs.Binary.Production.{Production}
use Rattle.wsyntax.specs.Binary.Types.{block_type}
use Rattle.wsyntax.specs.Binary.Instructions.{plain_instruction, SpellsTokens}

-- which bytes spell a token
abbrev pub SpellsToken : List ℕ → Token → Type 0
SpellsToken bytes (Do i) = plain_instruction.spells bytes i
SpellsToken bytes (OpenBlock t) = (h : List ℕ) × (bytes ≡ 0x02 ∷ h) × block_type.spells h t
SpellsToken bytes (OpenLoop t) = (h : List ℕ) × (bytes ≡ 0x03 ∷ h) × block_type.spells h t
SpellsToken bytes (OpenIf t) = (h : List ℕ) × (bytes ≡ 0x04 ∷ h) × block_type.spells h t
SpellsToken bytes Else = bytes ≡ 0x05 ∷ []
SpellsToken bytes End = bytes ≡ 0x0B ∷ []

-- what is read, as a token
abbrev pub seen_as : {A : Type 0} → (A → Token) → Option (A × List ℕ) → Option (Token × List ℕ)
seen_as f read = read >>= λ x. Some (f x.0, x.1)

-- 5.4 the token at the front
unfoldable pub token_at : List ℕ → Option (Token × List ℕ)
token_at [] = None
token_at (b ∷ rest) =
    if b == 0x02 then seen_as OpenBlock (block_type.read rest)
    else if b == 0x03 then seen_as OpenLoop (block_type.read rest)
    else if b == 0x04 then seen_as OpenIf (block_type.read rest)
    else if b == 0x05 then Some (Else, rest)
    else if b == 0x0B then Some (End, rest)
    else seen_as Do (plain_instruction.read (b ∷ rest))

-- 5.4.1 what is open after a token, where `inner` says of each open block, the innermost first, whether an else may still come: None where the token cannot stand there, Some None where it closes the expression
abbrev pub nest : List Bool → Token → Option (Option (List Bool))
nest inner (Do i) = Some (Some inner)
nest inner (OpenBlock t) = Some (Some (false ∷ inner))
nest inner (OpenLoop t) = Some (Some (false ∷ inner))
nest inner (OpenIf t) = Some (Some (true ∷ inner))
nest [] Else = None
nest (true ∷ inner) Else = Some (Some (false ∷ inner))
nest (false ∷ inner) Else = None
nest [] End = Some None
nest (b ∷ inner) End = Some (Some inner)

-- a token, and those after it, unless it closes the expression
abbrev pub and_then : Token → List ℕ → (List Bool → Option (List Token × List ℕ)) → Option (List Bool) → Option (List Token × List ℕ)
and_then t rest more None = Some (t ∷ [], rest)
and_then t rest more (Some inner) = more inner >>= λ x. Some (t ∷ x.0, x.1)

-- at most n tokens up to the end of the expression, where these blocks are open
abbrev pub tokens_at : ℕ → List Bool → List ℕ → Option (List Token × List ℕ)
tokens_at zero inner bytes = None
tokens_at (suc n) inner bytes = token_at bytes >>= λ t. nest inner t.0 >>= λ o. and_then t.0 t.1 (λ now. tokens_at n now t.1) o

-- 5.4.6 an expression at the front, as tokens
abbrev pub expression_at : List ℕ → Option (List Token × List ℕ)
expression_at bytes = tokens_at (length bytes) [] bytes

-- 5.4.6 an expression. Ours: its value is its tokens; a law says that they are those of one tree
unfoldable pub expression : Production (List Token)
expression = record { spells = SpellsTokens; read = expression_at }
