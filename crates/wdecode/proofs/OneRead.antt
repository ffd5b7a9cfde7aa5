-- What is read after an opcode, the immediates or a block's type, makes the token that begins with that opcode.
use Rattle.std.specs.Prelude.{IfSome}
use Rattle.std.proofs.Common.{◌≡◌, ℕ, ◌≤◌, ◌-◌, get_or, take, drop, List, [], ◌∷◌, length, Option, Some, IsTrue, refl, sym, ap, subst, ◌∙◌, arith}
use Rattle.std.proofs.lemmas.List.{take_rest}
use Rattle.wsyntax.specs.Brackets.{lies_within}
use Rattle.wsyntax.specs.Instructions.{Op, Do, OpenBlock, OpenLoop, OpenIf}
use Rattle.wsyntax.specs.Table.{opcode_of}
use Rattle.wsyntax.specs.declared.instructions.BlockType.{BlockType}
use Rattle.wsyntax.specs.declared.opcode.Opcode.{Opcode}
use Rattle.wsyntax.specs.declared.instructions.Token.{Token as Held}
use Rattle.wsyntax.specs.declared.instructions.Token.TheVariants as held
use Rattle.wsyntax.specs.Modules.{decoded_as}
use Rattle.wsyntax.specs.Binary.Instructions.{plain_instruction, immediates}
use Rattle.wsyntax.specs.Binary.Types.{block_type}
use Rattle.wsyntax.specs.Binary.Nesting.{seen_as, token_at}
use Rattle.wdecode.specs.Gives.{ReadsPlain, ReadsBracket}
use Rattle.wdecode.proofs.FlatLoop.{token_shorter}
use Rattle.wdecode.proofs.InstructionLaws.{plain_agrees}
use Rattle.wdecode.proofs.OneToken.{token_reads}

-- what is read after an opcode
pub reads : (b : ℕ) (o : Opcode) (i : Op) (bytes rest : List ℕ) (t : Held) → opcode_of b ≡ Some o → (immediates o).read bytes ≡ Some (i, rest)
    → ((targets : ℕ) → IsTrue (lies_within targets t)) → ((targets : List ℕ) → decoded_as targets t ≡ Do i) → ReadsPlain (b ∷ bytes) t rest
unfolding plain_instruction
reads b o i bytes rest t named read within is =
    let plain : plain_instruction.read (b ∷ bytes) ≡ Some (i, rest) = rw (named, read) refl in
    let s = plain_agrees.sound (b ∷ bytes) i rest plain in
    let whole : token_at (b ∷ bytes) ≡ Some (Do i, rest) = ap token_at s.2 ∙ token_reads.complete s.0 (Do i) rest s.1 in
    (token_shorter (b ∷ bytes) (Do i) rest whole, within, λ targets. (i, is targets, whole))

-- the beginning of a block is read after its opcode
pub opens_block : (b : ℕ) (bytes rest : List ℕ) (t : BlockType) → b ≡ 0x02 → block_type.read bytes ≡ Some (t, rest) → ReadsBracket (b ∷ bytes) (held.Block t) rest
unfolding token_at
opens_block b bytes rest t is read =
    let whole : token_at (b ∷ bytes) ≡ Some (OpenBlock t, rest) = ap (λ (n : ℕ). token_at (n ∷ bytes)) is ∙ ap (seen_as OpenBlock) read in
    (token_shorter (b ∷ bytes) (OpenBlock t) rest whole, λ _. whole)

-- the beginning of a loop is read after its opcode
pub opens_loop : (b : ℕ) (bytes rest : List ℕ) (t : BlockType) → b ≡ 0x03 → block_type.read bytes ≡ Some (t, rest) → ReadsBracket (b ∷ bytes) (held.Loop t) rest
unfolding token_at
opens_loop b bytes rest t is read =
    let whole : token_at (b ∷ bytes) ≡ Some (OpenLoop t, rest) = ap (λ (n : ℕ). token_at (n ∷ bytes)) is ∙ ap (seen_as OpenLoop) read in
    (token_shorter (b ∷ bytes) (OpenLoop t) rest whole, λ _. whole)

-- the beginning of a if is read after its opcode
pub opens_if : (b : ℕ) (bytes rest : List ℕ) (t : BlockType) → b ≡ 0x04 → block_type.read bytes ≡ Some (t, rest) → ReadsBracket (b ∷ bytes) (held.If t 0) rest
unfolding token_at
opens_if b bytes rest t is read =
    let whole : token_at (b ∷ bytes) ≡ Some (OpenIf t, rest) = ap (λ (n : ℕ). token_at (n ∷ bytes)) is ∙ ap (seen_as OpenIf) read in
    (token_shorter (b ∷ bytes) (OpenIf t) rest whole, λ _. whole)

in_front : (bytes : List ℕ) → 1 ≤ length bytes → get_or bytes 0 0 ∷ take (length bytes - 1) (drop 1 bytes) ≡ bytes
in_front [] some = absurd (omega arith)
in_front (b ∷ bytes) some = ap (λ (x : List ℕ). b ∷ x) (take_rest (b ∷ bytes) 1)

-- what is read after the opcode at the front is read of all bytes
pub read_of_all : {X : Type 0} (bytes : List ℕ) (b : ℕ) (token : X → Held) (after : X → List ℕ) (read : Option X) → 1 ≤ length bytes → get_or bytes 0 0 ≡ b
    → IfSome read (λ x. ReadsPlain (b ∷ take (length bytes - 1) (drop 1 bytes)) (token x) (after x)) → IfSome read (λ x. ReadsPlain bytes (token x) (after x))
read_of_all bytes b token after read some is h =
    let rest = take (length bytes - 1) (drop 1 bytes) in
    let whole : b ∷ rest ≡ bytes = ap (λ (n : ℕ). n ∷ rest) (sym is) ∙ in_front bytes some in
    subst (λ (all : List ℕ). IfSome read (λ x. ReadsPlain all (token x) (after x))) whole h
