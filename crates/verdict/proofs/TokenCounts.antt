-- How many tokens a body of some length has: each takes a byte at least.
use Rattle.std.proofs.Common.{◌≡◌, ℕ, ◌+◌, ◌≤◌, List, [], ◌∷◌, ◌++◌, length, Some, ap, ◌∙◌, arith}
use Rattle.std.proofs.lemmas.List.{length-append}
use Rattle.wsyntax.specs.Instructions.{Op, Token, Code, Stop, Plain, Block, Loop, If, IfElse, Else, End, flat}
use Rattle.wsyntax.specs.Modules.{BodyShape}
use Rattle.wsyntax.specs.Binary.Instructions.{plain_instruction, SpellsCode}
use Rattle.wsyntax.specs.Binary.Nesting.{expression}
use Rattle.wsyntax.specs.Binary.Sections.{body}
use Rattle.wsyntax.specs.Binary.Shell.{SpellsBody}

plain_fills : (bytes : List ℕ) (i : Op) → plain_instruction.spells bytes i → 1 ≤ length bytes
unfolding plain_instruction
plain_fills bytes i s =
    let one : length s.0 ≡ 1 = ap length s.4 in
    let e : length bytes ≡ length s.0 + length s.1 = ap length s.3 ∙ length-append s.0 s.1 in
    omega arith

parts : (h x y : List ℕ) → length (h ++ (x ++ (0x0B ∷ y))) ≡ length h + length x + length y + 1
parts h x y = simp length-append (omega arith)

more_parts : (h x z y : List ℕ) → length (h ++ (x ++ (0x05 ∷ (z ++ (0x0B ∷ y))))) ≡ length h + length x + length z + length y + 2
more_parts h x z y = simp length-append (omega arith)

flat_parts : (x y : List Token) → length (x ++ End ∷ y) ≡ length x + length y + 1
flat_parts x y = simp length-append (omega arith)

flat_more : (x z y : List Token) → length (x ++ Else ∷ (z ++ End ∷ y)) ≡ length x + length z + length y + 2
flat_more x z y = simp length-append (omega arith)

code_fills : (code : Code) (bytes : List ℕ) → SpellsCode bytes code → length (flat code) ≤ length bytes
code_fills Stop bytes s = omega arith
code_fills (Plain i rest) bytes s =
    let here : 1 ≤ length s.0 = plain_fills s.0 i s.3 in
    let others : length (flat rest) ≤ length s.1 = code_fills rest s.1 s.4 in
    let e : length bytes ≡ length s.0 + length s.1 = ap length s.2 ∙ length-append s.0 s.1 in
    omega arith
code_fills (Block t inner rest) bytes s =
    let one : length (flat inner) ≤ length s.1 = code_fills inner s.1 s.5 in
    let others : length (flat rest) ≤ length s.2 = code_fills rest s.2 s.6 in
    omega (arith, ap length s.3, parts s.0 s.1 s.2, flat_parts (flat inner) (flat rest))
code_fills (Loop t inner rest) bytes s =
    let one : length (flat inner) ≤ length s.1 = code_fills inner s.1 s.5 in
    let others : length (flat rest) ≤ length s.2 = code_fills rest s.2 s.6 in
    omega (arith, ap length s.3, parts s.0 s.1 s.2, flat_parts (flat inner) (flat rest))
code_fills (If t inner rest) bytes s =
    let one : length (flat inner) ≤ length s.1 = code_fills inner s.1 s.5 in
    let others : length (flat rest) ≤ length s.2 = code_fills rest s.2 s.6 in
    omega (arith, ap length s.3, parts s.0 s.1 s.2, flat_parts (flat inner) (flat rest))
code_fills (IfElse t inner other rest) bytes s =
    let one : length (flat inner) ≤ length s.1 = code_fills inner s.1 s.6 in
    let two : length (flat other) ≤ length s.2 = code_fills other s.2 s.7 in
    let others : length (flat rest) ≤ length s.3 = code_fills rest s.3 s.8 in
    omega (arith, ap length s.4, more_parts s.0 s.1 s.2 s.3, flat_more (flat inner) (flat other) (flat rest))

some_is : {A : Type 0} (a c : A) → Some a ≡ Some c → a ≡ c
some_is a c e = cc

-- the tokens of a spelled body
pub tokens_fit : (bytes : List ℕ) (b : BodyShape) → SpellsBody bytes b → length b.code ≤ length bytes
unfolding body expression
tokens_fit bytes b s =
    let u = s.5 in
    let t = u.4 in
    let inner : length (flat t.0) ≤ length t.1.0 = code_fills t.0 t.1.0 t.1.2 in
    let last : length u.0 ≡ length t.1.0 + 1 = ap length t.1.1 ∙ length-append t.1.0 (0x0B ∷ []) in
    let tokens : length u.2 ≡ length (flat t.0) + 1 = ap length t.2 ∙ length-append (flat t.0) (End ∷ []) in
    let same : length u.2 ≡ length b.code = ap (λ (x : BodyShape). length x.code) (some_is record { runs = s.2; code = u.2 } b u.5.1) in
    let front : length bytes ≡ length s.0 + length s.1 = ap length s.3 ∙ length-append s.0 s.1 in
    let rest : length s.1 ≡ length u.0 + length u.1 = ap length u.3 ∙ length-append u.0 u.1 in
    omega arith
