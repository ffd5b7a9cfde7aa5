-- Reading agrees with spelling, for a token.
use Rattle.std.proofs.Common.{◌≡◌, ℕ, ◌≤◌, ◌-◌, get_or, take, drop, Bool, true, false, eqb, List, [], ◌∷◌, ◌++◌, length, Option, Some, None, refl, sym, ap, subst, ◌∙◌, inl, inr, arith}
use Rattle.std.proofs.lemmas.Bool.{eqb-true}
use Rattle.wnum.specs.Reading.{Reads}
use Rattle.wnum.proofs.Numbers.{bind_some, chosen}
use Rattle.wsyntax.specs.Table.{opcode_of}
use Rattle.wsyntax.specs.declared.opcode.Opcode.{Opcode}
use Rattle.wsyntax.specs.declared.opcode.Opcode.TheVariants as code
use Rattle.wsyntax.specs.Binary.Production.{Production, Agrees, given}
use Rattle.wsyntax.specs.Binary.Production as p
use Rattle.std.proofs.lemmas.List.{take_rest}
use Rattle.wsyntax.specs.declared.instructions.BlockType.{BlockType}
use Rattle.wsyntax.specs.Instructions.{Op, Token, Do, OpenBlock, OpenLoop, OpenIf, Else, End}
use Rattle.wsyntax.specs.Binary.Types.{block_type}
use Rattle.wsyntax.specs.Binary.Instructions.{plain_instruction, immediates}
use Rattle.wsyntax.specs.Binary.Nesting.{SpellsToken, seen_as, token_at}
use Rattle.wdecode.proofs.InstructionLaws.{plain_agrees}
use Rattle.wdecode.proofs.BlockTypes.{block_type_agrees}

abbrev Found : List ℕ → Token → List ℕ → Type 0
Found bytes t rest = (front : List ℕ) × SpellsToken front t × (bytes ≡ front ++ rest)

token_pair_is : (a c : Token) (b d : List ℕ) → ◌≡◌ {A = Option (Token × List ℕ)} (Some (a, b)) (Some (c, d)) → (a ≡ c) × (b ≡ d)
token_pair_is a c b d e =
    let left : Token × List ℕ = (a, b) in
    let right : Token × List ℕ = (c, d) in
    let s : left ≡ right = cc in
    (ap (λ (x : Token × List ℕ). x.0) s, ap (λ (x : Token × List ℕ). x.1) s)

-- what is seen was read
seen_found : {A : Type 0} (q : Production A) → Agrees q → (f : A → Token) (bytes all : List ℕ) (t : Token) (rest : List ℕ)
    → ((front : List ℕ) (a : A) → q.spells front a → bytes ≡ front ++ rest → Found all (f a) rest)
    → seen_as f (q.read bytes) ≡ Some (t, rest) → Found all t rest
seen_found {A} q agrees f bytes all t rest made e =
    let x = bind_some (q.read bytes) (λ x. Some (f x.0, x.1)) (t, rest) e in
    let same = token_pair_is (f x.0.0) t x.0.1 rest x.2 in
    let s = agrees.sound bytes x.0.0 x.0.1 x.1 in
    subst (λ (u : Token). Found all u rest) same.0 (made s.0 x.0.0 s.1 (s.2 ∙ ap (λ (r : List ℕ). s.0 ++ r) same.1))

block_found : (o : ℕ) (f : BlockType → Token) (k : ℕ) → o ≡ k → ((h : List ℕ) (a : BlockType) → block_type.spells h a → SpellsToken (k ∷ h) (f a))
    → (bytes : List ℕ) (t : Token) (rest : List ℕ) → seen_as f (block_type.read bytes) ≡ Some (t, rest) → Found (o ∷ bytes) t rest
block_found o f k is spelled bytes t rest e =
    seen_found block_type block_type_agrees f bytes (o ∷ bytes) t rest (λ front a s b. (k ∷ front, spelled front a s, ap (λ (n : ℕ). n ∷ bytes) is ∙ ap (λ (r : List ℕ). k ∷ r) b)) e

token_sound : (bytes : List ℕ) (t : Token) (rest : List ℕ) → token_at bytes ≡ Some (t, rest) → Found bytes t rest
unfolding token_at
token_sound [] t rest e = absurd cc
token_sound (o ∷ bytes) t rest e =
    elim (chosen (eqb o 0x02) _ _ _ e) [
      | inl h ↦ block_found o OpenBlock 0x02 (eqb-true _ _ h.0) (λ x a s. (x, refl, s)) bytes t rest h.1
      | inr h2 ↦ elim (chosen (eqb o 0x03) _ _ _ h2.1) [
        | inl h ↦ block_found o OpenLoop 0x03 (eqb-true _ _ h.0) (λ x a s. (x, refl, s)) bytes t rest h.1
        | inr h3 ↦ elim (chosen (eqb o 0x04) _ _ _ h3.1) [
          | inl h ↦ block_found o OpenIf 0x04 (eqb-true _ _ h.0) (λ x a s. (x, refl, s)) bytes t rest h.1
          | inr h4 ↦ elim (chosen (eqb o 0x05) _ _ _ h4.1) [
            | inl h ↦
                let same = token_pair_is Else t bytes rest h.1 in
                let is : o ≡ 0x05 = eqb-true _ _ h.0 in
                subst (λ (u : Token). Found (o ∷ bytes) u rest) same.0 (0x05 ∷ [], refl, ap (λ (n : ℕ). n ∷ bytes) is ∙ ap (λ (r : List ℕ). 0x05 ∷ r) same.1)
            | inr h5 ↦ elim (chosen (eqb o 0x0B) _ _ _ h5.1) [
              | inl h ↦
                  let same = token_pair_is End t bytes rest h.1 in
                  let is : o ≡ 0x0B = eqb-true _ _ h.0 in
                  subst (λ (u : Token). Found (o ∷ bytes) u rest) same.0 (0x0B ∷ [], refl, ap (λ (n : ℕ). n ∷ bytes) is ∙ ap (λ (r : List ℕ). 0x0B ∷ r) same.1)
              | inr h ↦ seen_found plain_instruction plain_agrees Do (o ∷ bytes) (o ∷ bytes) t rest (λ front a s b. (front, s, b)) h.1
            ]
          ]
        ]
      ]
    ]

-- an opcode that begins no instruction without a body
abbrev pub BeginsNone : ℕ → Type 0
BeginsNone k = (y : List ℕ) (i : Op) → (p.◌>>=◌ (given (opcode_of k)) immediates).spells y i → ⊥

-- one that names nothing, and one that names what has a body
none_named : (k : ℕ) → opcode_of k ≡ None → BeginsNone k
none_named k none y i s =
    let clash : None ≡ Some s.2 = sym none ∙ s.4.1 in
    cc

none_given : (k : ℕ) (o : Opcode) → opcode_of k ≡ Some o → ((y : List ℕ) (i : Op) → (immediates o).spells y i → ⊥) → BeginsNone k
none_given k o named none y i s =
    let is : Some s.2 ≡ Some o = sym s.4.1 ∙ named in
    none s.1 i (subst (λ (c : Opcode). (immediates c).spells s.1 i) (opcode_is s.2 o is) s.5)
  where
    opcode_is : (a c : Opcode) → Some a ≡ Some c → a ≡ c
    opcode_is a c e = cc

-- the first byte of an instruction without a body begins one
abbrev pub IsFirstOf : List ℕ → Type 0
IsFirstOf front = (o : ℕ) × (h : List ℕ) × (front ≡ o ∷ h) × ((k : ℕ) → BeginsNone k → eqb o k ≡ false)

pub not_it : (b : Bool) → (b ≡ true → ⊥) → b ≡ false
not_it true h = absurd (h refl)
not_it false h = refl

pub plain_first : (front : List ℕ) (i : Op) → plain_instruction.spells front i → IsFirstOf front
unfolding plain_instruction
plain_first front i s =
    let o = s.2 in (
      o,
      s.1,
      s.3 ∙ ap (λ (x : List ℕ). x ++ s.1) s.4,
      λ k none. not_it (eqb o k) (λ e.
          let is : o ≡ k = eqb-true _ _ e in
          none s.1 i (subst (λ (b : ℕ). (p.◌>>=◌ (given (opcode_of b)) immediates).spells s.1 i) is s.5)),
    )

none_02 : BeginsNone 0x02
unfolding opcode_of
none_02 = none_given 0x02 code.Block refl λ y i s. cc

none_03 : BeginsNone 0x03
unfolding opcode_of
none_03 = none_given 0x03 code.Loop refl λ y i s. cc

none_04 : BeginsNone 0x04
unfolding opcode_of
none_04 = none_given 0x04 code.If refl λ y i s. cc

none_05 : BeginsNone 0x05
unfolding opcode_of
none_05 = none_named 0x05 refl

none_0B : BeginsNone 0x0B
unfolding opcode_of
none_0B = none_named 0x0B refl

simple_complete : (front : List ℕ) (i : Op) (rest : List ℕ) → plain_instruction.spells front i → token_at (front ++ rest) ≡ Some (Do i, rest)
unfolding token_at
simple_complete front i rest s =
    let f = plain_first front i s in
    let read : plain_instruction.read ((f.0 ∷ f.1) ++ rest) ≡ Some (i, rest) = ap (λ (x : List ℕ). plain_instruction.read (x ++ rest)) (sym f.2) ∙ plain_agrees.complete front i rest s in
    let first : token_at (front ++ rest) ≡ token_at ((f.0 ∷ f.1) ++ rest) = ap (λ (x : List ℕ). token_at (x ++ rest)) f.2 in
    let not2 = f.3 0x02 none_02 in
    let not3 = f.3 0x03 none_03 in
    let not4 = f.3 0x04 none_04 in
    let not5 = f.3 0x05 none_05 in
    let notB = f.3 0x0B none_0B in
    first ∙ rw (not2, not3, not4, not5, notB, read) refl

token_complete : (front : List ℕ) (t : Token) (rest : List ℕ) → SpellsToken front t → token_at (front ++ rest) ≡ Some (t, rest)
unfolding token_at
token_complete front (Do i) rest s = simple_complete front i rest s
token_complete front (OpenBlock t) rest s = ap (λ (x : List ℕ). token_at (x ++ rest)) s.1 ∙ rw (block_type_agrees.complete s.0 t rest s.2) refl
token_complete front (OpenLoop t) rest s = ap (λ (x : List ℕ). token_at (x ++ rest)) s.1 ∙ rw (block_type_agrees.complete s.0 t rest s.2) refl
token_complete front (OpenIf t) rest s = ap (λ (x : List ℕ). token_at (x ++ rest)) s.1 ∙ rw (block_type_agrees.complete s.0 t rest s.2) refl
token_complete front Else rest s = ap (λ (x : List ℕ). token_at (x ++ rest)) s
token_complete front End rest s = ap (λ (x : List ℕ). token_at (x ++ rest)) s

pub token_reads : Reads token_at SpellsToken
token_reads = record { sound = token_sound; complete = token_complete }

-- the immediates that are read after an opcode
pub plain_is : (bytes : List ℕ) (o : Opcode) → 1 ≤ length bytes → opcode_of (get_or bytes 0 0) ≡ Some o → plain_instruction.read bytes ≡ (immediates o).read (take (length bytes - 1) (drop 1 bytes))
unfolding plain_instruction
plain_is [] o le e = absurd (omega arith)
plain_is (b ∷ bytes) o le e = rw e (ap (immediates o).read (sym (take_rest (b ∷ bytes) 1)))
