-- Held tokens that close an expression are those of a tree.
use Rattle.std.proofs.Common.{◌≡◌, ℕ, Bool, true, false, List, [], ◌∷◌, ◌++◌, map, refl, sym, ap, subst, ◌∙◌, ◌⊎◌, inl, inr, append_assoc}
use Rattle.wsyntax.specs.declared.instructions.Token.{Token as Held}
use Rattle.wsyntax.specs.Brackets.{Bracket, behind, is_last, closes}
use Rattle.wsyntax.specs.Instructions.{Token, Do, OpenBlock, OpenLoop, OpenIf, Else, End, Code, Stop, Plain, Block, Loop, If, IfElse, flat, flat_body}
use Rattle.wsyntax.specs.Modules.{decoded_as}
use Rattle.wdecode.proofs.Closed.{bracket_of, seen_bracket}
use Rattle.wdecode.proofs.Trees.{block_tokens, else_tokens}

-- What closes the open blocks and then the expression: code for each, from the innermost outward.
abbrev ShutsOne : List Token → (List Token → Type 0) → Type 0
ShutsOne ts outer = (c : Code) × (us : List Token) × (ts ≡ flat c ++ (End ∷ us)) × outer us

abbrev ShutsTwo : List Token → (List Token → Type 0) → Type 0
ShutsTwo ts outer = (c : Code) × (vs : List Token) × (ts ≡ flat c ++ (Else ∷ vs)) × ShutsOne vs outer

abbrev Shuts : List Bool → List Token → Type 0
Shuts [] ts = (c : Code) × (ts ≡ flat_body c)
Shuts (false ∷ s) ts = ShutsOne ts (Shuts s)
Shuts (true ∷ s) ts = ShutsOne ts (Shuts s) ⊎ ShutsTwo ts (Shuts s)

-- what can be put in front of code
record Leads (pts : List Token) (f : Code → Code) : Type 0 where
  flattened : (c : Code) → flat (f c) ≡ pts ++ flat c

grown : (pts : List Token) (f : Code → Code) → Leads pts f → (c : Code) (ts w : List Token) → ts ≡ flat c ++ w → pts ++ ts ≡ flat (f c) ++ w
grown pts f g c ts w e = ap (λ (r : List Token). pts ++ r) e ∙ sym (append_assoc pts (flat c) w) ∙ ap (λ (r : List Token). r ++ w) (sym (g.flattened c))

prefix : (s : List Bool) (pts : List Token) (f : Code → Code) (ts : List Token) → Leads pts f → Shuts s ts → Shuts s (pts ++ ts)
prefix [] pts f ts g h = (f h.0, grown pts f g h.0 ts (End ∷ []) h.1)
prefix (false ∷ s) pts f ts g h = (f h.0, h.1, grown pts f g h.0 ts (End ∷ h.1) h.2, h.3)
prefix (true ∷ s) pts f ts g (inl h) = inl (f h.0, h.1, grown pts f g h.0 ts (End ∷ h.1) h.2, h.3)
prefix (true ∷ s) pts f ts g (inr h) = inr (f h.0, h.1, grown pts f g h.0 ts (Else ∷ h.1) h.2, h.3)

opens : (s : List Bool) (us : List Token) (t : Token) (f : Code → Code → Code) → ((c : Code) → Leads (t ∷ (flat c ++ (End ∷ []))) (f c)) → ShutsOne us (Shuts s) → Shuts s (t ∷ us)
opens s us t f leads o =
    let whole = prefix s (t ∷ (flat o.0 ++ (End ∷ []))) (f o.0) o.1 (leads o.0) o.3 in
    subst (Shuts s) (sym (block_tokens t (flat o.0) o.1) ∙ ap (λ (w : List Token). t ∷ w) (sym o.2)) whole

opens_else : (s : List Bool) (us : List Token) (t : Token) (f : Code → Code → Code → Code) → ((c d : Code) → Leads (t ∷ (flat c ++ (Else ∷ (flat d ++ (End ∷ []))))) (f c d)) → ShutsTwo us (Shuts s) → Shuts s (t ∷ us)
opens_else s us t f leads o =
    let e = o.3 in
    let whole = prefix s (t ∷ (flat o.0 ++ (Else ∷ (flat e.0 ++ (End ∷ []))))) (f o.0 e.0) e.1 (leads o.0 e.0) e.3 in
    subst (Shuts s) (sym (else_tokens t (flat o.0) (flat e.0) e.1) ∙ ap (λ (w : List Token). t ∷ w) (sym (o.2 ∙ ap (λ (w : List Token). flat o.0 ++ (Else ∷ w)) e.2))) whole

shut_by : (t : Token) (s : List Bool) (us : List Token) (more : List Bool → Bool) (last : Bool) → ((now : List Bool) → more now ≡ true → Shuts now us) → (last ≡ true → us ≡ [])
    → behind (bracket_of t) s more last ≡ true → Shuts s (t ∷ us)
shut_by (Do i) s us more last ih nil e = prefix s (Do i ∷ []) (Plain i) us (record { flattened = λ c. refl }) (ih s e)
shut_by (OpenBlock t) s us more last ih nil e = opens s us (OpenBlock t) (Block t) (λ c. record { flattened = λ d. block_tokens (OpenBlock t) (flat c) (flat d) }) (ih (false ∷ s) e)
shut_by (OpenLoop t) s us more last ih nil e = opens s us (OpenLoop t) (Loop t) (λ c. record { flattened = λ d. block_tokens (OpenLoop t) (flat c) (flat d) }) (ih (false ∷ s) e)
shut_by (OpenIf t) s us more last ih nil e =
    elim (ih (true ∷ s) e) [
      | inl o ↦ opens s us (OpenIf t) (If t) (λ c. record { flattened = λ d. block_tokens (OpenIf t) (flat c) (flat d) }) o
      | inr o ↦ opens_else s us (OpenIf t) (IfElse t) (λ c b. record { flattened = λ d. else_tokens (OpenIf t) (flat c) (flat b) (flat d) }) o
    ]
shut_by Else [] us more last ih nil e = absurd cc
shut_by Else (true ∷ s) us more last ih nil e = inr (Stop, us, refl, ih (false ∷ s) e)
shut_by Else (false ∷ s) us more last ih nil e = absurd cc
shut_by End [] us more last ih nil e = (Stop, ap (λ (w : List Token). End ∷ w) (nil e))
shut_by End (true ∷ s) us more last ih nil e = inl (Stop, us, refl, ih s e)
shut_by End (false ∷ s) us more last ih nil e = (Stop, us, refl, ih s e)

no_more : (targets : List ℕ) (ts : List Held) → is_last ts ≡ true → map (decoded_as targets) ts ≡ []
no_more targets [] e = refl
no_more targets (t ∷ ts) e = absurd cc

shut : (targets : List ℕ) (ts : List Held) (s : List Bool) → closes s ts ≡ true → Shuts s (map (decoded_as targets) ts)
shut targets [] s e = absurd cc
shut targets (t ∷ ts) s e =
    shut_by (decoded_as targets t) s (map (decoded_as targets) ts) (λ now. closes now ts) (is_last ts) (λ now h. shut targets ts now h) (no_more targets ts)
    (ap (λ (b : Bracket). behind b s (λ now. closes now ts) (is_last ts)) (sym (seen_bracket targets t)) ∙ e)

pub closed_tree : (targets : List ℕ) (tokens : List Held) → closes [] tokens ≡ true → (code : Code) × (map (decoded_as targets) tokens ≡ flat_body code)
closed_tree targets tokens e = shut targets tokens [] e
