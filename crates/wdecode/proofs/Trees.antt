-- Reading code flat, with a stack of the blocks that are open, agrees with the trees of the grammar: the theorem is `expression_agrees`.
-- Trees spell what is read, by induction over the tokens (`tokens_close`); what trees spell is read, by induction over code (`code_runs`).
-- SectionLaws.antt and the law `grammar_is_read` cite it; other files on flat code take `Tokens` and `push` from here.
use Rattle.std.proofs.Common.{◌≡◌, ℕ, zero, suc, ◌+◌, ◌-◌, ◌≤◌, Bool, true, false, List, [], ◌∷◌, ◌++◌, length, Option, Some, None, refl, sym, ap, subst, ◌∙◌, ◌⊎◌, inl, inr, append_assoc, arith}
use Rattle.std.proofs.lemmas.List.{length-append}
use Rattle.wsyntax.specs.declared.instructions.BlockType.{BlockType}
use Rattle.wsyntax.specs.Instructions.{Op, Token, Do, OpenBlock, OpenLoop, OpenIf, Else, End, Code, Stop, Plain, Block, Loop, If, IfElse, flat}
use Rattle.wnum.specs.Reading.{◌>>=◌}
use Rattle.wnum.proofs.Numbers.{bind_some}
use Rattle.wsyntax.specs.Binary.Types.{block_type}
use Rattle.wsyntax.specs.Binary.Instructions.{plain_instruction, SpellsCode, SpellsTokens}
use Rattle.wsyntax.specs.Binary.Nesting.{SpellsToken, token_at, nest, and_then, tokens_at, expression_at, expression}
use Rattle.wsyntax.specs.Binary.Production.{Agrees}
use Rattle.wdecode.proofs.OneToken.{token_reads, plain_first}

abbrev pub Tokens : Type 0
Tokens = Option (List Token × List ℕ)

-- What closes the open blocks and then the expression: code for each, from the innermost outward.
abbrev pub ClosesOne : List ℕ → List Token → (List ℕ → List Token → Type 0) → Type 0
ClosesOne bytes ts outer = (c : Code) × (x : List ℕ) × (y : List ℕ) × (us : List Token) × SpellsCode x c × (bytes ≡ x ++ (0x0B ∷ y)) × (ts ≡ flat c ++ (End ∷ us)) × outer y us

abbrev pub ClosesTwo : List ℕ → List Token → (List ℕ → List Token → Type 0) → Type 0
ClosesTwo bytes ts outer = (c : Code) × (x : List ℕ) × (z : List ℕ) × (vs : List Token) × SpellsCode x c × (bytes ≡ x ++ (0x05 ∷ z)) × (ts ≡ flat c ++ (Else ∷ vs)) × ClosesOne z vs outer

abbrev pub Closes : List Bool → List ℕ → List ℕ → List Token → Type 0
Closes [] rest bytes ts = (c : Code) × (x : List ℕ) × SpellsCode x c × (bytes ≡ x ++ (0x0B ∷ rest)) × (ts ≡ flat c ++ (End ∷ []))
Closes (false ∷ s) rest bytes ts = ClosesOne bytes ts (Closes s rest)
Closes (true ∷ s) rest bytes ts = ClosesOne bytes ts (Closes s rest) ⊎ ClosesTwo bytes ts (Closes s rest)

-- what can be put in front of code
record Grows (pre : List ℕ) (pts : List Token) (f : Code → Code) : Type 0 where
  spelled : (x : List ℕ) (c : Code) → SpellsCode x c → SpellsCode (pre ++ x) (f c)
  flattened : (c : Code) → flat (f c) ≡ pts ++ flat c

bytes_grow : (pre bytes x w : List ℕ) → bytes ≡ x ++ w → pre ++ bytes ≡ (pre ++ x) ++ w
bytes_grow pre bytes x w e = ap (λ (r : List ℕ). pre ++ r) e ∙ sym (append_assoc pre x w)

tokens_grow : (pre : List ℕ) (pts : List Token) (f : Code → Code) → Grows pre pts f → (c : Code) (ts w : List Token) → ts ≡ flat c ++ w → pts ++ ts ≡ flat (f c) ++ w
tokens_grow pre pts f g c ts w e = ap (λ (r : List Token). pts ++ r) e ∙ sym (append_assoc pts (flat c) w) ∙ ap (λ (r : List Token). r ++ w) (sym (g.flattened c))

prefix : (s : List Bool) (rest pre : List ℕ) (pts : List Token) (f : Code → Code) (bytes : List ℕ) (ts : List Token) → Grows pre pts f → Closes s rest bytes ts → Closes s rest (pre ++ bytes) (pts ++ ts)
prefix [] rest pre pts f bytes ts g h = (f h.0, pre ++ h.1, g.spelled h.1 h.0 h.2, bytes_grow pre bytes h.1 (0x0B ∷ rest) h.3, tokens_grow pre pts f g h.0 ts (End ∷ []) h.4)
prefix (false ∷ s) rest pre pts f bytes ts g h = (f h.0, pre ++ h.1, h.2, h.3, g.spelled h.1 h.0 h.4, bytes_grow pre bytes h.1 (0x0B ∷ h.2) h.5, tokens_grow pre pts f g h.0 ts (End ∷ h.3) h.6, h.7)
prefix (true ∷ s) rest pre pts f bytes ts g (inl h) = inl (f h.0, pre ++ h.1, h.2, h.3, g.spelled h.1 h.0 h.4, bytes_grow pre bytes h.1 (0x0B ∷ h.2) h.5, tokens_grow pre pts f g h.0 ts (End ∷ h.3) h.6, h.7)
prefix (true ∷ s) rest pre pts f bytes ts g (inr h) = inr (f h.0, pre ++ h.1, h.2, h.3, g.spelled h.1 h.0 h.4, bytes_grow pre bytes h.1 (0x05 ∷ h.2) h.5, tokens_grow pre pts f g h.0 ts (Else ∷ h.3) h.6, h.7)

as_is : (s : List Bool) (rest bytes bytes' : List ℕ) (ts ts' : List Token) → bytes' ≡ bytes → ts' ≡ ts → Closes s rest bytes' ts' → Closes s rest bytes ts
as_is s rest bytes bytes' ts ts' e f h = subst (λ (b : List ℕ). Closes s rest b ts) e (subst (λ (u : List Token). Closes s rest bytes' u) f h)

-- the first instruction, in front of the rest
grows_plain : (front : List ℕ) (i : Op) → plain_instruction.spells front i → Grows front (Do i ∷ []) (Plain i)
grows_plain front i s = record { spelled = λ x c h. (front, x, refl, s, h); flattened = λ c. refl }

block_bytes : (k : ℕ) (h x y : List ℕ) → (k ∷ (h ++ (x ++ (0x0B ∷ [])))) ++ y ≡ k ∷ (h ++ (x ++ (0x0B ∷ y)))
block_bytes k h x y = simp append_assoc

pub block_tokens : (t : Token) (a b : List Token) → t ∷ (a ++ (End ∷ b)) ≡ (t ∷ (a ++ (End ∷ []))) ++ b
block_tokens t a b = simp append_assoc

grows_block : (h x : List ℕ) (t : BlockType) (c : Code) → block_type.spells h t → SpellsCode x c → Grows (0x02 ∷ (h ++ (x ++ (0x0B ∷ [])))) (OpenBlock t ∷ (flat c ++ (End ∷ []))) (Block t c)
grows_block h x t c b s = record { spelled = λ y d sd. (h, x, y, block_bytes 0x02 h x y, b, s, sd); flattened = λ d. block_tokens (OpenBlock t) (flat c) (flat d) }

grows_loop : (h x : List ℕ) (t : BlockType) (c : Code) → block_type.spells h t → SpellsCode x c → Grows (0x03 ∷ (h ++ (x ++ (0x0B ∷ [])))) (OpenLoop t ∷ (flat c ++ (End ∷ []))) (Loop t c)
grows_loop h x t c b s = record { spelled = λ y d sd. (h, x, y, block_bytes 0x03 h x y, b, s, sd); flattened = λ d. block_tokens (OpenLoop t) (flat c) (flat d) }

grows_if : (h x : List ℕ) (t : BlockType) (c : Code) → block_type.spells h t → SpellsCode x c → Grows (0x04 ∷ (h ++ (x ++ (0x0B ∷ [])))) (OpenIf t ∷ (flat c ++ (End ∷ []))) (If t c)
grows_if h x t c b s = record { spelled = λ y d sd. (h, x, y, block_bytes 0x04 h x y, b, s, sd); flattened = λ d. block_tokens (OpenIf t) (flat c) (flat d) }

else_bytes : (h x z y : List ℕ) → (0x04 ∷ (h ++ (x ++ (0x05 ∷ (z ++ (0x0B ∷ [])))))) ++ y ≡ 0x04 ∷ (h ++ (x ++ (0x05 ∷ (z ++ (0x0B ∷ y)))))
else_bytes h x z y = simp append_assoc

pub else_tokens : (t : Token) (a b d : List Token) → t ∷ (a ++ (Else ∷ (b ++ (End ∷ d)))) ≡ (t ∷ (a ++ (Else ∷ (b ++ (End ∷ []))))) ++ d
else_tokens t a b d = simp append_assoc

grows_else : (h x z : List ℕ) (t : BlockType) (c e : Code) → block_type.spells h t → SpellsCode x c → SpellsCode z e
    → Grows (0x04 ∷ (h ++ (x ++ (0x05 ∷ (z ++ (0x0B ∷ [])))))) (OpenIf t ∷ (flat c ++ (Else ∷ (flat e ++ (End ∷ []))))) (IfElse t c e)
grows_else h x z t c e b s r = record { spelled = λ y d sd. (h, x, z, y, else_bytes h x z y, b, s, r, sd); flattened = λ d. else_tokens (OpenIf t) (flat c) (flat e) (flat d) }

-- a Block that a token opens, and what is after its end
opens : (s : List Bool) (rest front r : List ℕ) (us : List Token) (k : ℕ) (h : List ℕ) (t : Token) (f : Code → Code → Code)
    → front ≡ k ∷ h → ((x : List ℕ) (c : Code) → SpellsCode x c → Grows (k ∷ (h ++ (x ++ (0x0B ∷ [])))) (t ∷ (flat c ++ (End ∷ []))) (f c))
    → ClosesOne r us (Closes s rest) → Closes s rest (front ++ r) (t ∷ us)
opens s rest front r us k h t f is grows o =
    let whole = prefix s rest (k ∷ (h ++ (o.1 ++ (0x0B ∷ [])))) (t ∷ (flat o.0 ++ (End ∷ []))) (f o.0) o.2 o.3 (grows o.1 o.0 o.4) o.7 in
    as_is s rest (front ++ r) _ (t ∷ us) _
    (block_bytes k h o.1 o.2 ∙ sym (ap (λ (w : List ℕ). w ++ r) is ∙ ap (λ (w : List ℕ). (k ∷ h) ++ w) o.5))
    (sym (block_tokens t (flat o.0) o.3) ∙ ap (λ (w : List Token). t ∷ w) (sym o.6)) whole

opens_else : (s : List Bool) (rest front r : List ℕ) (us : List Token) (h : List ℕ) (t : BlockType) → front ≡ 0x04 ∷ h → block_type.spells h t → ClosesTwo r us (Closes s rest) → Closes s rest (front ++ r) (OpenIf t ∷ us)
opens_else s rest front r us h t is b o =
    let e = o.7 in
    let whole = prefix s rest (0x04 ∷ (h ++ (o.1 ++ (0x05 ∷ (e.1 ++ (0x0B ∷ [])))))) (OpenIf t ∷ (flat o.0 ++ (Else ∷ (flat e.0 ++ (End ∷ []))))) (IfElse t o.0 e.0) e.2 e.3 (grows_else h o.1 e.1 t o.0 e.0 b o.4 e.4) e.7 in
    as_is s rest (front ++ r) _ (OpenIf t ∷ us) _
    (else_bytes h o.1 e.1 e.2 ∙ sym (ap (λ (w : List ℕ). w ++ r) is ∙ ap (λ (w : List ℕ). (0x04 ∷ h) ++ w) (o.5 ∙ ap (λ (w : List ℕ). o.1 ++ (0x05 ∷ w)) e.5)))
    (sym (else_tokens (OpenIf t) (flat o.0) (flat e.0) e.3) ∙ ap (λ (w : List Token). OpenIf t ∷ w) (sym (o.6 ∙ ap (λ (w : List Token). flat o.0 ++ (Else ∷ w)) e.6))) whole

abbrev pub with_section : Token → List Token × List ℕ → Tokens
with_section t x = Some (t ∷ x.0, x.1)

-- what is read after a token
after : (read : Tokens) (t : Token) (ts : List Token) (rest : List ℕ) (P : List ℕ → List Token → Type 0) → ((us : List Token) (left : List ℕ) → read ≡ Some (us, left) → P left (t ∷ us)) → (read >>= with_section t) ≡ Some (ts, rest) → P rest ts
after read t ts rest P made e =
    let f = bind_some read (with_section t) (ts, rest) e in
    let whole : List Token × List ℕ = (t ∷ f.0.0, f.0.1) in
    let want : List Token × List ℕ = (ts, rest) in
    let same : whole ≡ want = cc in
    subst (λ (x : List Token × List ℕ). P x.1 x.0) same (made f.0.0 f.0.1 f.1)

step : (s : List Bool) (t : Token) (front r : List ℕ) (more : List Bool → Tokens) (ts : List Token) (rest : List ℕ) → SpellsToken front t
    → ((now : List Bool) (us : List Token) (left : List ℕ) → more now ≡ Some (us, left) → Closes now left r us)
    → (nest s t >>= and_then t r more) ≡ Some (ts, rest) → Closes s rest (front ++ r) ts
step s (Do i) front r more ts rest spelled ih e =
    after (more s) (Do i) ts rest (λ left us. Closes s left (front ++ r) us) (λ us left h. prefix s left front (Do i ∷ []) (Plain i) r us (grows_plain front i spelled) (ih s us left h)) e
step s (OpenBlock t) front r more ts rest spelled ih e =
    after (more (false ∷ s)) (OpenBlock t) ts rest (λ left us. Closes s left (front ++ r) us) (λ us left h. opens s left front r us 0x02 spelled.0 (OpenBlock t) (Block t) spelled.1 (λ x c sc. grows_block spelled.0 x t c spelled.2 sc) (ih (false ∷ s) us left h)) e
step s (OpenLoop t) front r more ts rest spelled ih e =
    after (more (false ∷ s)) (OpenLoop t) ts rest (λ left us. Closes s left (front ++ r) us) (λ us left h. opens s left front r us 0x03 spelled.0 (OpenLoop t) (Loop t) spelled.1 (λ x c sc. grows_loop spelled.0 x t c spelled.2 sc) (ih (false ∷ s) us left h)) e
step s (OpenIf t) front r more ts rest spelled ih e =
    after (more (true ∷ s)) (OpenIf t) ts rest (λ left us. Closes s left (front ++ r) us) (λ us left h.
    elim (ih (true ∷ s) us left h) [
      | inl o ↦ opens s left front r us 0x04 spelled.0 (OpenIf t) (If t) spelled.1 (λ x c sc. grows_if spelled.0 x t c spelled.2 sc) o
      | inr o ↦ opens_else s left front r us spelled.0 t spelled.1 spelled.2 o
    ]) e
step [] Else front r more ts rest spelled ih e = absurd cc
step (true ∷ s) Else front r more ts rest spelled ih e =
    after (more (false ∷ s)) Else ts rest (λ left us. Closes (true ∷ s) left (front ++ r) us) (λ us left h.
    inr (Stop, [], r, us, refl, ap (λ (w : List ℕ). w ++ r) spelled, refl, ih (false ∷ s) us left h)) e
step (false ∷ s) Else front r more ts rest spelled ih e = absurd cc
step [] End front r more ts rest spelled ih e =
    let made : List Token × List ℕ = (End ∷ [], r) in
    let want : List Token × List ℕ = (ts, rest) in
    let same : made ≡ want = cc in
    (Stop, [], refl, ap (λ (w : List ℕ). w ++ r) spelled ∙ ap (λ (x : List Token × List ℕ). 0x0B ∷ x.1) same, ap (λ (x : List Token × List ℕ). x.0) (sym same))
step (true ∷ s) End front r more ts rest spelled ih e =
    after (more s) End ts rest (λ left us. Closes (true ∷ s) left (front ++ r) us) (λ us left h. inl (Stop, [], r, us, refl, ap (λ (w : List ℕ). w ++ r) spelled, refl, ih s us left h)) e
step (false ∷ s) End front r more ts rest spelled ih e =
    after (more s) End ts rest (λ left us. Closes (false ∷ s) left (front ++ r) us) (λ us left h. (Stop, [], r, us, refl, ap (λ (w : List ℕ). w ++ r) spelled, refl, ih s us left h)) e

pub tokens_close : (n : ℕ) (s : List Bool) (bytes : List ℕ) (ts : List Token) (rest : List ℕ) → tokens_at n s bytes ≡ Some (ts, rest) → Closes s rest bytes ts
tokens_close zero s bytes ts rest e = absurd cc
tokens_close (suc n) s bytes ts rest e =
    let a = bind_some (token_at bytes) (λ t. nest s t.0 >>= λ o. and_then t.0 t.1 (λ now. tokens_at n now t.1) o) (ts, rest) e in
    let f = token_reads.sound bytes a.0.0 a.0.1 a.1 in
    let all = step s a.0.0 f.0 a.0.1 (λ now. tokens_at n now a.0.1) ts rest f.1 (λ now us left h. tokens_close n now a.0.1 us left h) a.2 in
    subst (λ (b : List ℕ). Closes s rest b ts) (sym f.2) all

-- The other way: what trees spell is read.

abbrev pub push : List Token → Tokens → Tokens
push front read = read >>= λ x. let y : List Token × List ℕ = (front ++ x.0, x.1) in Some y

pub push-push : (a b : List Token) (read : Tokens) → push a (push b read) ≡ push (a ++ b) read
push-push a b (Some x) = ap (λ (ts : List Token). let y : List Token × List ℕ = (ts, x.1) in Some y) (sym (append_assoc a b x.0))
push-push a b None = refl

pub push-none : (read : Tokens) → push [] read ≡ read
push-none (Some x) = refl
push-none None = refl

one_step : (m : ℕ) (s : List Bool) (t : Token) (front rest : List ℕ) (now : List Bool) → SpellsToken front t → nest s t ≡ Some (Some now) → tokens_at (suc m) s (front ++ rest) ≡ push (t ∷ []) (tokens_at m now rest)
one_step m s t front rest now spelled opened = rw (token_reads.complete front t rest spelled, opened) refl

abbrev Runs : Code → Type 0
Runs c = (x y : List ℕ) (n : ℕ) (s : List Bool) → SpellsCode x c → tokens_at (length (flat c) + n) s (x ++ y) ≡ push (flat c) (tokens_at n s y)

-- a Block: its token, its code, the end, the rest
runs_block : (k : ℕ) (t : Token) (body rest : Code) → Runs body → Runs rest → (h x y w : List ℕ) (n : ℕ) (s : List Bool) (b : Bool)
    → SpellsToken (k ∷ h) t → nest s t ≡ Some (Some (b ∷ s)) → SpellsCode x body → SpellsCode y rest
    → tokens_at (length (t ∷ (flat body ++ (End ∷ flat rest))) + n) s ((k ∷ (h ++ (x ++ (0x0B ∷ y)))) ++ w) ≡ push (t ∷ (flat body ++ (End ∷ flat rest))) (tokens_at n s w)
runs_block k t body rest run_body run_rest h x y w n s b spelled opened sb sr =
    let m = length (flat rest) + n in
    let fuel : length (t ∷ (flat body ++ (End ∷ flat rest))) + n ≡ suc (length (flat body) + suc m) = omega (arith, length-append (flat body) (End ∷ flat rest)) in
    let bytes : (k ∷ (h ++ (x ++ (0x0B ∷ y)))) ++ w ≡ (k ∷ h) ++ (x ++ ((0x0B ∷ []) ++ (y ++ w))) = simp append_assoc in
    let e1 = one_step (length (flat body) + suc m) s t (k ∷ h) (x ++ ((0x0B ∷ []) ++ (y ++ w))) (b ∷ s) spelled opened in
    let e2 = run_body x ((0x0B ∷ []) ++ (y ++ w)) (suc m) (b ∷ s) sb in
    let e3 = one_step m (b ∷ s) End (0x0B ∷ []) (y ++ w) s refl refl in
    let e4 = run_rest y w n s sr in
    let inner : tokens_at (length (flat body) + suc m) (b ∷ s) (x ++ ((0x0B ∷ []) ++ (y ++ w))) ≡ push (flat body) (push (End ∷ []) (push (flat rest) (tokens_at n s w))) =
    e2 ∙ ap (push (flat body)) (e3 ∙ ap (push (End ∷ [])) e4) in
    let joined : push (t ∷ []) (push (flat body) (push (End ∷ []) (push (flat rest) (tokens_at n s w)))) ≡ push (t ∷ (flat body ++ (End ∷ flat rest))) (tokens_at n s w) =
    ap (λ (r : Tokens). push (t ∷ []) (push (flat body) r)) (push-push (End ∷ []) (flat rest) (tokens_at n s w))
    ∙ ap (push (t ∷ [])) (push-push (flat body) (End ∷ flat rest) (tokens_at n s w)) ∙ push-push (t ∷ []) (flat body ++ (End ∷ flat rest)) (tokens_at n s w) in
    ap (λ (f : ℕ). tokens_at f s ((k ∷ (h ++ (x ++ (0x0B ∷ y)))) ++ w)) fuel ∙ ap (tokens_at (suc (length (flat body) + suc m)) s) bytes ∙ e1 ∙ ap (push (t ∷ [])) inner ∙ joined

-- an if with an else
runs_else : (t : BlockType) (chosen other rest : Code) → Runs chosen → Runs other → Runs rest → (h x z y w : List ℕ) (n : ℕ) (s : List Bool)
    → block_type.spells h t → SpellsCode x chosen → SpellsCode z other → SpellsCode y rest
    → tokens_at (length (flat (IfElse t chosen other rest)) + n) s ((0x04 ∷ (h ++ (x ++ (0x05 ∷ (z ++ (0x0B ∷ y)))))) ++ w) ≡ push (flat (IfElse t chosen other rest)) (tokens_at n s w)
runs_else t chosen other rest run_chosen run_other run_rest h x z y w n s spelled sc so sr =
    let m = length (flat rest) + n in
    let j = length (flat other) + suc m in
    let fuel : length (flat (IfElse t chosen other rest)) + n ≡ suc (length (flat chosen) + suc j) = omega (arith, length-append (flat chosen) (Else ∷ (flat other ++ (End ∷ flat rest))), length-append (flat other) (End ∷ flat rest)) in
    let bytes : (0x04 ∷ (h ++ (x ++ (0x05 ∷ (z ++ (0x0B ∷ y)))))) ++ w ≡ (0x04 ∷ h) ++ (x ++ ((0x05 ∷ []) ++ (z ++ ((0x0B ∷ []) ++ (y ++ w))))) = simp append_assoc in
    let e1 = one_step (length (flat chosen) + suc j) s (OpenIf t) (0x04 ∷ h) (x ++ ((0x05 ∷ []) ++ (z ++ ((0x0B ∷ []) ++ (y ++ w))))) (true ∷ s) (h, refl, spelled) refl in
    let e2 = run_chosen x ((0x05 ∷ []) ++ (z ++ ((0x0B ∷ []) ++ (y ++ w)))) (suc j) (true ∷ s) sc in
    let e3 = one_step j (true ∷ s) Else (0x05 ∷ []) (z ++ ((0x0B ∷ []) ++ (y ++ w))) (false ∷ s) refl refl in
    let e4 = run_other z ((0x0B ∷ []) ++ (y ++ w)) (suc m) (false ∷ s) so in
    let e5 = one_step m (false ∷ s) End (0x0B ∷ []) (y ++ w) s refl refl in
    let e6 = run_rest y w n s sr in
    let last = tokens_at n s w in
    let inner : tokens_at (length (flat chosen) + suc j) (true ∷ s) (x ++ ((0x05 ∷ []) ++ (z ++ ((0x0B ∷ []) ++ (y ++ w))))) ≡ push (flat chosen) (push (Else ∷ []) (push (flat other) (push (End ∷ []) (push (flat rest) last)))) =
    e2 ∙ ap (push (flat chosen)) (e3 ∙ ap (push (Else ∷ [])) (e4 ∙ ap (push (flat other)) (e5 ∙ ap (push (End ∷ [])) e6))) in
    let joined : push (OpenIf t ∷ []) (push (flat chosen) (push (Else ∷ []) (push (flat other) (push (End ∷ []) (push (flat rest) last))))) ≡ push (flat (IfElse t chosen other rest)) last =
    ap (λ (r : Tokens). push (OpenIf t ∷ []) (push (flat chosen) (push (Else ∷ []) (push (flat other) r)))) (push-push (End ∷ []) (flat rest) last)
    ∙ ap (λ (r : Tokens). push (OpenIf t ∷ []) (push (flat chosen) (push (Else ∷ []) r))) (push-push (flat other) (End ∷ flat rest) last)
    ∙ ap (λ (r : Tokens). push (OpenIf t ∷ []) (push (flat chosen) r)) (push-push (Else ∷ []) (flat other ++ (End ∷ flat rest)) last)
    ∙ ap (push (OpenIf t ∷ [])) (push-push (flat chosen) (Else ∷ (flat other ++ (End ∷ flat rest))) last)
    ∙ push-push (OpenIf t ∷ []) (flat chosen ++ (Else ∷ (flat other ++ (End ∷ flat rest)))) last in
    ap (λ (f : ℕ). tokens_at f s ((0x04 ∷ (h ++ (x ++ (0x05 ∷ (z ++ (0x0B ∷ y)))))) ++ w)) fuel ∙ ap (tokens_at (suc (length (flat chosen) + suc j)) s) bytes ∙ e1 ∙ ap (push (OpenIf t ∷ [])) inner ∙ joined

pub code_runs : (c : Code) → Runs c
code_runs Stop x w n s sp =
    let k : 0 + n ≡ n = omega arith in
    ap (λ (r : List ℕ). tokens_at (0 + n) s (r ++ w)) sp ∙ ap (λ (f : ℕ). tokens_at f s w) k ∙ sym (push-none (tokens_at n s w))
code_runs (Plain i rest) x w n s sp =
    let m = length (flat rest) + n in
    let fuel : length (flat (Plain i rest)) + n ≡ suc m = omega arith in
    let bytes : x ++ w ≡ sp.0 ++ (sp.1 ++ w) = ap (λ (r : List ℕ). r ++ w) sp.2 ∙ append_assoc sp.0 sp.1 w in
    ap (λ (f : ℕ). tokens_at f s (x ++ w)) fuel ∙ ap (tokens_at (suc m) s) bytes ∙ one_step m s (Do i) sp.0 (sp.1 ++ w) s sp.3 refl
    ∙ ap (push (Do i ∷ [])) (code_runs rest sp.1 w n s sp.4) ∙ push-push (Do i ∷ []) (flat rest) (tokens_at n s w)
code_runs (Block t body rest) x w n s sp =
    ap (λ (r : List ℕ). tokens_at (length (flat (Block t body rest)) + n) s (r ++ w)) sp.3
    ∙ runs_block 0x02 (OpenBlock t) body rest (code_runs body) (code_runs rest) sp.0 sp.1 sp.2 w n s false (sp.0, refl, sp.4) refl sp.5 sp.6
code_runs (Loop t body rest) x w n s sp =
    ap (λ (r : List ℕ). tokens_at (length (flat (Loop t body rest)) + n) s (r ++ w)) sp.3
    ∙ runs_block 0x03 (OpenLoop t) body rest (code_runs body) (code_runs rest) sp.0 sp.1 sp.2 w n s false (sp.0, refl, sp.4) refl sp.5 sp.6
code_runs (IfElse t chosen other rest) x w n s sp =
    ap (λ (r : List ℕ). tokens_at (length (flat (IfElse t chosen other rest)) + n) s (r ++ w)) sp.4
    ∙ runs_else t chosen other rest (code_runs chosen) (code_runs other) (code_runs rest) sp.0 sp.1 sp.2 sp.3 w n s sp.5 sp.6 sp.7 sp.8
code_runs (If t chosen rest) x w n s sp =
    ap (λ (r : List ℕ). tokens_at (length (flat (If t chosen rest)) + n) s (r ++ w)) sp.3
    ∙ runs_block 0x04 (OpenIf t) chosen rest (code_runs chosen) (code_runs rest) sp.0 sp.1 sp.2 w n s true (sp.0, refl, sp.4) refl sp.5 sp.6

-- there is a byte for each token at least
pub flat_short : (c : Code) (x : List ℕ) → SpellsCode x c → length (flat c) ≤ length x
flat_short Stop x sp = omega arith
flat_short (Plain i rest) x sp =
    let f = plain_first sp.0 i sp.3 in
    let more = flat_short rest sp.1 sp.4 in
    let l : length x ≡ suc (length f.1) + length sp.1 = ap length sp.2 ∙ length-append sp.0 sp.1 ∙ ap (λ (r : List ℕ). length r + length sp.1) f.2 in
    omega arith
flat_short (Block t body rest) x sp =
    let a = flat_short body sp.1 sp.5 in
    let b = flat_short rest sp.2 sp.6 in
    let l = ap length sp.3 in
    omega (arith, l, length-append sp.0 (sp.1 ++ (0x0B ∷ sp.2)), length-append sp.1 (0x0B ∷ sp.2), length-append (flat body) (End ∷ flat rest))
flat_short (Loop t body rest) x sp =
    let a = flat_short body sp.1 sp.5 in
    let b = flat_short rest sp.2 sp.6 in
    let l = ap length sp.3 in
    omega (arith, l, length-append sp.0 (sp.1 ++ (0x0B ∷ sp.2)), length-append sp.1 (0x0B ∷ sp.2), length-append (flat body) (End ∷ flat rest))
flat_short (IfElse t chosen other rest) x sp =
    let a = flat_short chosen sp.1 sp.6 in
    let b = flat_short other sp.2 sp.7 in
    let d = flat_short rest sp.3 sp.8 in
    let l = ap length sp.4 in
    omega (arith, l, length-append sp.0 (sp.1 ++ (0x05 ∷ (sp.2 ++ (0x0B ∷ sp.3)))), length-append sp.1 (0x05 ∷ (sp.2 ++ (0x0B ∷ sp.3))), length-append sp.2 (0x0B ∷ sp.3), length-append (flat chosen) (Else ∷ (flat other ++ (End ∷ flat rest))), length-append (flat other) (End ∷ flat rest))
flat_short (If t chosen rest) x sp =
    let a = flat_short chosen sp.1 sp.5 in
    let b = flat_short rest sp.2 sp.6 in
    let l = ap length sp.3 in
    omega (arith, l, length-append sp.0 (sp.1 ++ (0x0B ∷ sp.2)), length-append sp.1 (0x0B ∷ sp.2), length-append (flat chosen) (End ∷ flat rest))

expression_sound : (bytes : List ℕ) (ts : List Token) (rest : List ℕ) → expression_at bytes ≡ Some (ts, rest) → (front : List ℕ) × SpellsTokens front ts × (bytes ≡ front ++ rest)
expression_sound bytes ts rest e =
    let h = tokens_close (length bytes) [] bytes ts rest e in
    (h.1 ++ (0x0B ∷ []), (h.0, (h.1, refl, h.2), h.4), h.3 ∙ sym (append_assoc h.1 (0x0B ∷ []) rest))

expression_complete : (front : List ℕ) (ts : List Token) (rest : List ℕ) → SpellsTokens front ts → expression_at (front ++ rest) ≡ Some (ts, rest)
expression_complete front ts rest s =
    let code = s.0 in
    let x = s.1.0 in
    let short = flat_short code x s.1.2 in
    let len : length (front ++ rest) ≡ length x + 1 + length rest = length-append front rest ∙ ap (λ (r : List ℕ). length r + length rest) s.1.1 ∙ ap (λ (k : ℕ). k + length rest) (length-append x (0x0B ∷ [])) in
    let k = length x + length rest - length (flat code) in
    let fuel : length (front ++ rest) ≡ length (flat code) + suc k = omega arith in
    let bytes : front ++ rest ≡ x ++ (0x0B ∷ rest) = ap (λ (r : List ℕ). r ++ rest) s.1.1 ∙ append_assoc x (0x0B ∷ []) rest in
    let last : tokens_at (suc k) [] (0x0B ∷ rest) ≡ Some (End ∷ [], rest) = rw (token_reads.complete (0x0B ∷ []) End rest refl) refl in
    ap (λ (f : ℕ). tokens_at f [] (front ++ rest)) fuel ∙ ap (tokens_at (length (flat code) + suc k) []) bytes ∙ code_runs code x (0x0B ∷ rest) (suc k) [] s.1.2
    ∙ ap (push (flat code)) last ∙ ap (λ (u : List Token). let y : List Token × List ℕ = (u, rest) in Some y) (sym s.2)

pub expression_agrees : Agrees expression
unfolding expression
expression_agrees = record { sound = expression_sound; complete = expression_complete }
