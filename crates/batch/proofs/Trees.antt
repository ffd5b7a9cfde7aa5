-- Tokens that are those of some tree are read back into it from the last token on, so that the tree is at hand (`tree_of`).
use Rattle.std.proofs.Common.{◌≡◌, Bool, true, false, List, [], ◌∷◌, ◌++◌, Option, Some, None, refl, sym, ap, ◌∙◌, append_assoc}
use Rattle.std.specs.Prelude.{IfSome}
use Rattle.std.proofs.Math.Logic.{∥∥₁_elim}
use Rattle.wsyntax.specs.Instructions.{Code, Stop, Plain, Block, Loop, If, IfElse, Token, Do, OpenBlock, OpenLoop, OpenIf, Else, End, flat, flat_body}

-- ---- reading

-- a sequence that is read, and whether an else stands after it, instead of an end
abbrev Part : Type 0
Part = Bool × Code

abbrev closer : Bool → Token
closer true = Else
closer false = End

-- the tokens of the sequences, the first one in front
abbrev tokens_of : List Part → List Token
tokens_of [] = []
tokens_of ((b, c) ∷ ps) = flat c ++ (closer b ∷ tokens_of ps)

-- a token in front of them
abbrev before : Token → List Part → Option (List Part)
before End ps = Some ((false, Stop) ∷ ps)
before Else ps = Some ((true, Stop) ∷ ps)
before (Do i) ((b, c) ∷ ps) = Some ((b, Plain i c) ∷ ps)
before (OpenBlock t) ((false, body) ∷ (b, rest) ∷ ps) = Some ((b, Block t body rest) ∷ ps)
before (OpenLoop t) ((false, body) ∷ (b, rest) ∷ ps) = Some ((b, Loop t body rest) ∷ ps)
before (OpenIf t) ((false, body) ∷ (b, rest) ∷ ps) = Some ((b, If t body rest) ∷ ps)
before (OpenIf t) ((true, body) ∷ (false, other) ∷ (b, rest) ∷ ps) = Some ((b, IfElse t body other rest) ∷ ps)
before _ _ = None

abbrev in_front : Token → Option (List Part) → Option (List Part)
in_front t None = None
in_front t (Some ps) = before t ps

abbrev read : List Token → Option (List Part)
read [] = Some []
read (t ∷ ts) = in_front t (read ts)

-- ---- what is read has these tokens

-- two sequences and what closes each, in either grouping
regroup : (xs ys zs : List Token) (t : Token) → (xs ++ (t ∷ ys)) ++ zs ≡ xs ++ (t ∷ (ys ++ zs))
regroup xs ys zs t = append_assoc xs (t ∷ ys) zs

token_kept : (t : Token) (ps : List Part) → IfSome (before t ps) (λ qs. tokens_of qs ≡ t ∷ tokens_of ps)
token_kept End ps = refl
token_kept Else ps = refl
token_kept (Do i) [] = tt
token_kept (Do i) ((b, c) ∷ ps) = refl
token_kept (OpenBlock t) [] = tt
token_kept (OpenBlock t) ((true, body) ∷ ps) = tt
token_kept (OpenBlock t) ((false, body) ∷ []) = tt
token_kept (OpenBlock t) ((false, body) ∷ (b, rest) ∷ ps) = ap (λ l. OpenBlock t ∷ l) (regroup (flat body) (flat rest) (closer b ∷ tokens_of ps) End)
token_kept (OpenLoop t) [] = tt
token_kept (OpenLoop t) ((true, body) ∷ ps) = tt
token_kept (OpenLoop t) ((false, body) ∷ []) = tt
token_kept (OpenLoop t) ((false, body) ∷ (b, rest) ∷ ps) = ap (λ l. OpenLoop t ∷ l) (regroup (flat body) (flat rest) (closer b ∷ tokens_of ps) End)
token_kept (OpenIf t) [] = tt
token_kept (OpenIf t) ((false, body) ∷ []) = tt
token_kept (OpenIf t) ((false, body) ∷ (b, rest) ∷ ps) = ap (λ l. OpenIf t ∷ l) (regroup (flat body) (flat rest) (closer b ∷ tokens_of ps) End)
token_kept (OpenIf t) ((true, body) ∷ []) = tt
token_kept (OpenIf t) ((true, body) ∷ (true, other) ∷ ps) = tt
token_kept (OpenIf t) ((true, body) ∷ (false, other) ∷ []) = tt
token_kept (OpenIf t) ((true, body) ∷ (false, other) ∷ (b, rest) ∷ ps) =
    let inner = regroup (flat other) (flat rest) (closer b ∷ tokens_of ps) End in
    ap (λ l. OpenIf t ∷ l) (regroup (flat body) (flat other ++ (End ∷ flat rest)) (closer b ∷ tokens_of ps) Else ∙ ap (λ l. flat body ++ (Else ∷ l)) inner)

along : (read : Option (List Part)) (a b : List Token) → a ≡ b → IfSome read (λ qs. tokens_of qs ≡ a) → IfSome read (λ qs. tokens_of qs ≡ b)
along None a b e h = tt
along (Some qs) a b e h = h ∙ e

front_kept : (t : Token) (ts : List Token) (found : Option (List Part)) → IfSome found (λ qs. tokens_of qs ≡ ts) → IfSome (in_front t found) (λ qs. tokens_of qs ≡ t ∷ ts)
front_kept t ts None h = tt
front_kept t ts (Some ps) h = along (before t ps) (t ∷ tokens_of ps) (t ∷ ts) (ap (λ l. t ∷ l) h) (token_kept t ps)

tokens_kept : (ts : List Token) → IfSome (read ts) (λ ps. tokens_of ps ≡ ts)
tokens_kept [] = refl
tokens_kept (t ∷ ts) = front_kept t ts (read ts) (tokens_kept ts)

-- ---- the tokens of a tree are read

-- a sequence in front of what is read
is_read : (c : Code) (ts : List Token) (b : Bool) (d : Code) (ps : List Part) → read ts ≡ Some ((b, d) ∷ ps) → (e : Code) × (read (flat c ++ ts) ≡ Some ((b, e) ∷ ps))
is_read Stop ts b d ps h = (d, h)
is_read (Plain i rest) ts b d ps h =
    let (e, r) = is_read rest ts b d ps h in
    (Plain i e, ap (in_front (Do i)) r)
is_read (Block t body rest) ts b d ps h =
    let (e, r) = is_read rest ts b d ps h in
    let (f, s) = is_read body (End ∷ (flat rest ++ ts)) false Stop ((b, e) ∷ ps) (ap (in_front End) r) in
    (Block t f e, ap (λ l. in_front (OpenBlock t) (read l)) (regroup (flat body) (flat rest) ts End) ∙ ap (in_front (OpenBlock t)) s)
is_read (Loop t body rest) ts b d ps h =
    let (e, r) = is_read rest ts b d ps h in
    let (f, s) = is_read body (End ∷ (flat rest ++ ts)) false Stop ((b, e) ∷ ps) (ap (in_front End) r) in
    (Loop t f e, ap (λ l. in_front (OpenLoop t) (read l)) (regroup (flat body) (flat rest) ts End) ∙ ap (in_front (OpenLoop t)) s)
is_read (If t body rest) ts b d ps h =
    let (e, r) = is_read rest ts b d ps h in
    let (f, s) = is_read body (End ∷ (flat rest ++ ts)) false Stop ((b, e) ∷ ps) (ap (in_front End) r) in
    (If t f e, ap (λ l. in_front (OpenIf t) (read l)) (regroup (flat body) (flat rest) ts End) ∙ ap (in_front (OpenIf t)) s)
is_read (IfElse t body other rest) ts b d ps h =
    let (e, r) = is_read rest ts b d ps h in
    let (g, q) = is_read other (End ∷ (flat rest ++ ts)) false Stop ((b, e) ∷ ps) (ap (in_front End) r) in
    let (f, s) = is_read body (Else ∷ (flat other ++ (End ∷ (flat rest ++ ts)))) true Stop ((false, g) ∷ (b, e) ∷ ps) (ap (in_front Else) q) in
    let grouped = regroup (flat body) (flat other ++ (End ∷ flat rest)) ts Else ∙ ap (λ l. flat body ++ (Else ∷ l)) (regroup (flat other) (flat rest) ts End) in
    (IfElse t f g e, ap (λ l. in_front (OpenIf t) (read l)) grouped ∙ ap (in_front (OpenIf t)) s)

-- ---- the tree

-- the tokens are those of one tree
abbrev pub HasTree : List Token → Type 0
HasTree ts = (c : Code) × (flat_body c ≡ ts)

whole_read : (ts : List Token) → HasTree ts → (e : Code) × (read ts ≡ Some ((false, e) ∷ []))
whole_read ts (c, h) =
    let (e, r) = is_read c (End ∷ []) false Stop [] refl in
    (e, ap read (sym h) ∙ r)

abbrev ends_by_else : Option (List Part) → Bool
ends_by_else (Some ((b, c) ∷ ps)) = b
ends_by_else _ = false

found_tree : (ts : List Token) (found : Option (List Part)) → read ts ≡ found → IfSome found (λ ps. tokens_of ps ≡ ts) → ∥ HasTree ts ∥₁ → HasTree ts
found_tree ts (Some ((false, c) ∷ [])) e s h = (c, s)
found_tree ts None e s h = absurd (∥∥₁_elim h (λ a b. absurd a) (λ (t : HasTree ts). let r = (whole_read ts t).1 in cc))
found_tree ts (Some []) e s h = absurd (∥∥₁_elim h (λ a b. absurd a) (λ (t : HasTree ts). let r = (whole_read ts t).1 in cc))
found_tree ts (Some ((true, c) ∷ ps)) e s h = absurd (∥∥₁_elim h (λ a b. absurd a) (λ (t : HasTree ts). let apart : true ≡ false = ap ends_by_else (sym e ∙ (whole_read ts t).1) in cc))
found_tree ts (Some ((false, c) ∷ p ∷ ps)) e s h = absurd (∥∥₁_elim h (λ a b. absurd a) (λ (t : HasTree ts). let r = (whole_read ts t).1 in cc))

pub tree_of : (ts : List Token) → ∥ HasTree ts ∥₁ → HasTree ts
tree_of ts h = found_tree ts (read ts) refl (tokens_kept ts) h
