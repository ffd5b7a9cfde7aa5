-- Tokens are those of one tree at most.
use Rattle.std.proofs.Common.{◌≡◌, List, [], ◌∷◌, ◌++◌, refl, sym, ap, subst, ◌∙◌, append_assoc}
use Rattle.wsyntax.specs.Instructions.{Token, Do, OpenBlock, OpenLoop, OpenIf, Else, End, Code, Stop, Plain, Block, Loop, If, IfElse, flat, flat_body}

-- what begins with an end or an else
abbrev pub Closer : List Token → Type 0
Closer [] = ⊥
Closer (Do i ∷ ts) = ⊥
Closer (OpenBlock t ∷ ts) = ⊥
Closer (OpenLoop t ∷ ts) = ⊥
Closer (OpenIf t ∷ ts) = ⊥
Closer (Else ∷ ts) = Unit {0}
Closer (End ∷ ts) = Unit {0}

abbrev Same : Code → Code → List Token → List Token → Type 0
Same c d us vs = (c ≡ d) × (us ≡ vs)

tail_is : (t u : Token) (a b : List Token) → ◌≡◌ {A = List Token} (t ∷ a) (u ∷ b) → a ≡ b
tail_is t u a b e = cc

-- a body, its end and the rest
ended : (a b us : List Token) → (a ++ (End ∷ b)) ++ us ≡ a ++ (End ∷ (b ++ us))
ended a b us = simp append_assoc

with_else : (a o b us : List Token) → (a ++ (Else ∷ (o ++ (End ∷ b)))) ++ us ≡ a ++ (Else ∷ (o ++ (End ∷ (b ++ us))))
with_else a o b us = simp append_assoc

pub one_tree : (c d : Code) (us vs : List Token) → Closer us → Closer vs → flat c ++ us ≡ flat d ++ vs → Same c d us vs
one_tree Stop Stop us vs k l e = (refl, e)
one_tree Stop (Plain j d) us vs k l e = absurd (subst Closer e k)
one_tree Stop (Block t b d) us vs k l e = absurd (subst Closer e k)
one_tree Stop (Loop t b d) us vs k l e = absurd (subst Closer e k)
one_tree Stop (IfElse t b o d) us vs k l e = absurd (subst Closer e k)
one_tree Stop (If t b d) us vs k l e = absurd (subst Closer e k)
one_tree (Plain j d) Stop us vs k l e = absurd (subst Closer (sym e) l)
one_tree (Block t b d) Stop us vs k l e = absurd (subst Closer (sym e) l)
one_tree (Loop t b d) Stop us vs k l e = absurd (subst Closer (sym e) l)
one_tree (IfElse t b o d) Stop us vs k l e = absurd (subst Closer (sym e) l)
one_tree (If t b d) Stop us vs k l e = absurd (subst Closer (sym e) l)
one_tree (Plain i c) (Plain j d) us vs k l e =
    let is : i ≡ j = cc in
    let h = one_tree c d us vs k l (tail_is (Do i) (Do j) (flat c ++ us) (flat d ++ vs) e) in
    (ap (λ x. Plain x c) is ∙ ap (Plain j) h.0, h.1)
one_tree (Block t a c) (Block u b d) us vs k l e =
    let is : t ≡ u = cc in
    let more = sym (ended (flat a) (flat c) us) ∙ tail_is (OpenBlock t) (OpenBlock u) _ _ e ∙ ended (flat b) (flat d) vs in
    let g = one_tree a b (End ∷ (flat c ++ us)) (End ∷ (flat d ++ vs)) tt tt more in
    let h = one_tree c d us vs k l (tail_is End End _ _ g.1) in
    (ap (λ x. Block x a c) is ∙ ap (λ x. Block u x c) g.0 ∙ ap (Block u b) h.0, h.1)
one_tree (Loop t a c) (Loop u b d) us vs k l e =
    let is : t ≡ u = cc in
    let more = sym (ended (flat a) (flat c) us) ∙ tail_is (OpenLoop t) (OpenLoop u) _ _ e ∙ ended (flat b) (flat d) vs in
    let g = one_tree a b (End ∷ (flat c ++ us)) (End ∷ (flat d ++ vs)) tt tt more in
    let h = one_tree c d us vs k l (tail_is End End _ _ g.1) in
    (ap (λ x. Loop x a c) is ∙ ap (λ x. Loop u x c) g.0 ∙ ap (Loop u b) h.0, h.1)
one_tree (IfElse t a o c) (IfElse u b n d) us vs k l e =
    let is : t ≡ u = cc in
    let more = sym (with_else (flat a) (flat o) (flat c) us) ∙ tail_is (OpenIf t) (OpenIf u) _ _ e ∙ with_else (flat b) (flat n) (flat d) vs in
    let g = one_tree a b (Else ∷ (flat o ++ (End ∷ (flat c ++ us)))) (Else ∷ (flat n ++ (End ∷ (flat d ++ vs)))) tt tt more in
    let f = one_tree o n (End ∷ (flat c ++ us)) (End ∷ (flat d ++ vs)) tt tt (tail_is Else Else _ _ g.1) in
    let h = one_tree c d us vs k l (tail_is End End _ _ f.1) in
    (ap (λ x. IfElse x a o c) is ∙ ap (λ x. IfElse u x o c) g.0 ∙ ap (λ x. IfElse u b x c) f.0 ∙ ap (IfElse u b n) h.0, h.1)
one_tree (If t a c) (If u b d) us vs k l e =
    let is : t ≡ u = cc in
    let more = sym (ended (flat a) (flat c) us) ∙ tail_is (OpenIf t) (OpenIf u) _ _ e ∙ ended (flat b) (flat d) vs in
    let g = one_tree a b (End ∷ (flat c ++ us)) (End ∷ (flat d ++ vs)) tt tt more in
    let h = one_tree c d us vs k l (tail_is End End _ _ g.1) in
    (ap (λ x. If x a c) is ∙ ap (λ x. If u x c) g.0 ∙ ap (If u b) h.0, h.1)
one_tree (IfElse t a o c) (If u b d) us vs k l e =
    let more = sym (with_else (flat a) (flat o) (flat c) us) ∙ tail_is (OpenIf t) (OpenIf u) _ _ e ∙ ended (flat b) (flat d) vs in
    let g = one_tree a b (Else ∷ (flat o ++ (End ∷ (flat c ++ us)))) (End ∷ (flat d ++ vs)) tt tt more in
    let clash = g.1 in
    absurd cc
one_tree (If t a c) (IfElse u b n d) us vs k l e =
    let more = sym (ended (flat a) (flat c) us) ∙ tail_is (OpenIf t) (OpenIf u) _ _ e ∙ with_else (flat b) (flat n) (flat d) vs in
    let g = one_tree a b (End ∷ (flat c ++ us)) (Else ∷ (flat n ++ (End ∷ (flat d ++ vs)))) tt tt more in
    let clash = g.1 in
    absurd cc
one_tree (Plain i c) (Block u b d) us vs k l e = absurd cc
one_tree (Plain i c) (Loop u b d) us vs k l e = absurd cc
one_tree (Plain i c) (IfElse u b n d) us vs k l e = absurd cc
one_tree (Plain i c) (If u b d) us vs k l e = absurd cc
one_tree (Block t a c) (Plain j d) us vs k l e = absurd cc
one_tree (Block t a c) (Loop u b d) us vs k l e = absurd cc
one_tree (Block t a c) (IfElse u b n d) us vs k l e = absurd cc
one_tree (Block t a c) (If u b d) us vs k l e = absurd cc
one_tree (Loop t a c) (Plain j d) us vs k l e = absurd cc
one_tree (Loop t a c) (Block u b d) us vs k l e = absurd cc
one_tree (Loop t a c) (IfElse u b n d) us vs k l e = absurd cc
one_tree (Loop t a c) (If u b d) us vs k l e = absurd cc
one_tree (IfElse t a o c) (Plain j d) us vs k l e = absurd cc
one_tree (IfElse t a o c) (Block u b d) us vs k l e = absurd cc
one_tree (IfElse t a o c) (Loop u b d) us vs k l e = absurd cc
one_tree (If t a c) (Plain j d) us vs k l e = absurd cc
one_tree (If t a c) (Block u b d) us vs k l e = absurd cc
one_tree (If t a c) (Loop u b d) us vs k l e = absurd cc

pub one_code : (c d : Code) → flat_body c ≡ flat_body d → c ≡ d
one_code c d e = (one_tree c d (End ∷ []) (End ∷ []) tt tt e).0
