-- The tokens of a body are those of one tree.
use Rattle.std.proofs.Common.{◌≡◌, List, [], ◌∷◌, refl, sym, ◌∙◌, subst}
use Rattle.wsyntax.specs.Instructions.{Code, Stop, Plain, Block, Loop, If, IfElse, Token, Do, OpenBlock, OpenLoop, OpenIf, Else, End}
use Rattle.wsyntax.specs.Validation.Laws.{UniqueTree}
use Rattle.soundness.proofs.Chapter3.Walk.{onto, flat-onto}

-- the tokens begin with one that ends a sequence
abbrev IsCloser : List Token → Type 0
IsCloser [] = ⊥
IsCloser (Do i ∷ ts) = ⊥
IsCloser (OpenBlock t ∷ ts) = ⊥
IsCloser (OpenLoop t ∷ ts) = ⊥
IsCloser (OpenIf t ∷ ts) = ⊥
IsCloser (Else ∷ ts) = Unit {0}
IsCloser (End ∷ ts) = Unit {0}

unique : (c d : Code) (us vs : List Token) → IsCloser us → IsCloser vs → onto c us ≡ onto d vs → (c ≡ d) × (us ≡ vs)
unique Stop Stop us vs p q e = (refl, e)
unique Stop (Plain i2 r2) us vs p q e = absurd (subst IsCloser e p)
unique Stop (Block t2 b2 r2) us vs p q e = absurd (subst IsCloser e p)
unique Stop (Loop t2 b2 r2) us vs p q e = absurd (subst IsCloser e p)
unique Stop (If t2 b2 r2) us vs p q e = absurd (subst IsCloser e p)
unique Stop (IfElse t2 b2 o2 r2) us vs p q e = absurd (subst IsCloser e p)
unique (Plain i1 r1) Stop us vs p q e = absurd (subst IsCloser (sym e) q)
unique (Plain i1 r1) (Plain i2 r2) us vs p q e =
    let h : i1 ≡ i2 = cc in
    let t : onto r1 us ≡ onto r2 vs = cc in
    let k = unique r1 r2 us vs p q t in
    let k0 = k.0 in
    (cc, k.1)
unique (Plain i1 r1) (Block t2 b2 r2) us vs p q e = absurd cc
unique (Plain i1 r1) (Loop t2 b2 r2) us vs p q e = absurd cc
unique (Plain i1 r1) (If t2 b2 r2) us vs p q e = absurd cc
unique (Plain i1 r1) (IfElse t2 b2 o2 r2) us vs p q e = absurd cc
unique (Block t1 b1 r1) Stop us vs p q e = absurd (subst IsCloser (sym e) q)
unique (Block t1 b1 r1) (Plain i2 r2) us vs p q e = absurd cc
unique (Block t1 b1 r1) (Block t2 b2 r2) us vs p q e =
    let h : t1 ≡ t2 = cc in
    let x : onto b1 (End ∷ onto r1 us) ≡ onto b2 (End ∷ onto r2 vs) = cc in
    let k = unique b1 b2 (End ∷ onto r1 us) (End ∷ onto r2 vs) tt tt x in
    let k0 = k.0 in
    let k1 = k.1 in
    let y : onto r1 us ≡ onto r2 vs = cc in
    let m = unique r1 r2 us vs p q y in
    let m0 = m.0 in
    (cc, m.1)
unique (Block t1 b1 r1) (Loop t2 b2 r2) us vs p q e = absurd cc
unique (Block t1 b1 r1) (If t2 b2 r2) us vs p q e = absurd cc
unique (Block t1 b1 r1) (IfElse t2 b2 o2 r2) us vs p q e = absurd cc
unique (Loop t1 b1 r1) Stop us vs p q e = absurd (subst IsCloser (sym e) q)
unique (Loop t1 b1 r1) (Plain i2 r2) us vs p q e = absurd cc
unique (Loop t1 b1 r1) (Block t2 b2 r2) us vs p q e = absurd cc
unique (Loop t1 b1 r1) (Loop t2 b2 r2) us vs p q e =
    let h : t1 ≡ t2 = cc in
    let x : onto b1 (End ∷ onto r1 us) ≡ onto b2 (End ∷ onto r2 vs) = cc in
    let k = unique b1 b2 (End ∷ onto r1 us) (End ∷ onto r2 vs) tt tt x in
    let k0 = k.0 in
    let k1 = k.1 in
    let y : onto r1 us ≡ onto r2 vs = cc in
    let m = unique r1 r2 us vs p q y in
    let m0 = m.0 in
    (cc, m.1)
unique (Loop t1 b1 r1) (If t2 b2 r2) us vs p q e = absurd cc
unique (Loop t1 b1 r1) (IfElse t2 b2 o2 r2) us vs p q e = absurd cc
unique (If t1 b1 r1) Stop us vs p q e = absurd (subst IsCloser (sym e) q)
unique (If t1 b1 r1) (Plain i2 r2) us vs p q e = absurd cc
unique (If t1 b1 r1) (Block t2 b2 r2) us vs p q e = absurd cc
unique (If t1 b1 r1) (Loop t2 b2 r2) us vs p q e = absurd cc
unique (If t1 b1 r1) (If t2 b2 r2) us vs p q e =
    let h : t1 ≡ t2 = cc in
    let x : onto b1 (End ∷ onto r1 us) ≡ onto b2 (End ∷ onto r2 vs) = cc in
    let k = unique b1 b2 (End ∷ onto r1 us) (End ∷ onto r2 vs) tt tt x in
    let k0 = k.0 in
    let k1 = k.1 in
    let y : onto r1 us ≡ onto r2 vs = cc in
    let m = unique r1 r2 us vs p q y in
    let m0 = m.0 in
    (cc, m.1)
unique (If t1 b1 r1) (IfElse t2 b2 o2 r2) us vs p q e =
    let x : onto b1 (End ∷ onto r1 us) ≡ onto b2 (Else ∷ onto o2 (End ∷ onto r2 vs)) = cc in
    let k1 = (unique b1 b2 (End ∷ onto r1 us) (Else ∷ onto o2 (End ∷ onto r2 vs)) tt tt x).1 in
    absurd cc
unique (IfElse t1 b1 o1 r1) Stop us vs p q e = absurd (subst IsCloser (sym e) q)
unique (IfElse t1 b1 o1 r1) (Plain i2 r2) us vs p q e = absurd cc
unique (IfElse t1 b1 o1 r1) (Block t2 b2 r2) us vs p q e = absurd cc
unique (IfElse t1 b1 o1 r1) (Loop t2 b2 r2) us vs p q e = absurd cc
unique (IfElse t1 b1 o1 r1) (If t2 b2 r2) us vs p q e =
    let x : onto b1 (Else ∷ onto o1 (End ∷ onto r1 us)) ≡ onto b2 (End ∷ onto r2 vs) = cc in
    let k1 = (unique b1 b2 (Else ∷ onto o1 (End ∷ onto r1 us)) (End ∷ onto r2 vs) tt tt x).1 in
    absurd cc
unique (IfElse t1 b1 o1 r1) (IfElse t2 b2 o2 r2) us vs p q e =
    let h : t1 ≡ t2 = cc in
    let x : onto b1 (Else ∷ onto o1 (End ∷ onto r1 us)) ≡ onto b2 (Else ∷ onto o2 (End ∷ onto r2 vs)) = cc in
    let k = unique b1 b2 (Else ∷ onto o1 (End ∷ onto r1 us)) (Else ∷ onto o2 (End ∷ onto r2 vs)) tt tt x in
    let k0 = k.0 in
    let k1 = k.1 in
    let y : onto o1 (End ∷ onto r1 us) ≡ onto o2 (End ∷ onto r2 vs) = cc in
    let n = unique o1 o2 (End ∷ onto r1 us) (End ∷ onto r2 vs) tt tt y in
    let n0 = n.0 in
    let n1 = n.1 in
    let z : onto r1 us ≡ onto r2 vs = cc in
    let m = unique r1 r2 us vs p q z in
    let m0 = m.0 in
    (cc, m.1)

pub unique_tree : UniqueTree
unique_tree a b e = (unique a b (End ∷ []) (End ∷ []) tt tt (sym (flat-onto a (End ∷ [])) ∙ e ∙ flat-onto b (End ∷ []))).0
