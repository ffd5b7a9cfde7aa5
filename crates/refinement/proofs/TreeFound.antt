-- The tree of a body's tokens is found from its end.
use Rattle.std.proofs.Common.{◌≡◌, List, [], ◌∷◌, ◌++◌, Some, None, refl, ap, ◌∙◌, append_assoc}
use Rattle.wsyntax.specs.Instructions.{Code, Stop, Plain, Block, Loop, If, IfElse, Token, Do, OpenBlock, OpenLoop, OpenIf, Else, End, follow, flat}
use Rattle.refinement.specs.Trees.{Closing, with_code, in_front, closing, outermost_code, code_of, TreeIsFound}

-- a sequence follows the empty one as it is
follow_stop : (code : Code) → follow code Stop ≡ code
follow_stop Stop = refl
follow_stop (Plain i rest) = ap (Plain i) (follow_stop rest)
follow_stop (Block t body rest) = ap (Block t body) (follow_stop rest)
follow_stop (Loop t body rest) = ap (Loop t body) (follow_stop rest)
follow_stop (If t body rest) = ap (If t body) (follow_stop rest)
follow_stop (IfElse t body other rest) = ap (IfElse t body other) (follow_stop rest)

-- a block's tokens, the word after them, and the rest
seam : (a b ts : List Token) (t : Token) → (a ++ t ∷ b) ++ ts ≡ a ++ t ∷ (b ++ ts)
seam a b ts t = append_assoc a (t ∷ b) ts

-- a sequence that ends here
abbrev ended : Closing
ended = record { code = Stop; other = None }

-- the tokens of a sequence in front of one that is not yet opened
found : (code : Code) (ts : List Token) (x : Closing) (xs : List Closing) → closing ts ≡ x ∷ xs → closing (flat code ++ ts) ≡ with_code x (follow code x.code) ∷ xs
found Stop ts x xs e = e
found (Plain i rest) ts x xs e = ap (in_front (Do i)) (found rest ts x xs e)
found (Block t body rest) ts x xs e =
    ap (λ z. in_front (OpenBlock t) (closing z)) (seam (flat body) (flat rest) ts End)
    ∙ ap (in_front (OpenBlock t)) (found body (End ∷ (flat rest ++ ts)) ended (closing (flat rest ++ ts)) refl)
    ∙ ap (λ z. in_front (OpenBlock t) (with_code ended (follow body Stop) ∷ z)) (found rest ts x xs e)
    ∙ ap (λ z. with_code x (Block t z (follow rest x.code)) ∷ xs) (follow_stop body)
found (Loop t body rest) ts x xs e =
    ap (λ z. in_front (OpenLoop t) (closing z)) (seam (flat body) (flat rest) ts End)
    ∙ ap (in_front (OpenLoop t)) (found body (End ∷ (flat rest ++ ts)) ended (closing (flat rest ++ ts)) refl)
    ∙ ap (λ z. in_front (OpenLoop t) (with_code ended (follow body Stop) ∷ z)) (found rest ts x xs e)
    ∙ ap (λ z. with_code x (Loop t z (follow rest x.code)) ∷ xs) (follow_stop body)
found (If t body rest) ts x xs e =
    ap (λ z. in_front (OpenIf t) (closing z)) (seam (flat body) (flat rest) ts End)
    ∙ ap (in_front (OpenIf t)) (found body (End ∷ (flat rest ++ ts)) ended (closing (flat rest ++ ts)) refl)
    ∙ ap (λ z. in_front (OpenIf t) (with_code ended (follow body Stop) ∷ z)) (found rest ts x xs e)
    ∙ ap (λ z. with_code x (If t z (follow rest x.code)) ∷ xs) (follow_stop body)
found (IfElse t body other rest) ts x xs e =
    ap (λ z. in_front (OpenIf t) (closing z)) (seam (flat body) (flat other ++ End ∷ flat rest) ts Else ∙ ap (λ z. flat body ++ Else ∷ z) (seam (flat other) (flat rest) ts End))
    ∙ ap (in_front (OpenIf t)) (found body (Else ∷ (flat other ++ End ∷ (flat rest ++ ts))) (record { code = Stop; other = Some (follow other Stop) }) (closing (flat rest ++ ts)) (ap (in_front Else) (found other (End ∷ (flat rest ++ ts)) ended (closing (flat rest ++ ts)) refl)))
    ∙ ap (λ z. in_front (OpenIf t) (record { code = follow body Stop; other = Some (follow other Stop) } ∷ z)) (found rest ts x xs e)
    ∙ ap (λ z. with_code x (IfElse t z (follow other Stop) (follow rest x.code)) ∷ xs) (follow_stop body)
    ∙ ap (λ z. with_code x (IfElse t body z (follow rest x.code)) ∷ xs) (follow_stop other)

pub tree_is_found : TreeIsFound
unfolding code_of
tree_is_found code = ap outermost_code (found code (End ∷ []) ended [] refl) ∙ follow_stop code
