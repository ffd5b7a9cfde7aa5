-- Sequences one after another.
use Rattle.std.proofs.Common.{◌≡◌, ◌∷◌, ◌++◌, refl, sym, ap, ◌∙◌, subst, append_assoc}
use Rattle.wsyntax.specs.declared.types.ValType.TheVariants.{I32}
use Rattle.wsyntax.specs.Instructions.{Code, Stop, Plain, Block, Loop, If, IfElse, follow}
use Rattle.wsyntax.specs.Validation.Context.{Stack, enter, leave, Context}
use Rattle.wsyntax.specs.Validation.Typing.{Typed}
use Rattle.wsyntax.specs.Validation.Laws.{Composes, Splits}

pub follow-on : (s u : Code) (C : Context) (a b z : Stack) → Typed C s a b → Typed C u b z → Typed C (follow s u) a z
follow-on Stop u C a b z h k = subst (λ x. Typed C u x z) (sym h) k
follow-on (Plain i rest) u C a b z h k = (h.0, h.1, h.2, h.3, h.4, follow-on rest u C (h.1 ++ h.2) b z h.5 k)
follow-on (Block t body rest) u C a b z h k = (h.0, h.1, h.2, h.3, h.4, follow-on rest u C (leave h.0 ++ h.1) b z h.5 k)
follow-on (Loop t body rest) u C a b z h k = (h.0, h.1, h.2, h.3, h.4, follow-on rest u C (leave h.0 ++ h.1) b z h.5 k)
follow-on (If t body rest) u C a b z h k = (h.0, h.1, h.2, h.3, h.4, h.5, follow-on rest u C (leave h.0 ++ h.1) b z h.6 k)
follow-on (IfElse t body other rest) u C a b z h k = (h.0, h.1, h.2, h.3, h.4, h.5, follow-on rest u C (leave h.0 ++ h.1) b z h.6 k)

pub splits : Splits
splits C Stop u a z h = (a, refl, h)
splits C (Plain i rest) u a z h = let k = splits C rest u (h.1 ++ h.2) z h.5 in (k.0, (h.0, h.1, h.2, h.3, h.4, k.1), k.2)
splits C (Block t body rest) u a z h = let k = splits C rest u (leave h.0 ++ h.1) z h.5 in (k.0, (h.0, h.1, h.2, h.3, h.4, k.1), k.2)
splits C (Loop t body rest) u a z h = let k = splits C rest u (leave h.0 ++ h.1) z h.5 in (k.0, (h.0, h.1, h.2, h.3, h.4, k.1), k.2)
splits C (If t body rest) u a z h = let k = splits C rest u (leave h.0 ++ h.1) z h.6 in (k.0, (h.0, h.1, h.2, h.3, h.4, h.5, k.1), k.2)
splits C (IfElse t body other rest) u a z h = let k = splits C rest u (leave h.0 ++ h.1) z h.6 in (k.0, (h.0, h.1, h.2, h.3, h.4, h.5, k.1), k.2)

below : (p c d : Stack) (a : Stack) → a ≡ p ++ c → a ++ d ≡ p ++ (c ++ d)
below p c d a e = ap (λ x. x ++ d) e ∙ append_assoc p c d

-- more may lie below
pub deeper : (s : Code) (C : Context) (a z d : Stack) → Typed C s a z → Typed C s (a ++ d) (z ++ d)
deeper Stop C a z d h = ap (λ x. x ++ d) h
deeper (Plain i rest) C a z d h =
    (h.0, h.1, h.2 ++ d, h.3, below h.0 h.2 d a h.4, subst (λ x. Typed C rest x (z ++ d)) (append_assoc h.1 h.2 d) (deeper rest C (h.1 ++ h.2) z d h.5))
deeper (Block t body rest) C a z d h =
    (h.0, h.1 ++ d, h.2, h.3, below (enter h.0) h.1 d a h.4, subst (λ x. Typed C rest x (z ++ d)) (append_assoc (leave h.0) h.1 d) (deeper rest C (leave h.0 ++ h.1) z d h.5))
deeper (Loop t body rest) C a z d h =
    (h.0, h.1 ++ d, h.2, h.3, below (enter h.0) h.1 d a h.4, subst (λ x. Typed C rest x (z ++ d)) (append_assoc (leave h.0) h.1 d) (deeper rest C (leave h.0 ++ h.1) z d h.5))
deeper (If t body rest) C a z d h =
    (h.0, h.1 ++ d, h.2, h.3, h.4, below (I32 ∷ enter h.0) h.1 d a h.5, subst (λ x. Typed C rest x (z ++ d)) (append_assoc (leave h.0) h.1 d) (deeper rest C (leave h.0 ++ h.1) z d h.6))
deeper (IfElse t body other rest) C a z d h =
    (h.0, h.1 ++ d, h.2, h.3, h.4, below (I32 ∷ enter h.0) h.1 d a h.5, subst (λ x. Typed C rest x (z ++ d)) (append_assoc (leave h.0) h.1 d) (deeper rest C (leave h.0 ++ h.1) z d h.6))

pub composes : Composes
composes C s u a b c d h k = follow-on s u C a (b ++ c) (d ++ c) h (deeper u C b d c k)
