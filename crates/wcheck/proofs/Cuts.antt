-- One list of operands, and the frames that it is cut into.
use Rattle.std.proofs.Common.{◌≡◌, ◌+◌, arith, length-append, List, [], ◌∷◌, ◌++◌, length, take, drop, reverse, Option, refl, sym, ap, ap₂, ◌∙◌}
use Rattle.std.proofs.lemmas.List.{reverse-append, reverse-reverse, length-reverse, take-append-drop}
use Rattle.std.proofs.Math.Seq.{take-append_seam, drop-append_seam}
use Rattle.wsyntax.specs.declared.ValType.{ValType}
use Rattle.wsyntax.specs.Types.{FuncType}
use Rattle.wcheck.specs.declared.frames.OuterFrame.{OuterFrame}
use Rattle.wsyntax.specs.Validation.Algorithm.{Frame}
use Rattle.wcheck.specs.Views.{cut, frame_of, first_dead, under_all}
use Rattle.side_table.specs.Pass.{height, outer_dead}

frame_with : List FuncType → OuterFrame → List (Option ValType) → Frame
frame_with types l k = frame_of types l.frame record { known = k; is_dead = l.unreachable }

pub opened_frames : (types : List FuncType) (outer : List OuterFrame) (l : OuterFrame) (below known : List (Option ValType)) → l.height ≡ length below → cut types (reverse (outer ++ l ∷ [])) (below ++ reverse known) ≡ frame_of types l.frame record { known = known; is_dead = l.unreachable } ∷ cut types (reverse outer) below
unfolding frame_with
opened_frames types outer l below known e =
    ap (λ z. cut types z (below ++ reverse known)) (reverse-append outer (l ∷ []))
    ∙ ap₂ (λ a b. frame_with types l a ∷ cut types (reverse outer) b)
    (ap (λ n. reverse (drop n (below ++ reverse known))) e ∙ ap reverse (drop-append_seam below (reverse known)) ∙ reverse-reverse known)
    (ap (λ n. take n (below ++ reverse known)) e ∙ take-append_seam below (reverse known))

pub opened_under : (outer : List OuterFrame) (l : OuterFrame) (below more : List (Option ValType)) → l.height ≡ length below → under_all (reverse outer) below ≡ [] → under_all (reverse (outer ++ l ∷ [])) (below ++ more) ≡ []
opened_under outer l below more e h =
    ap (λ z. under_all z (below ++ more)) (reverse-append outer (l ∷ [])) ∙ ap (λ n. under_all (reverse outer) (take n (below ++ more))) e ∙ ap (under_all (reverse outer)) (take-append_seam below more) ∙ h

pub closed_under : (outer : List OuterFrame) (l : OuterFrame) (below : List (Option ValType)) → under_all (reverse (outer ++ l ∷ [])) below ≡ [] → under_all (reverse outer) (take l.height below) ≡ []
closed_under outer l below h = ap (λ z. under_all z below) (sym (reverse-append outer (l ∷ []))) ∙ h

pub cut_dead : (types : List FuncType) (f : Frame) (ls : List OuterFrame) (below : List (Option ValType)) → outer_dead (f ∷ cut types ls below) ≡ first_dead ls
cut_dead types f [] below = refl
cut_dead types f (l ∷ ls) below = refl

cut_height : (types : List FuncType) (ls : List OuterFrame) (below : List (Option ValType)) → height (cut types ls below) + length (under_all ls below) ≡ length below
cut_height types [] below = omega arith
cut_height types (l ∷ ls) below =
    let k = cut_height types ls (take l.height below) in
    let r = length-reverse (drop l.height below) in
    let s = ap length (take-append-drop l.height below) in
    let a = length-append (take l.height below) (drop l.height below) in
    omega (arith, k, r, s, a)

pub tight_height : (types : List FuncType) (ls : List OuterFrame) (below : List (Option ValType)) → under_all ls below ≡ [] → height (cut types ls below) ≡ length below
tight_height types ls below e = let k = cut_height types ls below in let q = ap length e in omega (arith, k, q)
