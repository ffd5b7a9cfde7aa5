-- Steps, branches and returns at the innermost level.
use Rattle.std.proofs.Common.{◌≡◌, ℕ, List, [], ◌∷◌, refl, ap, ◌∙◌}
use Rattle.wsyntax.specs.declared.value.Value.{Value}
use Rattle.wsyntax.specs.Execution.Store.{Module, Store}
use Rattle.wsyntax.specs.Execution.Step.{Work, Frame, Steps, Breaks, Returns, in_label, in_frame, next}
use Rattle.wsyntax.specs.Execution.Layers.{LabelLayer, Layer, InLabel, InFrame, label_around, in_labels, inside, locals_at, with_locals, locals_around, beyond, StepsInside, BranchTaken, ReturnTaken}

same_layers : (layers : List Layer) (l : List Value) → with_locals layers (locals_at layers l) ≡ layers
same_layers [] l = refl
same_layers (InLabel x ∷ out) l = ap (λ out. InLabel x ∷ out) (same_layers out l)
same_layers (InFrame below n own rest ∷ out) l = refl

same_locals : (layers : List Layer) (l : List Value) → locals_around layers l (locals_at layers l) ≡ l
same_locals [] l = refl
same_locals (InLabel x ∷ out) l = same_locals out l
same_locals (InFrame below n own rest ∷ out) l = refl

pub steps_inside : StepsInside
unfolding next
steps_inside m s s' [] l l' w w' kind e = e
steps_inside m s s' (InLabel x ∷ out) l l' w w' kind e =
    steps_inside m s s' out l l' (label_around x w) (label_around x w') kind (ap (in_label s (locals_at out l) x.below x.arity x.cont x.rest) e)
steps_inside m s s' (InFrame below n own rest ∷ out) l l' w w' kind e =
    let h = steps_inside m s s' out l (locals_at out l) (Frame below n own w rest) (Frame below n l' w' rest) kind (ap (in_frame s (locals_at out l) below n own rest) e) in
    h ∙ ap (λ layers. Steps kind s' (locals_around out l (locals_at out l)) (inside layers (Frame below n l' w' rest))) (same_layers out l)
    ∙ ap (λ l. Steps kind s' l (inside out (Frame below n l' w' rest))) (same_locals out l)

passing : (m : Module) (s : Store) (passed : List LabelLayer) (x : ℕ) (l over : List Value) (w : Work) → next m s l w ≡ Breaks (beyond passed x) over → next m s l (in_labels passed w) ≡ Breaks x over
unfolding next
passing m s [] x l over w e = e
passing m s (y ∷ ys) x l over w e = passing m s ys x l over (label_around y w) (ap (in_label s l y.below y.arity y.cont y.rest) e)

pub branch_taken : BranchTaken
unfolding next
branch_taken m s passed x l over w e = ap (in_label s l x.below x.arity x.cont x.rest) (passing m s passed 0 l over w e)

leaving : (m : Module) (s : Store) (passed : List LabelLayer) (l over : List Value) (w : Work) → next m s l w ≡ Returns over → next m s l (in_labels passed w) ≡ Returns over
unfolding next
leaving m s [] l over w e = e
leaving m s (y ∷ ys) l over w e = leaving m s ys l over (label_around y w) (ap (in_label s l y.below y.arity y.cont y.rest) e)

pub return_taken : ReturnTaken
unfolding next
return_taken m s passed below own over n rest l w e = ap (in_frame s l below n own rest) (leaving m s passed own over w e)
