-- How a configuration steps where its innermost level does, and what its type says of that level.
-- It goes by induction over the labels and frames around the level: a step, a branch, a return and a trap pass them one by one.
-- Laws of src/execution.rt, from `steps_there` to `state_typed`, cite it; Leads.antt cites `steps_there` and `trap_falls`.
use Rattle.std.proofs.Common.{◌≡◌, ℕ, zero, suc, ◌+◌, ◌≤◌, List, [], ◌∷◌, ◌++◌, length, map, take, drop, append-nil, Option, Some, None, refl, ap, ◌∙◌, subst, arith}
use Rattle.std.specs.Prelude.{slice_get}
use Rattle.wsyntax.specs.declared.types.ValType.{ValType}
use Rattle.wsyntax.specs.Instructions.{Code, Stop, Plain, Block, Loop, If, IfElse, follow}
use Rattle.wsyntax.specs.Validation.Context.{Stack, Context, frame_context}
use Rattle.wsyntax.specs.declared.value.Value.{Value}
use Rattle.wsyntax.specs.declared.value.Trap.{Trap as TrapKind}
use Rattle.wsyntax.specs.Execution.Values.{types, AreWords}
use Rattle.wsyntax.specs.Execution.Store.{Module, Store}
use Rattle.wsyntax.specs.Execution.Step.{Work, Source, Trap, Frame, Kind, Working, Quiet, Next, Steps, Breaks, Returns, Finished, Trapped, Traps, Stuck, on_top_of, grab, put_on, leaves, in_label, in_frame, next, outermost, step, on_some}
use Rattle.wsyntax.specs.Execution.Chain.{Within, frames_in}
use Rattle.wsyntax.specs.Execution.Layers.{LabelLayer, label_around, in_labels}
use Rattle.wsyntax.specs.Execution.ConfigTyped.{WorkTyped}
use Rattle.soundness.specs.State.{Activation, frames_around, config_at, belows, StepsThere, BranchLands, ReturnGives, ReturnEnds, Falls, TrapFalls, FramesStand, StateTyped}
use Rattle.soundness.proofs.Chapter4.Stacks.{words_join}

-- Steps.

labels_step : (m : Module) (s s' : Store) (l l' : List Value) (kind : Kind) (xs : List LabelLayer) (w w' : Work) → next m s l w ≡ Steps kind s' l' w' → next m s l (in_labels xs w) ≡ Steps kind s' l' (in_labels xs w')
unfolding next
labels_step m s s' l l' kind [] w w' e = e
labels_step m s s' l l' kind (x ∷ xs) w w' e =
    labels_step m s s' l l' kind xs (label_around x w) (label_around x w') (ap (in_label s l x.below x.arity x.cont x.rest) e)

frames_step : (m : Module) (s s' : Store) (kind : Kind) (bs : List Activation) (n : ℕ) (own own' : List Value) (w w' : Work) → next m s own w ≡ Steps kind s' own' w' → next m s [] (frames_around n own w bs) ≡ Steps kind s' [] (frames_around n own' w' bs)
unfolding next
frames_step m s s' kind [] n own own' w w' e = ap (in_frame s [] [] n own Stop) e
frames_step m s s' kind (a ∷ bs) n own own' w w' e =
    frames_step m s s' kind bs a.arity a.locals a.locals _ _
    (labels_step m s s' a.locals a.locals kind a.levels (Frame a.held n own w a.code) (Frame a.held n own' w' a.code) (ap (in_frame s a.locals a.held n own a.code) e))

whole : (m : Module) (s s' : Store) (kind : Kind) (bs : List Activation) (n : ℕ) (own own' : List Value) (w w' : Work) → next m s own w ≡ Steps kind s' own' w' → step m (config_at s (frames_around n own w bs)) ≡ Steps kind s' [] (frames_around n own' w' bs)
unfolding step
whole m s s' kind bs n own own' w w' e = ap (outermost s []) (frames_step m s s' kind bs n own own' w w' e)

pub steps_there : StepsThere
steps_there m s s' a bs w w' own kind e =
    whole m s s' kind bs a.arity a.locals own (in_labels a.levels w) (in_labels a.levels w') (labels_step m s s' a.locals own kind a.levels w w' e)

-- Branches and returns.

grab_is : (n : ℕ) (vs : List Value) → n ≤ length vs → grab n vs ≡ Some (take n vs, drop n vs)
grab_is zero vs h = refl
grab_is (suc n) [] h = absurd (omega arith)
grab_is (suc n) (v ∷ vs) h = ap (put_on v) (grab_is n vs (omega arith))

pub top_is : (n : ℕ) (vs : List Value) (go : List Value → List Value → Next) → n ≤ length vs → on_top_of n vs go ≡ go (take n vs) (drop n vs)
top_is n vs go h = ap (λ o. on_some o (λ (p : List Value × List Value). go p.0 p.1)) (grab_is n vs h)

branch_at : (m : Module) (s : Store) (l over : List Value) (xs : List LabelLayer) (k : ℕ) (lv : LabelLayer) (w : Work) → slice_get xs k ≡ Some lv → lv.arity ≤ length over → next m s l w ≡ Breaks k over → next m s l (in_labels xs w) ≡ Steps Quiet s l (in_labels (drop (suc k) xs) (Source (take lv.arity over ++ lv.below) (follow lv.cont lv.rest)))
unfolding next
branch_at m s l over [] k lv w g h e = absurd cc
branch_at m s l over (x ∷ xs) zero lv w g h e =
    let same : x ≡ lv = some_is g in
    subst (λ (y : LabelLayer). y.arity ≤ length over → next m s l (in_labels (x ∷ xs) w) ≡ Steps Quiet s l (in_labels xs (Source (take y.arity over ++ y.below) (follow y.cont y.rest)))) same
    (λ h. labels_step m s s l l Quiet xs (label_around x w) (Source (take x.arity over ++ x.below) (follow x.cont x.rest))
    (ap (in_label s l x.below x.arity x.cont x.rest) e ∙ top_is x.arity over (λ taken dropped. leaves Quiet s l (taken ++ x.below) (follow x.cont x.rest)) h)) h
  where
    some_is : Some x ≡ Some lv → x ≡ lv
    some_is q = cc
branch_at m s l over (x ∷ xs) (suc k) lv w g h e =
    branch_at m s l over xs k lv (label_around x w) g h (ap (in_label s l x.below x.arity x.cont x.rest) e)

pub branch_lands : BranchLands
branch_lands m s a bs x lv g h e =
    whole m s s Quiet bs a.arity a.locals a.locals _ _ (branch_at m s a.locals a.held a.levels x lv (Source a.held a.code) g h e)

returns_at : (m : Module) (s : Store) (l over : List Value) (xs : List LabelLayer) (w : Work) → next m s l w ≡ Returns over → next m s l (in_labels xs w) ≡ Returns over
unfolding next
returns_at m s l over [] w e = e
returns_at m s l over (x ∷ xs) w e = returns_at m s l over xs (label_around x w) (ap (in_label s l x.below x.arity x.cont x.rest) e)

frame_returns : (m : Module) (s : Store) (l vs : List Value) (rest : Code) (a : Activation) → a.arity ≤ length a.held → next m s a.locals (Source a.held a.code) ≡ Returns a.held → next m s l (Frame vs a.arity a.locals (in_labels a.levels (Source a.held a.code)) rest) ≡ Steps Working s l (Source (take a.arity a.held ++ vs) rest)
unfolding next
frame_returns m s l vs rest a h e =
    ap (in_frame s l vs a.arity a.locals rest) (returns_at m s a.locals a.held a.levels (Source a.held a.code) e)
    ∙ top_is a.arity a.held (λ taken dropped. leaves Working s l (taken ++ vs) rest) h

pub return_gives : ReturnGives
return_gives m s a b bs h e =
    whole m s s Working bs b.arity b.locals b.locals _ _
    (labels_step m s s b.locals b.locals Working b.levels (Frame b.held a.arity a.locals (in_labels a.levels (Source a.held a.code)) b.code) (Source (take a.arity a.held ++ b.held) b.code) (frame_returns m s b.locals b.held b.code a h e))

pub return_ends : ReturnEnds
unfolding step
return_ends m s a h e = ap (outermost s []) (frame_returns m s [] [] Stop a h e)

-- Traps.

-- a trap alone, or with something around it
abbrev Fails : TrapKind → Next → Type 0
Fails t (Trapped u) = u ≡ t
Fails t (Traps u) = u ≡ t
Fails t _ = ⊥

labels_fail : (m : Module) (s : Store) (l : List Value) (t : TrapKind) (xs : List LabelLayer) (w : Work) → Fails t (next m s l w) → Fails t (next m s l (in_labels xs w))
unfolding next
labels_fail m s l t [] w h = h
labels_fail m s l t (x ∷ xs) w h = labels_fail m s l t xs (label_around x w) (around (next m s l w) h)
  where
    around : (o : Next) → Fails t o → Fails t (in_label s l x.below x.arity x.cont x.rest o)
    around (Trapped u) h = h
    around (Traps u) h = h
    around (Steps k s' l' w') h = absurd h
    around (Breaks k over) h = absurd h
    around (Returns over) h = absurd h
    around (Finished over) h = absurd h
    around Stuck h = absurd h

trap_fails : (m : Module) (s : Store) (l vs : List Value) (t : TrapKind) (rest : Code) → Fails t (next m s l (Trap vs t rest))
unfolding next
trap_fails m s l [] t Stop = refl
trap_fails m s l [] t (Plain i r) = refl
trap_fails m s l [] t (Block b x r) = refl
trap_fails m s l [] t (Loop b x r) = refl
trap_fails m s l [] t (If b x r) = refl
trap_fails m s l [] t (IfElse b x y r) = refl
trap_fails m s l (v ∷ vs) t rest = refl

one_step : {m : Module} {frames fuel : ℕ} {s : Store} {w w' : Work} {t : TrapKind} → step m (config_at s w) ≡ Steps Quiet s [] w' → Falls m frames fuel s w' t → Falls m frames fuel s w t
one_step {s = s} {w' = w'} e f = record { kinds = Quiet ∷ f.kinds; chain = Within.after {d = config_at s w'} e (omega arith) (λ q. absurd cc) f.chain; idle = omega (arith, f.idle) }

-- out of one frame, in one step or in two
out_of : (m : Module) (s : Store) (l vs own : List Value) (n : ℕ) (t : TrapKind) (w : Work) (rest : Code) → Fails t (next m s own w) → (P : Work → Type 0) → ((w' : Work) → next m s l (Frame vs n own w rest) ≡ Steps Quiet s l w' → P w' → P (Frame vs n own w rest)) → ((w' : Work) → next m s l (Frame vs n own (Trap [] t Stop) rest) ≡ Steps Quiet s l w' → P w' → P (Frame vs n own (Trap [] t Stop) rest)) → P (Trap vs t rest) → P (Frame vs n own w rest)
unfolding next
out_of m s l vs own n t w rest h P first second done = go (next m s own w) refl h
  where
    go : (o : Next) → next m s own w ≡ o → Fails t o → P (Frame vs n own w rest)
    go (Trapped u) e h = first (Trap vs t rest) (ap (in_frame s l vs n own rest) e ∙ ap (λ u. Steps Quiet s l (Trap vs u rest)) h) done
    go (Traps u) e h = first (Frame vs n own (Trap [] t Stop) rest) (ap (in_frame s l vs n own rest) e ∙ ap (λ u. Steps Quiet s l (Frame vs n own (Trap [] u Stop) rest)) h) (second (Trap vs t rest) refl done)
    go (Steps k s' l' w') e h = absurd h
    go (Breaks k over) e h = absurd h
    go (Returns over) e h = absurd h
    go (Finished over) e h = absurd h
    go Stuck e h = absurd h

falls : (m : Module) (frames fuel : ℕ) (s : Store) (t : TrapKind) (bs : List Activation) (n : ℕ) (own : List Value) (w : Work) → Fails t (next m s own w) → Falls m frames fuel s (frames_around n own w bs) t
unfolding step
falls m frames fuel s t [] n own w h =
    out_of m s [] [] own n t w Stop h (λ w. Falls m frames fuel s w t)
    (λ w' e f. one_step (ap (outermost s []) e) f) (λ w' e f. one_step (ap (outermost s []) e) f)
    (record { kinds = []; chain = Within.ends; idle = refl })
falls m frames fuel s t (a ∷ bs) n own w h =
    out_of m s a.locals a.held own n t w a.code h (λ w. Falls m frames fuel s (frames_around a.arity a.locals (in_labels a.levels w) bs) t)
    (λ w' e f. one_step (whole m s s Quiet bs a.arity a.locals a.locals _ _ (labels_step m s s a.locals a.locals Quiet a.levels _ w' e)) f)
    (λ w' e f. one_step (whole m s s Quiet bs a.arity a.locals a.locals _ _ (labels_step m s s a.locals a.locals Quiet a.levels _ w' e)) f)
    (falls m frames fuel s t bs a.arity a.locals _ (labels_fail m s a.locals t a.levels (Trap a.held t a.code) (trap_fails m s a.locals a.held t a.code)))

pub trap_falls : TrapFalls
trap_falls m frames fuel s a bs vs trap rest =
    falls m frames fuel s trap bs a.arity a.locals _ (labels_fail m s a.locals trap a.levels (Trap vs trap rest) (trap_fails m s a.locals vs trap rest))

-- Frames.

pub labels_frames : (xs : List LabelLayer) (w : Work) → frames_in (in_labels xs w) ≡ frames_in w
labels_frames [] w = refl
labels_frames (x ∷ xs) w = labels_frames xs (label_around x w)

pub frames_are : (bs : List Activation) (n : ℕ) (own : List Value) (w : Work) → frames_in (frames_around n own w bs) ≡ suc (length bs + frames_in w)
frames_are [] n own w = omega arith
frames_are (a ∷ bs) n own w =
    frames_are bs a.arity a.locals (in_labels a.levels (Frame a.held n own w a.code)) ∙ omega (arith, labels_frames a.levels (Frame a.held n own w a.code))

pub frames_stand : FramesStand
frames_stand a bs = frames_are bs a.arity a.locals (in_labels a.levels (Source a.held a.code)) ∙ omega (arith, labels_frames a.levels (Source a.held a.code))

-- Types.

-- under the labels of one frame
record InLabels (C : Context) (xs : List LabelLayer) (w : Work) : Type 0 where
  labels : List Stack
  gives : Stack
  arities : map length labels ≡ map (λ (x : LabelLayer). x.arity) xs ++ map length C.labels
  work : WorkTyped (record C { labels = labels }) w gives
  words : AreWords (belows xs)

labels_typed : (C : Context) (xs : List LabelLayer) (w : Work) (b : Stack) → WorkTyped C (in_labels xs w) b → InLabels C xs w
labels_typed C [] w b h = record { labels = C.labels; gives = b; arities = refl; work = h; words = tt }
labels_typed C (x ∷ xs) w b h =
    let k = labels_typed C xs (label_around x w) b h in
    let l = k.work in
    record { labels = l.0 ∷ k.labels; gives = l.1; arities = cc (l.3, k.arities); work = l.5; words = words_join x.below (belows xs) (l.6).words k.words }

-- inside all frames
record InFrames (C : Context) (n : ℕ) (own : List Value) (w : Work) : Type 0 where
  return : Stack
  results : length return ≡ n
  words : AreWords own
  work : WorkTyped (frame_context (types own) return C) w return

frames_typed : (C : Context) (locals : List ValType) (labels : List Stack) (return : Option Stack) (bs : List Activation) (n : ℕ) (own : List Value) (w : Work) (b : Stack) → WorkTyped (record C { locals = locals; labels = labels; return = return }) (frames_around n own w bs) b → InFrames C n own w
frames_typed C locals labels return [] n own w b h = record { return = h.0; results = h.2; words = h.3; work = h.4 }
frames_typed C locals labels return (a ∷ bs) n own w b h =
    let k = frames_typed C locals labels return bs a.arity a.locals (in_labels a.levels (Frame a.held n own w a.code)) b h in
    let l = labels_typed (frame_context (types a.locals) k.return C) a.levels (Frame a.held n own w a.code) k.return k.work in
    let f = l.work in
    record { return = f.0; results = f.2; words = f.3; work = f.4 }

pub state_typed : StateTyped
state_typed C st r t =
    let a = st.running in
    let k = frames_typed C [] [] None st.waiting a.arity a.locals (in_labels a.levels (Source a.held a.code)) r t.work in
    let l = labels_typed (frame_context (types a.locals) k.return C) a.levels (Source a.held a.code) k.return k.work in
    let w = l.work in
    record {
      return = k.return;
      labels = l.labels;
      takes = w.0;
      gives = l.gives;
      results = k.results;
      arities = l.arities ∙ append-nil (map (λ (x : LabelLayer). x.arity) a.levels);
      held = w.1;
      code = w.2;
      operands = words_join a.held (belows a.levels) (w.1).words l.words;
      locals = k.words;
    }
