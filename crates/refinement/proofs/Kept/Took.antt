-- Every turn keeps the invariant, or ends the call as the reduction does.
use Rattle.std.proofs.Common.{◌≡◌, ℕ, List, [], ◌∷◌, length, Option, Some, refl, sym, ap, ◌∙◌, subst, arith}
use Rattle.std.specs.Prelude.{slice_get}
use Rattle.std.proofs.lemmas.Option.{slice_get_within}
use Rattle.wsyntax.specs.declared.value.Value.{Value}
use Rattle.wsyntax.specs.Instructions.{Op, Unreachable, Nop, Return, Br, BrIf, Call, CallIndirect, BrTable, Drop, Select, LocalGet, LocalSet, LocalTee, GlobalGet, GlobalSet, MemoryLoad, MemoryStore, MemorySize, MemoryGrow, Const, Numeric, Code, Stop, Plain, Block, Loop, If, IfElse, Token, Do, OpenBlock, OpenLoop, OpenIf, Else, End}
use Rattle.wsyntax.specs.Validation.Context.{Stack}
use Rattle.wsyntax.specs.Execution.Values.{types}
use Rattle.wsyntax.specs.Execution.Layers.{LabelLayer}
use Rattle.wsyntax.specs.Execution.ConfigTyped.{ConfigTyped}
use Rattle.checked_body.specs.declared.branch.Branch.{Branch}
use Rattle.checked_body.specs.SideTable.{Filled, Sequence, Closes, ByEnd, ByElse, Jumps}
use Rattle.soundness.specs.State.{config_of}
use Rattle.refinement.specs.Machine.{turn, ticked, token_here, entry_here}
use Rattle.refinement.specs.Joint.{Joint, state_of, machine_of}
use Rattle.refinement.proofs.Kept.Stacks.{some_same}
use Rattle.refinement.proofs.Kept.Matched.{World, Spot, at_, Fit, Levels, Stands, Right, Matched, Sites}
use Rattle.refinement.proofs.Kept.Onward.{straight_right, tee_right, unreachable_right}
use Rattle.refinement.proofs.Kept.Opened.{block_right, loop_right, if_right, if_else_right, close_right}
use Rattle.refinement.proofs.Kept.Branching.{br_right, br_if_right}
use Rattle.refinement.proofs.Kept.Tables.{br_table_right}
use Rattle.refinement.proofs.Kept.Calling.{return_right, past_right, call_right}
use Rattle.refinement.proofs.Kept.Indirect.{indirect_right}

-- what the machine did at this joint state is right, with one dispatch where it took a token
abbrev pub Took : World → Joint → Type 0
Took w j =
    Matched w.C w.p w.frames j (ticked (token_here (machine_of j)) 0) (turn w.p w.frames (machine_of j))

took_token : (w : World) (j : Joint) (t : Token) → token_here (machine_of j) ≡ Some t → Right w j (turn w.p w.frames (machine_of j)) → Took w j
took_token w j t e h =
    subst (λ o. Matched w.C w.p w.frames j (ticked o 0) (turn w.p w.frames (machine_of j))) (sym e) h

-- the token that closes a sequence
pub closing : (fn : Filled) (stop after : ℕ) → Closes fn stop after → (t : Token) × (slice_get fn.tokens stop ≡ Some t) × ((i : Op) → t ≡ Do i → ⊥)
closing fn stop after (ByEnd t a) = (End, t, λ i e. absurd (cc e))
closing fn stop after (ByElse e t s a) = (Else, t, λ i e. absurd (cc e))

module _ (w : World) (sp : Spot) (s : Stands w sp) (levels : List LabelLayer) (here : Sequence) (lf : Levels w sp levels here) (held : List Value) (r : Stack) where
  abbrev At : Code → Joint
  At code = at_ sp levels held code

  plain_right : (i : Op) (rest : Code) → ConfigTyped w.C (config_of (state_of (At (Plain i rest)))) r → Fit w sp (Plain i rest) here sp.pc (types held) → Right w (At (Plain i rest)) (turn w.p w.frames (machine_of (At (Plain i rest))))
  plain_right Unreachable rest t f = unreachable_right w sp s levels here lf held rest f
  plain_right Return rest t f = return_right w sp levels s here held rest f
  plain_right (Br l) rest t f = br_right w sp s levels here lf l held rest f
  plain_right (BrIf l) rest t f = br_if_right w sp s levels here lf l held rest f
  plain_right (BrTable ls d) rest t f = br_table_right w sp s levels here lf ls d held rest f
  plain_right (Call x) rest t f = call_right w sp s levels here lf x held rest f
  plain_right (CallIndirect y) rest t f = indirect_right w sp s levels here lf y held rest r t f
  plain_right (LocalTee x) rest t f = tee_right w sp s levels here lf x held rest r t f
  plain_right Nop rest t f = straight_right w sp s levels here lf Nop held rest r tt tt t f
  plain_right Drop rest t f = straight_right w sp s levels here lf Drop held rest r tt tt t f
  plain_right Select rest t f = straight_right w sp s levels here lf Select held rest r tt tt t f
  plain_right (LocalGet x) rest t f = straight_right w sp s levels here lf (LocalGet x) held rest r tt tt t f
  plain_right (LocalSet x) rest t f = straight_right w sp s levels here lf (LocalSet x) held rest r tt tt t f
  plain_right (GlobalGet x) rest t f = straight_right w sp s levels here lf (GlobalGet x) held rest r tt tt t f
  plain_right (GlobalSet x) rest t f = straight_right w sp s levels here lf (GlobalSet x) held rest r tt tt t f
  plain_right (MemoryLoad a) rest t f = straight_right w sp s levels here lf (MemoryLoad a) held rest r tt tt t f
  plain_right (MemoryStore a) rest t f = straight_right w sp s levels here lf (MemoryStore a) held rest r tt tt t f
  plain_right MemorySize rest t f = straight_right w sp s levels here lf MemorySize held rest r tt tt t f
  plain_right MemoryGrow rest t f = straight_right w sp s levels here lf MemoryGrow held rest r tt tt t f
  plain_right (Const k n) rest t f = straight_right w sp s levels here lf (Const k n) held rest r tt tt t f
  plain_right (Numeric op) rest t f = straight_right w sp s levels here lf (Numeric op) held rest r tt tt t f

stop_took : (w : World) (sp : Spot) → Stands w sp → (levels : List LabelLayer) (here : Sequence) → Levels w sp levels here → (held : List Value) → Fit w sp Stop here sp.pc (types held) → Took w (at_ sp levels held Stop)
stop_took w sp s [] here lf held f =
    let h = past_right w sp s here lf held f in
    let j = at_ sp [] held Stop in
    subst (λ o. Matched w.C w.p w.frames j (ticked o 0) (turn w.p w.frames (machine_of j))) (sym h.0) h.1
stop_took w sp s (lv ∷ levels) here lf held f =
    let c = closing (sp.body).filled sp.pc lf.2 (subst (λ i. Closes (sp.body).filled i lf.2) (sym f.0) lf.4.closes) in
    took_token w (at_ sp (lv ∷ levels) held Stop) c.0 c.1 (close_right w sp s lv levels here lf held f)

code_took : (code : Code) (w : World) (sp : Spot) → Stands w sp → (levels : List LabelLayer) (here : Sequence) → Levels w sp levels here → (held : List Value) (r : Stack) → ConfigTyped w.C (config_of (state_of (at_ sp levels held code))) r → Fit w sp code here sp.pc (types held) → Took w (at_ sp levels held code)
code_took Stop w sp s levels here lf held r t f = stop_took w sp s levels here lf held f
code_took (Plain i rest) w sp s levels here lf held r t f =
    took_token w (at_ sp levels held (Plain i rest)) (Do i) f.1 (plain_right w sp s levels here lf held r i rest t f)
code_took (Block b body rest) w sp s levels here lf held r t f =
    took_token w (at_ sp levels held (Block b body rest)) (OpenBlock b) f.3 (block_right w sp s levels here lf b body rest held f)
code_took (Loop b body rest) w sp s levels here lf held r t f =
    took_token w (at_ sp levels held (Loop b body rest)) (OpenLoop b) f.3 (loop_right w sp s levels here lf b body rest held sp.fuel refl f)
code_took (If b body rest) w sp s levels here lf held r t f =
    took_token w (at_ sp levels held (If b body rest)) (OpenIf b) f.4 (if_right w sp s levels here lf b body rest held f)
code_took (IfElse b body other rest) w sp s levels here lf held r t f =
    took_token w (at_ sp levels held (IfElse b body other rest)) (OpenIf b) f.5 (if_else_right w sp s levels here lf b body other rest held f)

-- where a joint state stands
abbrev pub spot : Joint → Spot
spot j =
    record { body = (j.running).body; pc = (j.running).pc; locals = (j.running).locals; waiting = j.waiting; store = j.store; fuel = j.fuel }

pub stands : (w : World) (j : Joint) → Sites w.C w.p j → Stands w (spot j)
stands w j s =
    record { index = (s.running).index; known = (s.running).known; locals = (s.running).locals; waiting = s.waiting }

pub took : (w : World) (j : Joint) (r : Stack) → ConfigTyped w.C (config_of (state_of j)) r → Sites w.C w.p j → Took w j
took w j r t s =
    code_took (j.running).code w (spot j) (stands w j s) (j.running).levels (s.running).here (s.running).levels (j.running).held r t (s.running).fits

-- The entry of a branch table has the number of its labels.

table_entry : (fn : Filled) (here : Sequence) (pc : ℕ) (i : Op) (ls : List ℕ) (d : ℕ) (e : Branch) → Do i ≡ Do (BrTable ls d) → Jumps fn here.labels pc i → slice_get fn.table pc ≡ Some e → e.arity ≡ length ls
table_entry fn here pc i ls d e is jumps at_entry =
    let same : i ≡ BrTable ls d = cc is in
    let j : Jumps fn here.labels pc (BrTable ls d) = subst (Jumps fn here.labels pc) same jumps in
    ap (λ (x : Branch). x.arity) (some_same e j.0 (sym at_entry ∙ j.1)) ∙ j.2

no_table : {t : Token} {ls : List ℕ} {d : ℕ} (o : Option Token) → o ≡ Some t → o ≡ Some (Do (BrTable ls d)) → t ≡ Do (BrTable ls d)
no_table o e h = some_same _ _ (sym e ∙ h)

code_table : (code : Code) (w : World) (sp : Spot) (levels : List LabelLayer) (here : Sequence) → Levels w sp levels here → (held : List Value) → Fit w sp code here sp.pc (types held) → (ls : List ℕ) (d : ℕ) (e : Branch) → slice_get ((sp.body).filled).tokens sp.pc ≡ Some (Do (BrTable ls d)) → slice_get ((sp.body).filled).table sp.pc ≡ Some e → e.arity ≡ length ls
code_table Stop w sp [] here lf held f ls d e token at_entry =
    let lt = slice_get_within ((sp.body).filled).tokens sp.pc (Do (BrTable ls d)) token in
    absurd (omega (arith, lt, f.0, lf.2))
code_table Stop w sp (lv ∷ levels) here lf held f ls d e token at_entry =
    let c = closing (sp.body).filled sp.pc lf.2 (subst (λ i. Closes (sp.body).filled i lf.2) (sym f.0) lf.4.closes) in
    absurd (c.2 (BrTable ls d) (no_table _ c.1 token))
code_table (Plain i rest) w sp levels here lf held f ls d e token at_entry =
    table_entry (sp.body).filled here sp.pc i ls d e (no_table _ f.1 token) f.3 at_entry
code_table (Block b body rest) w sp levels here lf held f ls d e token at_entry =
    let h : OpenBlock b ≡ Do (BrTable ls d) = no_table _ f.3 token in absurd (cc h)
code_table (Loop b body rest) w sp levels here lf held f ls d e token at_entry =
    let h : OpenLoop b ≡ Do (BrTable ls d) = no_table _ f.3 token in absurd (cc h)
code_table (If b body rest) w sp levels here lf held f ls d e token at_entry =
    let h : OpenIf b ≡ Do (BrTable ls d) = no_table _ f.4 token in absurd (cc h)
code_table (IfElse b body other rest) w sp levels here lf held f ls d e token at_entry =
    let h : OpenIf b ≡ Do (BrTable ls d) = no_table _ f.5 token in absurd (cc h)

pub table_of : (w : World) (j : Joint) → Sites w.C w.p j → (ls : List ℕ) (d : ℕ) (e : Branch) → token_here (machine_of j) ≡ Some (Do (BrTable ls d)) → entry_here (machine_of j) ≡ Some e → e.arity ≡ length ls
table_of w j s ls d e token at_entry =
    code_table (j.running).code w (spot j) (j.running).levels (s.running).here (s.running).levels (j.running).held (s.running).fits ls d e token at_entry
