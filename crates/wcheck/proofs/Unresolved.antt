-- What the check writes into the tokens of a body changes neither what they stand for nor what they open and close.
use Rattle.std.specs.Prelude.{IsTrue, Vec}
use Rattle.std.specs.List.{list_all}
use Rattle.std.specs.Vec.{with_items}
use Rattle.std.proofs.Common.{◌≡◌, ℕ, Bool, ◌&&◌, List, [], ◌∷◌, length, map, refl, sym, ap, ap₂, ◌∙◌, subst}
use Rattle.std.proofs.lemmas.List.{length-map, with_items_is}
use Rattle.wsyntax.specs.declared.instructions.Token.{Token as Held}
use Rattle.wsyntax.specs.declared.instructions.Token.TheVariants as held
use Rattle.wsyntax.specs.Brackets.{bracket, behind, is_last, closes, lies_within}
use Rattle.wsyntax.specs.Instructions.{Token}
use Rattle.wsyntax.specs.Modules.{BodyShape, decoded_as, unresolved, body_shape}
use Rattle.wsyntax.specs.declared.Body.{Body}
use Rattle.wsyntax.specs.declared.module.LocalRun.{LocalRun}
use Rattle.wcheck.specs.Kept.{KeepsBody}

-- of a token
record IsKept (t : Held) : Type 0 where
  pub brackets : bracket (unresolved t) ≡ bracket t
  pub shown : (targets : List ℕ) → decoded_as targets (unresolved t) ≡ decoded_as targets t
  pub lies : (n : ℕ) → lies_within n (unresolved t) ≡ lies_within n t

kept : (t : Held) → IsKept t
kept held.Unreachable = record { brackets = refl; shown = λ targets. refl; lies = λ n. refl }
kept held.Nop = record { brackets = refl; shown = λ targets. refl; lies = λ n. refl }
kept (held.Block t) = record { brackets = refl; shown = λ targets. refl; lies = λ n. refl }
kept (held.Loop t) = record { brackets = refl; shown = λ targets. refl; lies = λ n. refl }
kept (held.If t to) = record { brackets = refl; shown = λ targets. refl; lies = λ n. refl }
kept (held.Else to) = record { brackets = refl; shown = λ targets. refl; lies = λ n. refl }
kept held.End = record { brackets = refl; shown = λ targets. refl; lies = λ n. refl }
kept (held.Br l) = record { brackets = refl; shown = λ targets. refl; lies = λ n. refl }
kept (held.BrIf l) = record { brackets = refl; shown = λ targets. refl; lies = λ n. refl }
kept (held.BrTable count first) = record { brackets = refl; shown = λ targets. refl; lies = λ n. refl }
kept held.Return = record { brackets = refl; shown = λ targets. refl; lies = λ n. refl }
kept (held.Call x) = record { brackets = refl; shown = λ targets. refl; lies = λ n. refl }
kept (held.CallIndirect x) = record { brackets = refl; shown = λ targets. refl; lies = λ n. refl }
kept held.Drop = record { brackets = refl; shown = λ targets. refl; lies = λ n. refl }
kept held.Select = record { brackets = refl; shown = λ targets. refl; lies = λ n. refl }
kept (held.LocalGet x) = record { brackets = refl; shown = λ targets. refl; lies = λ n. refl }
kept (held.LocalSet x) = record { brackets = refl; shown = λ targets. refl; lies = λ n. refl }
kept (held.LocalTee x) = record { brackets = refl; shown = λ targets. refl; lies = λ n. refl }
kept (held.GlobalGet x) = record { brackets = refl; shown = λ targets. refl; lies = λ n. refl }
kept (held.GlobalSet x) = record { brackets = refl; shown = λ targets. refl; lies = λ n. refl }
kept (held.Load l a o) = record { brackets = refl; shown = λ targets. refl; lies = λ n. refl }
kept (held.Store l a o) = record { brackets = refl; shown = λ targets. refl; lies = λ n. refl }
kept held.MemorySize = record { brackets = refl; shown = λ targets. refl; lies = λ n. refl }
kept held.MemoryGrow = record { brackets = refl; shown = λ targets. refl; lies = λ n. refl }
kept (held.I32Const n) = record { brackets = refl; shown = λ targets. refl; lies = λ n. refl }
kept (held.I64Const n) = record { brackets = refl; shown = λ targets. refl; lies = λ n. refl }
kept (held.F32Const b) = record { brackets = refl; shown = λ targets. refl; lies = λ n. refl }
kept (held.F64Const b) = record { brackets = refl; shown = λ targets. refl; lies = λ n. refl }
kept (held.Numeric f) = record { brackets = refl; shown = λ targets. refl; lies = λ n. refl }

last_kept : (ts : List Held) → is_last (map unresolved ts) ≡ is_last ts
last_kept [] = refl
last_kept (t ∷ ts) = refl

closes_kept : (s : List Bool) (ts : List Held) → closes s (map unresolved ts) ≡ closes s ts
closes_kept s [] = refl
closes_kept s (t ∷ ts) =
    let b = (kept t).brackets in
    let l = last_kept ts in
    λ k. behind (b k) s (λ now. closes_kept now ts k) (l k)

shown_kept : (targets : List ℕ) (ts : List Held) → map (decoded_as targets) (map unresolved ts) ≡ map (decoded_as targets) ts
shown_kept targets [] = refl
shown_kept targets (t ∷ ts) = ap₂ (λ u us. u ∷ us) ((kept t).shown targets) (shown_kept targets ts)

lies_kept : (n : ℕ) (ts : List Held) → list_all (lies_within n) (map unresolved ts) ≡ list_all (lies_within n) ts
lies_kept n [] = refl
lies_kept n (t ∷ ts) = ap₂ (λ a b. a && b) ((kept t).lies n) (lies_kept n ts)

-- the tokens close the same blocks
pub closes_same : (s : List Bool) (ts us : List Held) → map unresolved ts ≡ map unresolved us → IsTrue (closes s us) → IsTrue (closes s ts)
closes_same s ts us same h = subst (λ b. IsTrue b) (sym (closes_kept s us) ∙ ap (closes s) (sym same) ∙ closes_kept s ts) h

-- they lie in the same targets
pub lies_same : (n : ℕ) (ts us : List Held) → map unresolved ts ≡ map unresolved us → IsTrue (list_all (lies_within n) us) → IsTrue (list_all (lies_within n) ts)
lies_same n ts us same h = subst (λ b. IsTrue b) (sym (lies_kept n us) ∙ ap (list_all (lies_within n)) (sym same) ∙ lies_kept n ts) h

-- they stand for the same
pub shown_same : (targets : List ℕ) (ts us : List Held) → map unresolved ts ≡ map unresolved us → map (decoded_as targets) ts ≡ map (decoded_as targets) us
shown_same targets ts us same = sym (shown_kept targets ts) ∙ ap (map (decoded_as targets)) same ∙ shown_kept targets us

-- tokens that are written back to where they lay
pub written_back : {Z : Type 0} (v : Vec Held Z) (old new : List Held) → map unresolved new ≡ map unresolved old → old ≡ v.items → length old ≡ v.len → map unresolved (with_items v new).items ≡ map unresolved v.items
written_back v old new same is long =
    let count : length new ≡ v.len = sym (length-map new unresolved) ∙ ap length same ∙ length-map old unresolved ∙ long in
    ap (map unresolved) (with_items_is v new count) ∙ same ∙ ap (map unresolved) is

-- a body that is kept has the same shape
pub shape_same : (old new : Body) → KeepsBody old new → body_shape new ≡ body_shape old
shape_same old new keeps =
    let shape : List LocalRun → List Token → BodyShape = λ rs ts. record { runs = rs; code = ts } in
    let ts = new.code.tokens.items in
    let shown = shown_same old.code.targets.items ts old.code.tokens.items keeps.tokens in
    ap₂ shape (ap (λ v. v.items) keeps.runs) (ap (λ v. map (decoded_as v.items) ts) keeps.targets ∙ shown)
