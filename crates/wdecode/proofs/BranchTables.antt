-- The branch tables of an expression follow one another in the list of targets, so that it is the list of their labels and defaults.
use Rattle.std.specs.Prelude.{IsTrue, slice_range, slice_index_or}
use Rattle.std.specs.List.{list_all}
use Rattle.std.proofs.Common.{◌≡◌, ◌⊎◌, inl, inr, ℕ, ◌+◌, ◌-◌, ◌<◌, List, [], ◌∷◌, ◌++◌, length, map, take, drop}
use Rattle.std.proofs.Common.{refl, sym, ap, subst, ◌∙◌, append_assoc, arith}
use Rattle.std.proofs.lemmas.Bool.{ltb-true}
use Rattle.std.proofs.lemmas.List.{drop_all, drop_more, drop-drop, take-append-drop}
use Rattle.wsyntax.specs.declared.instructions.Token.{Token as Held}
use Rattle.wsyntax.specs.declared.instructions.Token.TheVariants as held
use Rattle.wsyntax.specs.Brackets.{lies_within}
use Rattle.wsyntax.specs.BranchTables.{Follows, FollowAll}
use Rattle.wsyntax.specs.Modules.{decoded_as}
use Rattle.wdecode.proofs.Closed.{both}
use Rattle.wdecode.specs.BranchTables.{table_targets, targets_of}

-- a token that is no branch table: it adds no targets, and none are seen
pub record AddsNone (t : Held) : Type 0 where
  pub stays : (n : ℕ) → Follows n t n
  pub same : (n m : ℕ) → Follows n t m → m ≡ n
  pub nothing : (targets : List ℕ) → table_targets (decoded_as targets t) ≡ []

-- a token is a branch table or adds none
table_or_none : (t : Held) → ((count first : ℕ) × (t ≡ held.BrTable count first)) ⊎ AddsNone t
table_or_none (held.BrTable count first) = inl (count, first, refl)
table_or_none held.Unreachable = inr (record { stays = λ n. refl; same = λ n m e. e; nothing = λ targets. refl })
table_or_none held.Nop = inr (record { stays = λ n. refl; same = λ n m e. e; nothing = λ targets. refl })
table_or_none (held.Block t) = inr (record { stays = λ n. refl; same = λ n m e. e; nothing = λ targets. refl })
table_or_none (held.Loop t) = inr (record { stays = λ n. refl; same = λ n m e. e; nothing = λ targets. refl })
table_or_none (held.If t to) = inr (record { stays = λ n. refl; same = λ n m e. e; nothing = λ targets. refl })
table_or_none (held.Else to) = inr (record { stays = λ n. refl; same = λ n m e. e; nothing = λ targets. refl })
table_or_none held.End = inr (record { stays = λ n. refl; same = λ n m e. e; nothing = λ targets. refl })
table_or_none (held.Br l) = inr (record { stays = λ n. refl; same = λ n m e. e; nothing = λ targets. refl })
table_or_none (held.BrIf l) = inr (record { stays = λ n. refl; same = λ n m e. e; nothing = λ targets. refl })
table_or_none held.Return = inr (record { stays = λ n. refl; same = λ n m e. e; nothing = λ targets. refl })
table_or_none (held.Call x) = inr (record { stays = λ n. refl; same = λ n m e. e; nothing = λ targets. refl })
table_or_none (held.CallIndirect x) = inr (record { stays = λ n. refl; same = λ n m e. e; nothing = λ targets. refl })
table_or_none held.Drop = inr (record { stays = λ n. refl; same = λ n m e. e; nothing = λ targets. refl })
table_or_none held.Select = inr (record { stays = λ n. refl; same = λ n m e. e; nothing = λ targets. refl })
table_or_none (held.LocalGet x) = inr (record { stays = λ n. refl; same = λ n m e. e; nothing = λ targets. refl })
table_or_none (held.LocalSet x) = inr (record { stays = λ n. refl; same = λ n m e. e; nothing = λ targets. refl })
table_or_none (held.LocalTee x) = inr (record { stays = λ n. refl; same = λ n m e. e; nothing = λ targets. refl })
table_or_none (held.GlobalGet x) = inr (record { stays = λ n. refl; same = λ n m e. e; nothing = λ targets. refl })
table_or_none (held.GlobalSet x) = inr (record { stays = λ n. refl; same = λ n m e. e; nothing = λ targets. refl })
table_or_none (held.Load l a o) = inr (record { stays = λ n. refl; same = λ n m e. e; nothing = λ targets. refl })
table_or_none (held.Store l a o) = inr (record { stays = λ n. refl; same = λ n m e. e; nothing = λ targets. refl })
table_or_none held.MemorySize = inr (record { stays = λ n. refl; same = λ n m e. e; nothing = λ targets. refl })
table_or_none held.MemoryGrow = inr (record { stays = λ n. refl; same = λ n m e. e; nothing = λ targets. refl })
table_or_none (held.I32Const n) = inr (record { stays = λ n. refl; same = λ n m e. e; nothing = λ targets. refl })
table_or_none (held.I64Const n) = inr (record { stays = λ n. refl; same = λ n m e. e; nothing = λ targets. refl })
table_or_none (held.F32Const b) = inr (record { stays = λ n. refl; same = λ n m e. e; nothing = λ targets. refl })
table_or_none (held.F64Const b) = inr (record { stays = λ n. refl; same = λ n m e. e; nothing = λ targets. refl })
table_or_none (held.Numeric f) = inr (record { stays = λ n. refl; same = λ n m e. e; nothing = λ targets. refl })

-- a token that lies in every list of targets is no branch table
pub no_table : (t : Held) → ((targets : ℕ) → IsTrue (lies_within targets t)) → (n : ℕ) → Follows n t n
no_table t within n = elim (table_or_none t) [
  | inl x ↦
      let lies : IsTrue (lies_within 0 (held.BrTable x.0 x.1)) = subst (λ (u : Held). IsTrue (lies_within 0 u)) x.2 (within 0) in
      let lt = ltb-true (x.1 + x.0) 0 lies in
      absurd (omega arith)
  | inr y ↦ y.stays n
]

-- one more token
pub follows_next : (before middle after : ℕ) (ts : List Held) (t : Held)
    → FollowAll before ts middle → Follows middle t after → FollowAll before (ts ++ t ∷ []) after
follows_next before middle after [] t e f = (after, subst (λ (n : ℕ). Follows n t after) e f, refl)
follows_next before middle after (u ∷ ts) t h f = (h.0, h.1, follows_next h.0 middle after ts t h.2 f)

-- one branch table is cut out of the targets
cut : (targets : List ℕ) (count first : ℕ) → first + count < length targets
    → drop first targets ≡ table_targets (decoded_as targets (held.BrTable count first)) ++ drop (first + count + 1) targets
cut targets count first lt =
    let width : first + count - first ≡ count = omega arith in
    let part = slice_range targets first (first + count) in
    let labels : take count (drop first targets) ≡ part = ap (λ (n : ℕ). take n (drop first targets)) (sym width) in
    sym (take-append-drop count (drop first targets))
    ∙ ap (λ (x : List ℕ). x ++ drop count (drop first targets)) labels
    ∙ ap (λ (x : List ℕ). part ++ x) (drop-drop count first targets ∙ drop_more targets (first + count) 0 lt)
    ∙ sym (append_assoc part (slice_index_or targets (first + count) 0 ∷ []) (drop (first + count + 1) targets))

-- what is left of the targets is that of the tokens that are left
left : (targets : List ℕ) (before : ℕ) (ts : List Held) → FollowAll before ts (length targets)
    → IsTrue (list_all (lies_within (length targets)) ts) → drop before targets ≡ targets_of (map (decoded_as targets) ts)
left targets before [] e within = drop_all before targets (omega arith)
left targets before (t ∷ ts) h within =
    let w = both (lies_within (length targets) t) (list_all (lies_within (length targets)) ts) within in
    let on = left targets h.0 ts h.2 w.1 in
    elim (table_or_none t) [
      | inl x ↦
          let f : Follows before (held.BrTable x.0 x.1) h.0 = subst (λ (u : Held). Follows before u h.0) x.2 h.1 in
          let lies : IsTrue (lies_within (length targets) (held.BrTable x.0 x.1))
          = subst (λ (u : Held). IsTrue (lies_within (length targets) u)) x.2 w.0 in
          let next : x.1 + x.0 + 1 ≡ h.0 = omega (arith, f.0, f.1) in
          ap (λ (n : ℕ). drop n targets) (sym f.0)
          ∙ cut targets x.0 x.1 (ltb-true (x.1 + x.0) (length targets) lies)
          ∙ ap (λ (n : ℕ). table_targets (decoded_as targets (held.BrTable x.0 x.1)) ++ drop n targets) next
          ∙ ap (λ (u : Held). table_targets (decoded_as targets u) ++ drop h.0 targets) (sym x.2)
          ∙ ap (λ (y : List ℕ). table_targets (decoded_as targets t) ++ y) on
      | inr y ↦
          ap (λ (n : ℕ). drop n targets) (sym (y.same before h.0 h.1)) ∙ on
          ∙ ap (λ (x : List ℕ). x ++ targets_of (map (decoded_as targets) ts)) (sym (y.nothing targets))
    ]

-- all targets are those of the tokens
pub all_targets : (targets : List ℕ) (ts : List Held) → FollowAll 0 ts (length targets)
    → IsTrue (list_all (lies_within (length targets)) ts) → targets ≡ targets_of (map (decoded_as targets) ts)
all_targets targets ts h within = left targets 0 ts h within
