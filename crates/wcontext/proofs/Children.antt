-- The children of nodes, which lie below them one alone or in a fork.
use Rattle.std.proofs.Common.{◌≡◌, ℕ, ◌+◌, ◌-◌, ◌<◌, ◌≤◌, List, [], ◌∷◌, ◌++◌, length, get_or, set, refl, sym, ap, subst, ◌∙◌, arith, inl, inr, length-set}
use Rattle.std.proofs.lemmas.Bool.{cases_eq}
use Rattle.std.proofs.lemmas.List.{get_or_append_left, get_or_at, get_or-set_same, get_or-set_other, length_push}
use Rattle.wsyntax.specs.declared.ValType.{ValType}
use Rattle.wsyntax.specs.declared.ValType.TheVariants.{I32, I64, F32, F64}
use Rattle.wcontext.specs.Nodes.{type_key, above_at, below_at, IsOnly, HasChild, AreChildren, PutsChild}
use Rattle.wcontext.specs.declared.nodes.Node.{Node}
use Rattle.wcontext.specs.declared.nodes.Fork.{Fork}
use Rattle.wcontext.specs.declared.nodes.Nodes.{Nodes}

pub type_key_below : (t : ValType) → type_key t < 4
type_key_below I32 = omega arith
type_key_below I64 = omega arith
type_key_below F32 = omega arith
type_key_below F64 = omega arith

type_key_same : (s t : ValType) → type_key s ≡ type_key t → s ≡ t
type_key_same I32 I32 e = refl
type_key_same I64 I64 e = refl
type_key_same F32 F32 e = refl
type_key_same F64 F64 e = refl
type_key_same _ _ e = absurd (omega arith)

-- A node of which `below` is written.

pub above_kept : (nodes : List Node) (p : ℕ) (n : Node) (q : ℕ) → p < length nodes → n.above ≡ above_at nodes p → above_at (set nodes p n) q ≡ above_at nodes q
above_kept nodes p n q within same = let none : Node = record { above = 0; below = 0 } in elim (cases_eq q p) [
  | inl is ↦ ap (above_at (set nodes p n)) is ∙ ap (λ (x : Node). x.above) (get_or-set_same nodes p n none within) ∙ same ∙ ap (above_at nodes) (sym is)
  | inr other ↦ ap (λ (x : Node). x.above) (get_or-set_other nodes p q n none other)
]

pub below_there : (nodes : List Node) (p : ℕ) (n : Node) (q : ℕ) → p < length nodes → q ≡ p → below_at (set nodes p n) q ≡ n.below
below_there nodes p n q within is = ap (below_at (set nodes p n)) is ∙ ap (λ (x : Node). x.below) (get_or-set_same nodes p n record { above = 0; below = 0 } within)

pub below_kept : (nodes : List Node) (p : ℕ) (n : Node) (q : ℕ) → (q ≡ p → ⊥) → below_at (set nodes p n) q ≡ below_at nodes q
below_kept nodes p n q other = ap (λ (x : Node). x.below) (get_or-set_other nodes p q n record { above = 0; below = 0 } other)

-- A fork.

-- the children of a node become those of a new fork
pub fork_put : (old new : Nodes) (p : ℕ) (t : ValType) (d : ℕ) (n : Node) (children : List ℕ) → p < length old.nodes.items → n.above ≡ above_at old.nodes.items p → n.below ≡ 2147483648 + length old.forks.items
    → AreChildren old p children → length children ≡ 4 → new.links ≡ old.links → new.nodes.items ≡ set old.nodes.items p n → new.forks.items ≡ old.forks.items ++ record { children = set children (type_key t) d } ∷ [] → PutsChild old new p t d
fork_put old new p t d n children within above below are four links nodes forks =
    let there : (q : ℕ) → q ≡ p → below_at new.nodes.items q ≡ n.below = λ q is. rw nodes (below_there old.nodes.items p n q within is) in
    let same_below : (q : ℕ) → (q ≡ p → ⊥) → below_at new.nodes.items q ≡ below_at old.nodes.items q = λ q other. rw nodes (below_kept old.nodes.items p n q other) in
    let row = set children (type_key t) d in
    let more : length new.forks.items ≡ length old.forks.items + 1 = ap length forks ∙ length_push old.forks.items (record { children = row }) in
    let none : Fork = record { children = [] } in
    let inside : type_key t < length children = omega (arith, four, type_key_below t) in
    let made : (q : ℕ) → q ≡ p → get_or new.forks.items (below_at new.nodes.items q - 2147483648) none ≡ record { children = row } = λ q is.
    let position : length old.forks.items ≡ below_at new.nodes.items q - 2147483648 = omega (arith, there q is, below) in
    rw forks (get_or_at old.forks.items (record { children = row }) [] none (below_at new.nodes.items q - 2147483648) position) in
    let same_fork : (q : ℕ) → (q ≡ p → ⊥) → below_at old.nodes.items q - 2147483648 < length old.forks.items → get_or new.forks.items (below_at new.nodes.items q - 2147483648) none ≡ get_or old.forks.items (below_at old.nodes.items q - 2147483648) none = λ q other prefix.
    ap (λ k. get_or new.forks.items (k - 2147483648) none) (same_below q other) ∙ rw forks (get_or_append_left old.forks.items (record { children = row } ∷ []) none (below_at old.nodes.items q - 2147483648) prefix) in
    record {
      size = ap length nodes ∙ length-set old.nodes.items p n;
      aboves = λ q. rw nodes (above_kept old.nodes.items p n q within above);
      links = links;
      forks = λ were q. elim (cases_eq q p) [
        | inl is ↦ omega (arith, there q is, below, more)
        | inr other ↦ omega (arith, same_below q other, were q, more)
      ];
      children = λ were q u e some has. elim (cases_eq q p) [
        | inl is ↦ elim has [
          | inl only ↦ absurd (omega (arith, only.only, there q is, below))
          | inr forked ↦
              let now : get_or row (type_key u) 0 ≡ e = ap (λ (f : Fork). get_or f.children (type_key u) 0) (sym (made q is)) ∙ forked.is in
              elim (cases_eq (type_key u) (type_key t)) [
                | inl same ↦ inr (is, type_key_same u t same, sym now ∙ ap (λ k. get_or row k 0) same ∙ get_or-set_same children (type_key t) d 0 inside)
                | inr other ↦
                    let was : get_or children (type_key u) 0 ≡ e = sym (get_or-set_other children (type_key t) (type_key u) d 0 other) ∙ now in
                    inl (subst (λ z. HasChild old z u e) (sym is) (subst (HasChild old p u) was (are u (omega (arith, was, some)))))
              ]
        ]
        | inr other ↦ elim has [
          | inl only ↦ inl (inl (subst (λ b. IsOnly b u e) (same_below q other) only))
          | inr forked ↦
              let from : 2147483648 ≤ below_at old.nodes.items q = omega (arith, forked.fork, same_below q other) in
              let same = same_fork q other (omega (arith, were q, from)) in
              inl (inr (record { fork = from; is = ap (λ (f : Fork). get_or f.children (type_key u) 0) (sym same) ∙ forked.is }))
        ]
      ];
    }
