-- The preorder that a walk gives the nodes.
use Rattle.std.specs.Prelude.{◌≡◌, ℕ, ◌+◌, ◌<◌, ◌≤◌, ◌==◌, if◌then◌else◌, List, [], ◌∷◌, length, drop}
use Rattle.wsyntax.specs.declared.ValType.{ValType}
use Rattle.wcontext.specs.declared.nodes.Node.{Node}
use Rattle.wcontext.specs.Lists.{IsSuffix}
use Rattle.wcontext.specs.Nodes.{text, above_at, below_at, IsLinked}

-- the number of a node, and where those of the nodes below it end
abbrev pub start_at : List Node → ℕ → ℕ
start_at = above_at

-- where the interval of a node that is in order ends
abbrev pub suffix_at : List Node → ℕ → ℕ
suffix_at = below_at

-- a text whose number lies within the interval of another has that as a suffix
abbrev pub AreSuffixes : List (List ValType) → List Node → Type 0
AreSuffixes texts ns = (a b : ℕ) → a < length ns → b < length ns
    → start_at ns a ≤ start_at ns b → start_at ns b < suffix_at ns a → IsSuffix (text texts a) (text texts b)

-- next has the first number of each node that no node below it has yet
pub record IsWalk (IsBelow : ℕ → ℕ → Type 0) (start end next : ℕ → ℕ) (count : ℕ) : Type 0 where
  pub ends : (a b : ℕ) → a < count → b < count → start a ≤ start b → start b < end a → IsBelow a b
  pub free : (a b x : ℕ) → a < count → b < count → next b ≤ x → x < end b → start a ≤ x → x < end a → IsBelow a b
  pub apart : (a b x : ℕ) → a < count → b < count → next a ≤ x → x < end a → next b ≤ x → x < end b → a ≡ b
  pub given : (a b : ℕ) → a < count → b < count → next b ≤ start a → start a < end b → ⊥

-- the links are the same
pub record HaveLinksOf (old new : List Node) : Type 0 where
  pub size : length new ≡ length old
  pub links : (q : ℕ) → above_at new q ≡ above_at old q

-- how many nodes are in and below those whose links lead to q
abbrev pub count_at : List Node → ℕ → ℕ
count_at [] q = 0
count_at (x ∷ xs) q = (if x.above == q then x.below else 0) + count_at xs q

-- `below` of a node counts it and all below it
abbrev pub IsCounted : List Node → ℕ → Type 0
IsCounted nodes q = below_at nodes q ≡ 1 + count_at (drop (q + 1) nodes) q

-- that is so of each node
abbrev pub AreCounted : List Node → Type 0
AreCounted nodes = (q : ℕ) → q < length nodes → IsCounted nodes q

-- that is so of the nodes from i on; the others count themselves and what hangs below them from i on
pub record IsCountedFrom (nodes : List Node) (i : ℕ) : Type 0 where
  pub low : (q : ℕ) → q < i → below_at nodes q ≡ 1 + count_at (drop i nodes) q
  pub high : (q : ℕ) → i ≤ q → q < length nodes → IsCounted nodes q

-- the new nodes have intervals by the links of the old
abbrev pub ArePreorderOf : List Node → List Node → Type 0
ArePreorderOf old new = (texts : List (List ValType)) → IsLinked texts old → AreSuffixes texts new
