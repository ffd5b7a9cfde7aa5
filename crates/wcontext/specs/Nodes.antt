-- The nodes of a trie: each has a text, the types that it stands for.
use Rattle.std.specs.Prelude.{◌≡◌, ℕ, ◌+◌, ◌-◌, ◌*◌, ◌<◌, ◌≤◌, ◌⊎◌, List, [], ◌∷◌, ◌++◌, length, get_or}
use Rattle.wsyntax.specs.declared.ValType.{ValType}
use Rattle.wsyntax.specs.declared.ValType.TheVariants.{I32, I64, F32, F64}
use Rattle.wcontext.specs.declared.nodes.Node.{Node}
use Rattle.wcontext.specs.declared.nodes.Fork.{Fork}
use Rattle.wcontext.specs.declared.nodes.Nodes.{Nodes}
use Rattle.wcontext.specs.Lists.{IsSuffix}

-- the key of a type, by which forks are ordered
abbrev pub type_key : ValType → ℕ
type_key I32 = 0
type_key I64 = 1
type_key F32 = 2
type_key F64 = 3

-- the text of a node, or of a position
abbrev pub text : List (List ValType) → ℕ → List ValType
text texts q = get_or texts q []

-- the link of a node
abbrev pub link_at : List ℕ → ℕ → ℕ
link_at links q = get_or links q 0

-- what is kept above a node: its link or a node farther up the links, or its number
abbrev pub above_at : List Node → ℕ → ℕ
above_at nodes q = (get_or nodes q record { above = 0; below = 0 }).above

-- what is kept below it: its children, or where the numbers below it end
abbrev pub below_at : List Node → ℕ → ℕ
below_at nodes q = (get_or nodes q record { above = 0; below = 0 }).below

-- below a node lies one child alone, by that type
pub record IsOnly (below : ℕ) (t : ValType) (d : ℕ) : Type 0 where
  pub only : below < 2147483648
  pub is : below ≡ 4 * d + type_key t

-- below a node lies a fork, which has that child by that type
pub record IsForked (below : ℕ) (forks : List Fork) (t : ValType) (d : ℕ) : Type 0 where
  pub fork : 2147483648 ≤ below
  pub is : get_or (get_or forks (below - 2147483648) record { children = [] }).children (type_key t) 0 ≡ d

-- a node has that child by that type
abbrev pub HasChildIn : List Node → List Fork → ℕ → ValType → ℕ → Type 0
HasChildIn nodes forks p t d = IsOnly (below_at nodes p) t d ⊎ IsForked (below_at nodes p) forks t d

-- a node of these nodes has that child by that type
abbrev pub HasChild : Nodes → ℕ → ValType → ℕ → Type 0
HasChild n p t d = HasChildIn n.nodes.items n.forks.items p t d

-- these are the node's children, by the keys of their types
abbrev pub AreChildren : Nodes → ℕ → List ℕ → Type 0
AreChildren n p children = (t : ValType) → 0 < get_or children (type_key t) 0 → HasChild n p t (get_or children (type_key t) 0)

-- the forks that lie below nodes are there
abbrev pub AreForksThere : Nodes → Type 0
AreForksThere n = (q : ℕ) → below_at n.nodes.items q < 2147483648 + length n.forks.items

-- a node has got a child by a type, no node has another new one, and what is above them is as it was
pub record PutsChild (old new : Nodes) (p : ℕ) (t : ValType) (d : ℕ) : Type 0 where
  pub size : length new.nodes.items ≡ length old.nodes.items
  pub aboves : (q : ℕ) → above_at new.nodes.items q ≡ above_at old.nodes.items q
  pub links : new.links ≡ old.links
  pub forks : AreForksThere old → AreForksThere new
  pub children : AreForksThere old → (q : ℕ) (u : ValType) (e : ℕ) → 0 < e → HasChild new q u e
      → HasChild old q u e ⊎ ((q ≡ p) × (u ≡ t) × (e ≡ d))

-- each of `count` nodes leads to an earlier one whose text is a suffix of its own
pub record LeadsUp (texts : List (List ValType)) (count : ℕ) (up : ℕ → ℕ) : Type 0 where
  pub size : count ≡ length texts
  pub below : (q : ℕ) → 0 < q → q < length texts → up q < q
  pub ends : (q : ℕ) → 0 < q → q < length texts → IsSuffix (text texts (up q)) (text texts q)

-- what is kept above each node leads up
abbrev pub IsLinked : List (List ValType) → List Node → Type 0
IsLinked texts nodes = LeadsUp texts (length nodes) (above_at nodes)

-- the nodes have these texts: that of a child is its parent's and one type more
pub record AreNodes (texts : List (List ValType)) (n : Nodes) : Type 0 where
  pub some : 0 < length texts
  pub root : text texts 0 ≡ []
  pub linked : LeadsUp texts (length n.links.items) (link_at n.links.items)
  pub aboves : IsLinked texts n.nodes.items
  pub forks : AreForksThere n
  pub children : (p : ℕ) (t : ValType) (d : ℕ) → 0 < d → HasChild n p t d
      → (p < length texts) × (d < length texts) × (text texts d ≡ text texts p ++ t ∷ [])

-- the nodes have the texts that they had
abbrev pub KeepsTexts : Nodes → Nodes → Type 0
KeepsTexts old new = (texts : List (List ValType)) → AreNodes texts old → AreNodes texts new

-- the links of the nodes are above these
abbrev pub GivesLinks : Nodes → List Node → Type 0
GivesLinks n nodes = (texts : List (List ValType)) → AreNodes texts n → IsLinked texts nodes

-- q lies on the way up the links from p
abbrev pub IsOnTheWay : List (List ValType) → ℕ → ℕ → Type 0
IsOnTheWay texts p q = (q < length texts) × IsSuffix (text texts q) (text texts p)

-- the text of l is a suffix of that of p and one type more
abbrev pub FindsSuffix : Nodes → ℕ → ValType → ℕ → Type 0
FindsSuffix n p t l = (texts : List (List ValType)) → AreNodes texts n → p < length texts
    → (l < length texts) × IsSuffix (text texts l) (text texts p ++ t ∷ [])

-- d has the text of p and one type more
abbrev pub IsNodeAfter : Nodes → Nodes → ℕ → ValType → ℕ → Type 0
IsNodeAfter old new p t d = (texts : List (List ValType)) → AreNodes texts old → p < length texts
    → (more : List (List ValType)) × AreNodes (texts ++ more) new × (d < length (texts ++ more))
    × (text (texts ++ more) d ≡ text texts p ++ t ∷ [])
