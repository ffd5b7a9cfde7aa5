-- The prefixes of lists, which are read into a trie.
use Rattle.std.specs.Prelude.{◌≡◌, ℕ, ◌+◌, ◌<◌, List, [], ◌∷◌, ◌++◌, length, take, get_or}
use Rattle.std.specs.List.{All, AllWithin}
use Rattle.wsyntax.specs.declared.ValType.{ValType}
use Rattle.wcontext.specs.declared.trie.Trie.{Trie}
use Rattle.wcontext.specs.declared.trie.Reading.{Reading}
use Rattle.wcontext.specs.declared.nodes.Nodes.{Nodes}
use Rattle.wcontext.specs.Nodes.{text, AreNodes}

-- each node that is not 0 has the text that is wanted at its position
abbrev pub AreTexts : List (List ValType) → (ℕ → List ValType) → List ℕ → Type 0
AreTexts texts wanted nodes = (x : ℕ) → 0 < get_or nodes x 0
    → (get_or nodes x 0 < length texts) × (text texts (get_or nodes x 0) ≡ wanted x)

-- the prefixes that were read have the texts of their positions
abbrev pub AreRead : List (List ValType) → List (List ValType) → List ℕ → Type 0
AreRead all texts prefixes = AreTexts texts (text all) prefixes

-- the positions from start on have the prefixes of that list
abbrev pub HasPrefixes : List (List ValType) → List ValType → ℕ → Type 0
HasPrefixes all types start = (i : ℕ) → i < length types → (start + i < length all) × (text all (start + i) ≡ take (i + 1) types)

-- its first `column` types were read
pub record IsReading (all texts : List (List ValType)) (column : ℕ) (r : Reading) : Type 0 where
  pub prefixes : HasPrefixes all r.types.now r.start
  pub within : r.node < length texts
  pub is : text texts r.node ≡ take column r.types.now

-- its block has its types from base on
abbrev pub HasBlock : Reading → ℕ → Type 0
HasBlock r base = (i : ℕ) (t : ValType) → i < 16 → base + i < length r.types.now → get_or r.block i t ≡ get_or r.types.now (base + i) t

-- the same, of which the block that begins at base is being read
pub record IsInBlock (all texts : List (List ValType)) (base column : ℕ) (r : Reading) : Type 0 where
  pub reading : IsReading all texts column r
  pub block : HasBlock r base
  pub nodes : AreTexts texts (λ i. text all (r.start + base + i)) r.nodes

-- a list's block begins at base
abbrev pub BeginsBlock : Reading → Reading → ℕ → Type 0
BeginsBlock old new base = (all texts : List (List ValType)) → IsReading all texts base old → IsInBlock all texts base base new

-- the block of each list begins at base
abbrev pub BeginsBlocks : List Reading → List Reading → ℕ → Type 0
BeginsBlocks lists now base = (all texts : List (List ValType)) → All (IsReading all texts base) lists
    → All (IsInBlock all texts base base) now

-- node 0 alone, and no prefix that was read
abbrev pub IsNew : Trie → Type 0
IsNew new = AreNodes ([] ∷ []) new.nodes × ((all : List (List ValType)) → AreRead all ([] ∷ []) new.prefixes.items)

-- of a list the type at i of its block was read, if it has one there
abbrev pub ReadsType : Nodes → Nodes → Reading → Reading → ℕ → ℕ → Type 0
ReadsType old new list next base i = (all texts : List (List ValType)) → AreNodes texts old → IsInBlock all texts base (base + i) list
    → (more : List (List ValType)) × AreNodes (texts ++ more) new × IsInBlock all (texts ++ more) base (base + i + 1) next

-- the same of the first k lists
abbrev pub ReadsSome : Nodes → Nodes → List Reading → List Reading → ℕ → ℕ → ℕ → Type 0
ReadsSome old new lists now base i k = (all texts : List (List ValType)) → AreNodes texts old
    → All (IsInBlock all texts base (base + i)) lists → (more : List (List ValType)) × AreNodes (texts ++ more) new
    × AllWithin (IsInBlock all (texts ++ more) base (base + i + 1)) now 0 k
    × AllWithin (IsInBlock all (texts ++ more) base (base + i)) now k (length now)

-- the same of each list
abbrev pub ReadsColumn : Nodes → Nodes → List Reading → List Reading → ℕ → ℕ → Type 0
ReadsColumn old new lists now base i = (all texts : List (List ValType)) → AreNodes texts old
    → All (IsInBlock all texts base (base + i)) lists → (more : List (List ValType)) × AreNodes (texts ++ more) new
    × All (IsInBlock all (texts ++ more) base (base + i + 1)) now

-- the first i types of each list's block were read
abbrev pub ReadsBlock : Nodes → Nodes → List Reading → List Reading → ℕ → ℕ → Type 0
ReadsBlock old new lists now base i = (all texts : List (List ValType)) → AreNodes texts old → All (IsInBlock all texts base base) lists
    → (more : List (List ValType)) × AreNodes (texts ++ more) new × All (IsInBlock all (texts ++ more) base (base + i)) now

-- the nodes of the block that begins at base were put to the prefixes
abbrev pub PutsPrefixes : List ℕ → List ℕ → Reading → ℕ → Type 0
PutsPrefixes old new list base = (all texts : List (List ValType)) (column : ℕ) → IsInBlock all texts base column list
    → AreRead all texts old → AreRead all texts new

-- the nodes of each list's block that begins at base were put to the prefixes
abbrev pub PutsBlock : List ℕ → List ℕ → List Reading → ℕ → Type 0
PutsBlock old new lists base = (all texts : List (List ValType)) (column : ℕ) → All (IsInBlock all texts base column) lists
    → AreRead all texts old → AreRead all texts new

-- none of its types was read
pub record IsUnread (all : List (List ValType)) (r : Reading) : Type 0 where
  pub prefixes : HasPrefixes all r.types.now r.start
  pub node : r.node ≡ 0

-- `column` types were read of the lists that are left, and all of the others
abbrev pub ReadsTo : List Reading → Trie → List Reading → ℕ → Type 0
ReadsTo lists trie left column = (all : List (List ValType)) → All (IsUnread all) lists
    → (texts : List (List ValType)) × AreNodes texts trie.nodes × AreRead all texts trie.prefixes.items
    × All (IsReading all texts column) left

-- all prefixes have nodes
abbrev pub AreNodesOf : List Reading → Trie → Type 0
AreNodesOf lists trie = (all : List (List ValType)) → All (IsUnread all) lists
    → (texts : List (List ValType)) × AreNodes texts trie.nodes × AreRead all texts trie.prefixes.items
