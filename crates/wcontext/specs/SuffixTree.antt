-- The prefixes of long lists, and which of them are suffixes of which.
-- One list is a suffix of another. Where the tree says so, it is so; nothing is said where it does not.
use Rattle.std.specs.Prelude.{◌≡◌, ℕ, ◌<◌, ◌≤◌, List, ◌++◌, length, take, get_or}
use Rattle.std.specs.List.{All}
use Rattle.wsyntax.specs.Types.{FuncType}
use Rattle.wsyntax.specs.declared.ValType.{ValType}
use Rattle.wcontext.specs.declared.lists.TypeList.{TypeList}
use Rattle.wcontext.specs.declared.lists.TypeList.TheVariants.{Nothing, One, Params, Results}
use Rattle.wcontext.specs.declared.suffix_tree.Starts.{Starts}
use Rattle.wcontext.specs.declared.suffix_tree.Gathered.{Gathered}
use Rattle.wcontext.specs.declared.suffix_tree.SuffixTree.{SuffixTree}
use Rattle.wcontext.specs.declared.suffix_tree.Interval.{Interval}
use Rattle.wcontext.specs.declared.nodes.Node.{Node}
use Rattle.wcontext.specs.Lists.{list_of, IsSuffix}
use Rattle.wcontext.specs.Nodes.{text}
use Rattle.wcontext.specs.Trie.{HasPrefixes, IsUnread}
use Rattle.wcontext.specs.Walk.{start_at, suffix_at}

-- the start that stands for none
abbrev pub none : ℕ
none = 4294967295

-- the starts of the type of that index
abbrev pub starts_at : List Starts → ℕ → Starts
starts_at starts y = get_or starts y record { params = none; results = none }

-- where a list's prefixes begin, none if nowhere
abbrev pub start_in : List Starts → TypeList → ℕ
start_in starts Nothing = none
start_in starts (One t) = none
start_in starts (Params y) = (starts_at starts y).params
start_in starts (Results y) = (starts_at starts y).results

-- the list is taken in, and its prefixes begin there
abbrev pub IsStart : List Starts → TypeList → ℕ → Type 0
IsStart starts list start = (start < none) × (start_in starts list ≡ start)

-- the long lists have their prefixes from their starts on
abbrev pub HavePrefixes : List FuncType → List Starts → List (List ValType) → Type 0
HavePrefixes types starts all = (list : TypeList) → start_in starts list < none → HasPrefixes all (list_of types list) (start_in starts list)

-- none of them was read, and these are all their prefixes
pub record IsGathered (all : List (List ValType)) (g : Gathered) : Type 0 where
  pub count : length all ≡ g.prefixes
  pub unread : All (IsUnread all) g.lists.items

-- a list was put after the others, from start on if it is long
abbrev pub PutsList : Gathered → Gathered → List ValType → ℕ → Type 0
PutsList old new types start = (all : List (List ValType)) → IsGathered all old
    → (more : List (List ValType)) × IsGathered (all ++ more) new × (start < none → HasPrefixes (all ++ more) types start)

-- these are the long lists of the types
abbrev pub IsGatheredFrom : List FuncType → Gathered → Type 0
IsGatheredFrom types g = (all : List (List ValType)) × IsGathered all g × HavePrefixes types g.starts.items all

-- the prefix at a position was read, and its node has an interval
abbrev pub HasInterval : List ℕ → List Node → ℕ → Type 0
HasInterval prefixes nodes position = (0 < get_or prefixes position 0) × (get_or prefixes position 0 < length nodes)

-- a prefix whose number lies within the interval of another has that as a suffix
abbrev pub AreSuffixesAt : List (List ValType) → List ℕ → List Node → Type 0
AreSuffixesAt all prefixes nodes = (a b : ℕ) → HasInterval prefixes nodes a → HasInterval prefixes nodes b
    → start_at nodes (get_or prefixes a 0) ≤ start_at nodes (get_or prefixes b 0)
    → start_at nodes (get_or prefixes b 0) < suffix_at nodes (get_or prefixes a 0) → IsSuffix (text all a) (text all b)

-- the intervals are those of the prefixes of the types' lists
abbrev pub IsSuffixTree : List FuncType → SuffixTree → Type 0
IsSuffixTree types t = (all : List (List ValType)) × AreSuffixesAt all t.prefixes.items t.nodes.items × HavePrefixes types t.starts.items all

-- this is the interval of the first `count` types of that list
abbrev pub HoldsPrefix : SuffixTree → TypeList → ℕ → Interval → Type 0
HoldsPrefix t list count n = (position : ℕ) × HasInterval t.prefixes.items t.nodes.items position
    × (start_at t.nodes.items (get_or t.prefixes.items position 0) ≡ n.start) × (suffix_at t.nodes.items (get_or t.prefixes.items position 0) ≡ n.end)
    × ((types : List FuncType) (all : List (List ValType)) → HavePrefixes types t.starts.items all → count ≤ length (list_of types list)
    → text all position ≡ take count (list_of types list))

-- the one prefix is a suffix of the other, if both lists have as many types
abbrev pub TellsSuffix : SuffixTree → TypeList → ℕ → TypeList → ℕ → Type 0
TellsSuffix t short short_count long long_count = (types : List FuncType) → IsSuffixTree types t → short_count ≤ length (list_of types short)
    → long_count ≤ length (list_of types long)
    → IsSuffix (take short_count (list_of types short)) (take long_count (list_of types long))
