-- Long lists that are gathered, and what the intervals of their prefixes tell.
use Rattle.std.proofs.Common.{◌≡◌, ℕ, zero, suc, ◌+◌, ◌<◌, ◌≤◌, List, [], ◌∷◌, ◌++◌, length, take, get_or, refl, sym, ap, subst, ◌∙◌, arith, inl, inr, length-append}
use Rattle.std.specs.List.{All}
use Rattle.std.proofs.lemmas.Bool.{cases_lt, cases_eq}
use Rattle.std.proofs.lemmas.List.{get_or_append_left, get_or_push, get_or_past, get_or-append-add, length_push}
use Rattle.std.proofs.lemmas.List.Elements.{All-push, All-weaker}
use Rattle.wsyntax.specs.Types.{FuncType}
use Rattle.wsyntax.specs.declared.ValType.{ValType}
use Rattle.wsyntax.specs.Validation.ModuleContext.{type_at}
use Rattle.wcontext.specs.declared.lists.TypeList.TheVariants.{Nothing, One, Params, Results}
use Rattle.wcontext.specs.declared.suffix_tree.Starts.{Starts}
use Rattle.wcontext.specs.declared.suffix_tree.Gathered.{Gathered}
use Rattle.wcontext.specs.declared.nodes.Node.{Node}
use Rattle.wcontext.specs.declared.trie.Reading.{Reading}
use Rattle.wcontext.specs.declared.trie.Trie.{Trie}
use Rattle.wcontext.specs.Lists.{list_of, IsSuffix}
use Rattle.wcontext.specs.Nodes.{text, GivesLinks}
use Rattle.wcontext.specs.Trie.{HasPrefixes, IsUnread, AreNodesOf}
use Rattle.wcontext.specs.Walk.{ArePreorderOf}
use Rattle.wcontext.specs.SuffixTree.{none, starts_at, start_in, AreSuffixesAt, HavePrefixes, IsGatheredFrom, PutsList}
use Rattle.wcontext.proofs.Links.{text_prefix}

-- the prefixes of a list, up to that many types
prefixes_to : List ValType → ℕ → List (List ValType)
prefixes_to types zero = []
prefixes_to types (suc n) = prefixes_to types n ++ take (suc n) types ∷ []

prefixes_count : (types : List ValType) (n : ℕ) → length (prefixes_to types n) ≡ n
unfolding prefixes_to
prefixes_count types zero = refl
prefixes_count types (suc n) = omega (arith, length_push (prefixes_to types n) (take (suc n) types), prefixes_count types n)

prefix_is : (types : List ValType) (n i : ℕ) → i < n → text (prefixes_to types n) i ≡ take (i + 1) types
unfolding prefixes_to
prefix_is types zero i below = absurd (omega arith)
prefix_is types (suc n) i below = elim (cases_lt i n) [
  | inl prefix ↦ get_or_append_left (prefixes_to types n) (take (suc n) types ∷ []) [] i (omega (arith, prefix, prefixes_count types n)) ∙ prefix_is types n i prefix
  | inr last ↦
      let is : n ≡ i = omega arith in
      get_or_push (prefixes_to types n) (take (suc n) types) [] i (prefixes_count types n ∙ is) ∙ (let same : suc n ≡ i + 1 = omega (arith, is) in ap (λ k. take k types) same)
]

has_more : (all more : List (List ValType)) (types : List ValType) (start : ℕ) → HasPrefixes all types start → HasPrefixes (all ++ more) types start
has_more all more types start has i below =
    let old = has i below in
    (omega (arith, old.0, length-append all more), text_prefix all more (start + i) old.0 ∙ old.1)

unread_more : (all more : List (List ValType)) (r : Reading) → IsUnread all r → IsUnread (all ++ more) r
unread_more all more r unread = record { prefixes = has_more all more r.types.now r.start unread.prefixes; node = unread.node }

-- a long list is put after the others
pub put_long : (all : List (List ValType)) (lists : List Reading) (r : Reading) → length all ≡ r.start → All (IsUnread all) lists → r.node ≡ 0
    → (more : List (List ValType)) × (length (all ++ more) ≡ r.start + length r.types.now) × All (IsUnread (all ++ more)) (lists ++ r ∷ []) × HasPrefixes (all ++ more) r.types.now r.start
put_long all lists r count unread node =
    let types = r.types.now in
    let more = prefixes_to types (length types) in
    let size : length (all ++ more) ≡ r.start + length types = omega (arith, length-append all more, count, prefixes_count types (length types)) in
    let has : HasPrefixes (all ++ more) types r.start = λ i below.
    (omega (arith, size, below), ap (λ k. text (all ++ more) (k + i)) (sym count) ∙ get_or-append-add all more i [] ∙ prefix_is types (length types) i below) in
    (more, size, All-push (IsUnread (all ++ more)) lists r (All-weaker (IsUnread all) (IsUnread (all ++ more)) (λ x old. unread_more all more x old) lists unread) (record { prefixes = has; node = node }), has)

pub have_more : (types : List FuncType) (starts : List Starts) (all more : List (List ValType)) → HavePrefixes types starts all → HavePrefixes types starts (all ++ more)
have_more types starts all more have list long = has_more all more (list_of types list) (start_in starts list) (have list long)

starts_prefix : (starts : List Starts) (s : Starts) (y : ℕ) → y < length starts → starts_at (starts ++ s ∷ []) y ≡ starts_at starts y
starts_prefix starts s y low = get_or_append_left starts (s ∷ []) (record { params = none; results = none }) y low

-- one list of one type more
next_at : (starts : List Starts) (all : List (List ValType)) (s : Starts) (start : Starts → ℕ) (lists : ℕ → List ValType) → start (record { params = none; results = none }) ≡ none → (y : ℕ)
    → (start (starts_at starts y) < none → HasPrefixes all (lists y) (start (starts_at starts y))) → (start s < none → HasPrefixes all (lists (length starts)) (start s))
    → start (starts_at (starts ++ s ∷ []) y) < none → HasPrefixes all (lists y) (start (starts_at (starts ++ s ∷ []) y))
next_at starts all s start lists nowhere y have last long = elim (cases_lt y (length starts)) [
  | inl low ↦
      let e : start (starts_at (starts ++ s ∷ []) y) ≡ start (starts_at starts y) = ap start (starts_prefix starts s y low) in
      subst (HasPrefixes all (lists y)) (sym e) (have (subst (λ n. n < none) e long))
  | inr high ↦ elim (cases_eq (length starts) y) [
    | inl same ↦
        let e : start (starts_at (starts ++ s ∷ []) y) ≡ start s = ap start (get_or_push starts s (record { params = none; results = none }) y same) in
        subst (HasPrefixes all (lists y)) (sym e) (subst (λ k. HasPrefixes all (lists k) (start s)) same (last (subst (λ n. n < none) e long)))
    | inr other ↦
        let past : length (starts ++ s ∷ []) ≤ y = omega (arith, length_push starts s, high, other) in
        let e : start (starts_at (starts ++ s ∷ []) y) ≡ none = ap start (get_or_past (starts ++ s ∷ []) y (record { params = none; results = none }) past) ∙ nowhere in
        absurd (omega (arith, e, long))
  ]
]

-- the lists of one type more
pub have_next : (types : List FuncType) (starts : List Starts) (all : List (List ValType)) (s : Starts) → HavePrefixes types starts all
    → (s.params < none → HasPrefixes all (type_at types (length starts)).params s.params) → (s.results < none → HasPrefixes all (type_at types (length starts)).results s.results) → HavePrefixes types (starts ++ s ∷ []) all
have_next types starts all s have params results Nothing long = absurd (omega (arith, long))
have_next types starts all s have params results (One t) long = absurd (omega (arith, long))
have_next types starts all s have params results (Params y) long = next_at starts all s (λ (z : Starts). z.params) (λ k. (type_at types k).params) refl y (have (Params y)) params long
have_next types starts all s have params results (Results y) long = next_at starts all s (λ (z : Starts). z.results) (λ k. (type_at types k).results) refl y (have (Results y)) results long

pub have_none : (types : List FuncType) → HavePrefixes types [] []
have_none types Nothing long = absurd (omega (arith, long))
have_none types (One t) long = absurd (omega (arith, long))
have_none types (Params y) long = absurd (omega (arith, long))
have_none types (Results y) long = absurd (omega (arith, long))

-- the lists of the next type are put after the others
pub gathered_next : (types : List FuncType) (old mid new : Gathered) (t : FuncType) (s : Starts) (kept : List Starts) → IsGatheredFrom types old → PutsList old mid t.params s.params → PutsList mid new t.results s.results
    → type_at types (length old.starts.items) ≡ t → kept ≡ old.starts.items ++ s ∷ []
    → (all : List (List ValType)) × (length all ≡ new.prefixes) × All (IsUnread all) new.lists.items × HavePrefixes types kept all
gathered_next types old mid new t s kept before params results is more =
    let all = before.0 in
    let one = params all before.1 in
    let two = results (all ++ one.0) one.1 in
    let there = all ++ one.0 ++ two.0 in
    let have : HavePrefixes types old.starts.items there = have_more types old.starts.items (all ++ one.0) two.0 (have_more types old.starts.items all one.0 before.2) in (
      there,
      two.1.count,
      two.1.unread,
      subst (λ l. HavePrefixes types l there) (sym more) (have_next types old.starts.items there s have
          (λ long. subst (λ (u : FuncType). HasPrefixes there u.params s.params) (sym is) (has_more (all ++ one.0) two.0 t.params s.params (one.2 long)))
          (λ long. subst (λ (u : FuncType). HasPrefixes there u.results s.results) (sym is) (two.2 long))),
    )

-- the intervals of the nodes become those of the prefixes
pub ends_read : (all : List (List ValType)) (lists : List Reading) (trie : Trie) (nodes ordered : List Node) → All (IsUnread all) lists → AreNodesOf lists trie → GivesLinks trie.nodes nodes → ArePreorderOf nodes ordered → AreSuffixesAt all trie.prefixes.items ordered
ends_read all lists trie nodes ordered unread are links given a b here there from to =
    let prefixes = trie.prefixes.items in
    let some = are all unread in
    let texts = some.0 in
    let p = some.2 a here.0 in
    let q = some.2 b there.0 in
    subst (λ l. IsSuffix l (text all b)) p.1 (subst (λ l. IsSuffix (text texts (get_or prefixes a 0)) l) q.1
    (given texts (links texts some.1) (get_or prefixes a 0) (get_or prefixes b 0) here.1 there.1 from to))
