-- Lists that are read into a trie.
use Rattle.std.proofs.Common.{◌≡◌, ◌≢◌, ℕ, ◌+◌, ◌<◌, ◌≤◌, List, [], ◌∷◌, ◌++◌, length, take, get_or, set, replicate, Bool, refl, sym, ap, subst, ◌∙◌, arith, inl, inr, length-append, length-set}
use Rattle.std.specs.List.{All, AllWithin, filter}
use Rattle.std.proofs.lemmas.Bool.{cases_lt, cases_eq}
use Rattle.std.proofs.lemmas.List.{get_or-set_same, get_or-set_other, append-nil, append_assoc, get_or_past, get_or-replicate, length-replicate, take_more, take_all}
use Rattle.std.proofs.lemmas.List.Elements.{AllWithin-more_set, AllWithin-upto, AllWithin-none, AllWithin-from_all, All-from_all_within, All-filter, All-weaker}
use Rattle.wsyntax.specs.declared.ValType.{ValType}
use Rattle.wcontext.specs.Nodes.{text, AreNodes}
use Rattle.wcontext.specs.Trie.{AreTexts, AreRead, HasPrefixes, IsReading, IsInBlock, BeginsBlocks, ReadsType, ReadsSome, ReadsColumn, ReadsBlock, PutsPrefixes, PutsBlock, IsNew, ReadsTo}
use Rattle.wcontext.specs.declared.trie.Reading.{Reading}
use Rattle.wcontext.specs.declared.nodes.Nodes.{Nodes}
use Rattle.wcontext.specs.declared.trie.Trie.{Trie}
use Rattle.wcontext.proofs.Links.{text_prefix}

pub unread : (n : ℕ) (prefixes : List ℕ) (x : ℕ) → prefixes ≡ replicate n 0 → get_or prefixes x 0 ≡ 0
unread n prefixes x e =
    ap (λ (l : List ℕ). get_or l x 0) e ∙ elim (cases_lt x n) as (λ _. let none : ℕ = 0 in get_or (replicate n none) x none ≡ none) [
      | inl below ↦ get_or-replicate n x 0 0 below
      | inr above ↦ get_or_past (replicate n 0) x 0 (omega (arith, above, length-replicate {A = ℕ} n 0))
    ]

-- More nodes.

pub read_more : (all texts more : List (List ValType)) (prefixes : List ℕ) → AreRead all texts prefixes → AreRead all (texts ++ more) prefixes
read_more all texts more prefixes read x above =
    let old = read x above in
    (omega (arith, old.0, length-append texts more), text_prefix texts more (get_or prefixes x 0) old.0 ∙ old.1)

pub reading_more : (all texts more : List (List ValType)) (column : ℕ) (r : Reading) → IsReading all texts column r → IsReading all (texts ++ more) column r
reading_more all texts more column r reading = record {
  prefixes = reading.prefixes;
  within = omega (arith, reading.within, length-append texts more);
  is = text_prefix texts more r.node reading.within ∙ reading.is;
}

texts_more : (texts more : List (List ValType)) (wanted : ℕ → List ValType) (nodes : List ℕ) → AreTexts texts wanted nodes → AreTexts (texts ++ more) wanted nodes
texts_more texts more wanted nodes read x above =
    let old = read x above in
    (omega (arith, old.0, length-append texts more), text_prefix texts more (get_or nodes x 0) old.0 ∙ old.1)

pub in_block_more : (all texts more : List (List ValType)) (base column : ℕ) (r : Reading) → IsInBlock all texts base column r → IsInBlock all (texts ++ more) base column r
in_block_more all texts more base column r held = record {
  reading = reading_more all texts more column r held.reading;
  block = held.block;
  nodes = texts_more texts more (λ i. text all (r.start + base + i)) r.nodes held.nodes;
}

-- One type more is read.

-- a node is put where its text is wanted
pub put_node : (texts : List (List ValType)) (wanted : ℕ → List ValType) (nodes : List ℕ) (position d : ℕ) → AreTexts texts wanted nodes → (0 < d → (d < length texts) × (text texts d ≡ wanted position)) → AreTexts texts wanted (set nodes position d)
put_node texts wanted nodes position d read is x above = elim (cases_eq x position) [
  | inl same ↦ elim (cases_lt position (length nodes)) [
    | inl inside ↦
        let now : get_or (set nodes position d) x 0 ≡ d = ap (λ i. get_or (set nodes position d) i 0) same ∙ get_or-set_same nodes position d 0 inside in
        let one = is (subst (λ n. 0 < n) now above) in
        rw now (one.0, one.1 ∙ ap wanted (sym same))
    | inr past ↦ absurd (omega (arith, above, get_or_past (set nodes position d) x 0 (omega (arith, same, past, length-set nodes position d))))
  ]
  | inr other ↦
      let now = get_or-set_other nodes position x d 0 other in
      rw now (read x (subst (λ n. 0 < n) now above))
]

pub next_types : (types : List ValType) (column : ℕ) (t d : ValType) → column < length types → t ≡ get_or types column d → take column types ++ t ∷ [] ≡ take (column + 1) types
next_types types column t d below is = ap (λ x. take column types ++ x ∷ []) is ∙ sym (take_more types column d below)

-- one type of a list is read
pub type_read : (all texts : List (List ValType)) (list next : Reading) (base i d : ℕ) (t : ValType) → IsInBlock all texts base (base + i) list → i < 16 → base + i < length list.types.now → t ≡ get_or list.block i t
    → (more : List (List ValType)) → d < length (texts ++ more) → text (texts ++ more) d ≡ text texts list.node ++ t ∷ []
    → next.types ≡ list.types → next.start ≡ list.start → next.node ≡ d → next.block ≡ list.block → next.nodes ≡ set list.nodes i d → IsInBlock all (texts ++ more) base (base + i + 1) next
type_read all texts list next base i d t held inside within is more below child types start node block nodes =
    let at : t ≡ get_or list.types.now (base + i) t = is ∙ held.block i t inside within in
    let prefix : text (texts ++ more) d ≡ take (base + i + 1) list.types.now = child ∙ ap (λ z. z ++ t ∷ []) held.reading.is ∙ next_types list.types.now (base + i) t t within at in
    let there : text all (list.start + (base + i)) ≡ take (base + i + 1) list.types.now = (held.reading.prefixes (base + i) within).1 in
    let position : list.start + (base + i) ≡ list.start + base + i = omega arith in
    let wanted : ℕ → List ValType = λ j. text all (list.start + base + j) in
    let add_list = put_node (texts ++ more) wanted list.nodes i d (texts_more texts more wanted list.nodes held.nodes) (λ _. (below, prefix ∙ sym there ∙ ap (text all) position)) in
    record {
      reading = record {
        prefixes = subst (λ n. HasPrefixes all next.types.now n) (sym start) (subst (λ s. HasPrefixes all s.now list.start) (sym types) held.reading.prefixes);
        within = subst (λ n. n < length (texts ++ more)) (sym node) below;
        is = ap (text (texts ++ more)) node ∙ prefix ∙ ap (λ s. take (base + i + 1) s.now) (sym types);
      };
      block = subst (λ s. (j : ℕ) (u : ValType) → j < 16 → base + j < length s.now → get_or next.block j u ≡ get_or s.now (base + j) u) (sym types) (subst (λ b. (j : ℕ) (u : ValType) → j < 16 → base + j < length list.types.now → get_or b j u ≡ get_or list.types.now (base + j) u) (sym block) held.block);
      nodes = subst (λ n. AreTexts (texts ++ more) (λ j. text all (n + base + j)) next.nodes) (sym start) (subst (AreTexts (texts ++ more) wanted) (sym nodes) add_list);
    }

-- a list has no type there
pub none_there : (all texts : List (List ValType)) (list : Reading) (base i : ℕ) → IsInBlock all texts base (base + i) list → length list.types.now ≤ base + i → IsInBlock all texts base (base + i + 1) list
none_there all texts list base i held past = record {
  reading = record {
    prefixes = held.reading.prefixes;
    within = held.reading.within;
    is = held.reading.is ∙ take_all (base + i) list.types.now past ∙ sym (take_all (base + i + 1) list.types.now (omega (arith, past)));
  };
  block = held.block;
  nodes = held.nodes;
}

-- One type more of one list more.

-- one element more is as the first ones
pub one_more : {X : Type 0} (P Q : X → Type 0) (now : List X) (k : ℕ) (next : X) → k < length now → Q next → AllWithin Q now 0 k → AllWithin P now k (length now) → AllWithin Q (set now k next) 0 (k + 1) × AllWithin P (set now k next) (k + 1) (length (set now k next))
one_more P Q now k next within holds done left = (
  AllWithin-more_set now k next within Q done holds,
  λ m d low high.
      let other : m ≢ k = λ same. omega (arith, same, low) in
      subst P (sym (get_or-set_other now k m next d other)) (left m d (omega arith) (omega (arith, high, length-set now k next))),
)

pub next_read : (old mid new : Nodes) (lists now : List Reading) (base i k : ℕ) (list next : Reading) → ReadsSome old mid lists now base i k → ReadsType mid new (get_or now k list) next base i → k < length now → ReadsSome old new lists (set now k next) base i (k + 1)
next_read old mid new lists now base i k list next before step within all texts are each =
    let some = before all texts are each in
    let one = step all (texts ++ some.0) some.1 (some.3 k list (omega arith) within) in
    let there = texts ++ some.0 ++ one.0 in
    let P : ℕ → Reading → Type 0 = IsInBlock all there base in
    let both = one_more (P (base + i)) (P (base + i + 1)) now k next within one.2
    (λ m d low high. in_block_more all (texts ++ some.0) one.0 base (base + i + 1) (get_or now m d) (some.2 m d low high))
    (λ m d low high. in_block_more all (texts ++ some.0) one.0 base (base + i) (get_or now m d) (some.3 m d low high)) in
    let G : List (List ValType) → Type 0 = λ z. AreNodes z new × AllWithin (IsInBlock all z base (base + i + 1)) (set now k next) 0 (k + 1) × AllWithin (IsInBlock all z base (base + i)) (set now k next) (k + 1) (length (set now k next)) in
    let q : G (texts ++ (some.0 ++ one.0)) = subst G (append_assoc texts some.0 one.0) (one.1, both.0, both.1) in
    (some.0 ++ one.0, q.0, q.1, q.2)

pub all_read : (old new : Nodes) (lists now : List Reading) (base i k : ℕ) → ReadsSome old new lists now base i k → length now ≤ k → ReadsColumn old new lists now base i
all_read old new lists now base i k before end all texts are each =
    let some = before all texts are each in
    (some.0, some.1, All-from_all_within (IsInBlock all (texts ++ some.0) base (base + i + 1)) now (AllWithin-upto (IsInBlock all (texts ++ some.0) base (base + i + 1)) now 0 k (length now) end some.2))

-- the nodes keep their texts before the first list is read
pub none_of_column : (old new : Nodes) (lists : List Reading) (base i : ℕ) → ((texts : List (List ValType)) → AreNodes texts old → AreNodes texts new) → ReadsSome old new lists lists base i 0
none_of_column old new lists base i kept all texts are each =
    let P : List (List ValType) → Type 0 = λ z. AreNodes z new × AllWithin (IsInBlock all z base (base + i + 1)) lists 0 0 × AllWithin (IsInBlock all z base (base + i)) lists 0 (length lists) in
    let q : P (texts ++ []) = subst P (sym (append-nil texts)) (kept texts are, AllWithin-none (IsInBlock all texts base (base + i + 1)) lists 0, AllWithin-from_all (IsInBlock all texts base (base + i)) lists each) in
    ([], q.0, q.1, q.2)

-- A block.

pub column_read : (old mid new : Nodes) (lists left rest : List Reading) (base i : ℕ) → ReadsBlock old mid lists left base i → ReadsColumn mid new left rest base i → ReadsBlock old new lists rest base (i + 1)
column_read old mid new lists left rest base i before step all texts are each =
    let some = before all texts are each in
    let one = step all (texts ++ some.0) some.1 some.2 in
    let G : List (List ValType) → Type 0 = λ z. AreNodes z new × All (IsInBlock all z base (base + (i + 1))) rest in
    let sum : base + i + 1 ≡ base + (i + 1) = omega arith in
    let q : G (texts ++ (some.0 ++ one.0)) = subst G (append_assoc texts some.0 one.0) (one.1, subst (λ n. All (IsInBlock all (texts ++ some.0 ++ one.0) base n) rest) sum one.2) in
    (some.0 ++ one.0, q.0, q.1)

pub none_of_block : (n : Nodes) (lists : List Reading) (base : ℕ) → ReadsBlock n n lists lists base 0
none_of_block n lists base all texts are each =
    let same : texts ≡ texts ++ [] = sym (append-nil texts) in
    let sum : base ≡ base + 0 = omega arith in
    let G : List (List ValType) → Type 0 = λ z. AreNodes z n × All (IsInBlock all z base (base + 0)) lists in
    let q : G (texts ++ []) = subst G same (are, subst (λ k. All (IsInBlock all texts base k) lists) sum each) in
    ([], q.0, q.1)

-- The prefixes of a block.

pub put_prefix : (old now : List ℕ) (list : Reading) (base position i : ℕ) → PutsPrefixes old now list base → position ≡ list.start + base + i → PutsPrefixes old (set now position (get_or list.nodes i 0)) list base
put_prefix old now list base position i before at all texts column held read =
    put_node texts (text all) now position (get_or list.nodes i 0) (before all texts column held read) (λ above.
    let node = held.nodes i above in
    (node.0, node.1 ∙ ap (text all) (sym at)))

-- All columns.

pub none_read : (lists : List Reading) (trie : Trie) → IsNew trie → ReadsTo lists trie lists 0
none_read lists trie new all each = (
  ([] ∷ []),
  new.0,
  new.1 all,
  λ k d within.
      let unread = each k d within in
      record { prefixes = unread.prefixes; within = omega (arith, unread.node); is = rw unread.node refl },
)

pub block_read : (lists left begun rest : List Reading) (old mid new : Trie) (base end : ℕ) → ReadsTo lists old left base → BeginsBlocks left begun base → ReadsBlock old.nodes mid.nodes begun rest base 16 → mid.prefixes ≡ old.prefixes
    → PutsBlock mid.prefixes.items new.prefixes.items rest base → new.nodes ≡ mid.nodes → end ≡ base + 16 → ReadsTo lists new rest end
block_read lists left begun rest old mid new base end before begins step prefixes puts nodes is all each =
    let some = before all each in
    let texts = some.0 in
    let one = step all texts some.1 (begins all texts some.3) in
    let there = texts ++ one.0 in
    let kept : AreRead all there mid.prefixes.items = subst (λ v. AreRead all there v.items) (sym prefixes) (read_more all texts one.0 old.prefixes.items some.2) in (
      there,
      subst (AreNodes there) (sym nodes) one.1,
      puts all there (base + 16) one.2 kept,
      subst (λ n. All (IsReading all there n) rest) (sym is) (All-weaker (IsInBlock all there base (base + 16)) (IsReading all there (base + 16)) (λ x held. held.reading) rest one.2),
    )

-- lists that have no more are left out
pub fewer_left : (lists left rest : List Reading) (trie : Trie) (base : ℕ) (p : Reading → Bool) → ReadsTo lists trie left base → rest ≡ filter p left → ReadsTo lists trie rest base
fewer_left lists left rest trie base p before is all each =
    let some = before all each in
    (some.0, some.1, some.2, subst (All (IsReading all some.0 base)) (sym is) (All-filter p (IsReading all some.0 base) left some.3))
