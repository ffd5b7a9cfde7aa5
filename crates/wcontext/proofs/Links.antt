-- The nodes of the trie keep their texts (`AreNodes`): each link leads to an earlier node whose text is a suffix of its own.
-- It goes by what is done to nodes: the first is made (`first_node`), one more is made (`made_after`), a link is passed (`passed`).
-- Functions of src/nodes.rt cite it, and Gathering.antt, Tries.antt and Walks.antt its lemmas on texts and suffixes.
use Rattle.std.proofs.Common.{◌≡◌, ◌≢◌, ◌⊎◌, ℕ, zero, suc, ◌+◌, ◌<◌, List, [], ◌∷◌, ◌++◌, length, set, refl, sym, ap, subst, ◌∙◌, arith, inl, inr, length-set}
use Rattle.std.proofs.lemmas.Bool.{cases_lt, cases_eq}
use Rattle.std.proofs.lemmas.List.{get_or_append_left, get_or_at, get_or_push, get_or_past, get_or-set_same, get_or-set_other, append-nil, append_assoc, length_push}
use Rattle.wsyntax.specs.declared.ValType.{ValType}
use Rattle.wcontext.specs.Lists.{IsSuffix}
use Rattle.wcontext.specs.Nodes.{text, link_at, above_at, below_at, IsOnly, IsForked, HasChild, PutsChild, LeadsUp, IsLinked, AreNodes, KeepsTexts, IsOnTheWay, IsNodeAfter}
use Rattle.wcontext.specs.declared.nodes.Node.{Node}
use Rattle.wcontext.specs.declared.nodes.Nodes.{Nodes}
use Rattle.wcontext.proofs.Children.{below_there, below_kept}

-- Ends.

pub suffix_nothing : (l : List ValType) → IsSuffix [] l
suffix_nothing l = (l, sym (append-nil l))

pub suffix_itself : (l : List ValType) → IsSuffix l l
suffix_itself l = ([], refl)

pub suffix_through : (a b c : List ValType) → IsSuffix a b → IsSuffix b c → IsSuffix a c
suffix_through a b c ab bc = (bc.0 ++ ab.0, bc.1 ∙ ap (λ z. bc.0 ++ z) ab.1 ∙ sym (append_assoc bc.0 ab.0 a))

suffix_more : (a b : List ValType) (t : ValType) → IsSuffix a b → IsSuffix (a ++ t ∷ []) (b ++ t ∷ [])
suffix_more a b t ab = (ab.0, ap (λ z. z ++ t ∷ []) ab.1 ∙ append_assoc ab.0 a (t ∷ []))

-- Up the links.

pub next_above : (texts : List (List ValType)) (count : ℕ) (up : ℕ → ℕ) (p q next : ℕ) → LeadsUp texts count up → IsOnTheWay texts p q → next ≡ up q → next < q → IsOnTheWay texts p next
next_above texts count up p q next leads above is low =
    let ends = leads.ends q (omega arith) above.0 in
    (omega (arith, low, above.0), rw is (suffix_through _ _ _ ends above.1))

pub child_found : (texts : List (List ValType)) (n : Nodes) (p q d : ℕ) (t : ValType) → AreNodes texts n → IsOnTheWay texts p q → 0 < d → HasChild n q t d → (d < length texts) × IsSuffix (text texts d) (text texts p ++ t ∷ [])
child_found texts n p q d t are above some has =
    let child = are.children q t d some has in
    (child.1, rw child.2 (suffix_more _ _ t above.1))

pub none_found : (texts : List (List ValType)) (n : Nodes) (p : ℕ) (t : ValType) → AreNodes texts n → (0 < length texts) × IsSuffix (text texts 0) (text texts p ++ t ∷ [])
none_found texts n p t are = (are.some, rw are.root (suffix_nothing _))

-- One node more.

pub text_prefix : (texts more : List (List ValType)) (q : ℕ) → q < length texts → text (texts ++ more) q ≡ text texts q
text_prefix texts more q below = get_or_append_left texts more [] q below

pub text_last : (texts : List (List ValType)) (x : List ValType) → text (texts ++ x ∷ []) (length texts) ≡ x
text_last texts x = get_or_at texts x [] [] (length texts) refl

-- one more leads up
leads_more : (texts : List (List ValType)) (count : ℕ) (up more : ℕ → ℕ) (x : List ValType) → LeadsUp texts count up → ((q : ℕ) → q < count → more q ≡ up q) → more count < length texts → IsSuffix (text texts (more count)) x → LeadsUp (texts ++ x ∷ []) (count + 1) more
leads_more texts count up more x leads kept within end =
    let size : length (texts ++ x ∷ []) ≡ length texts + 1 = length_push texts x in record {
      size = omega (arith, leads.size, size);
      below = λ q above inside. elim (cases_lt q (length texts)) [
        | inl prefix ↦ omega (arith, leads.below q above prefix, kept q (omega (arith, prefix, leads.size)))
        | inr past ↦ let is : count ≡ q = omega (arith, past, inside, size, leads.size) in omega (arith, ap more is, within, is, leads.size)
      ];
      ends = λ q above inside. elim (cases_lt q (length texts)) [
        | inl prefix ↦
            let low = leads.below q above prefix in
            rw (kept q (omega (arith, prefix, leads.size)), text_prefix texts (x ∷ []) (up q) (omega (arith, low, prefix)), text_prefix texts (x ∷ []) q prefix) (leads.ends q above prefix)
        | inr past ↦
            let is : count ≡ q = omega (arith, past, inside, size, leads.size) in
            let same : length texts ≡ q = omega (arith, is, leads.size) in
            rw (← ap more is, text_prefix texts (x ∷ []) (more count) within, ← same, text_last texts x) end
      ];
    }

linked_more : (texts : List (List ValType)) (nodes : List Node) (x : List ValType) (n : Node) → IsLinked texts nodes → n.above < length texts → IsSuffix (text texts n.above) x → IsLinked (texts ++ x ∷ []) (nodes ++ n ∷ [])
linked_more texts nodes x n linked below ends =
    let none : Node = record { above = 0; below = 0 } in
    let last : above_at (nodes ++ n ∷ []) (length nodes) ≡ n.above = ap (λ (m : Node). m.above) (get_or_push nodes n none (length nodes) refl) in
    let kept : (q : ℕ) → q < length nodes → above_at (nodes ++ n ∷ []) q ≡ above_at nodes q = λ q prefix. ap (λ (m : Node). m.above) (get_or_append_left nodes (n ∷ []) none q prefix) in
    rw (length_push nodes n) (leads_more texts (length nodes) (above_at nodes) (above_at (nodes ++ n ∷ [])) x linked kept (omega (arith, last, below)) (rw last ends))

links_more : (texts : List (List ValType)) (links : List ℕ) (x : List ValType) (l : ℕ) → LeadsUp texts (length links) (link_at links) → l < length texts → IsSuffix (text texts l) x → LeadsUp (texts ++ x ∷ []) (length (links ++ l ∷ [])) (link_at (links ++ l ∷ []))
links_more texts links x l linked below ends =
    let last : link_at (links ++ l ∷ []) (length links) ≡ l = get_or_push links l 0 (length links) refl in
    let kept : (q : ℕ) → q < length links → link_at (links ++ l ∷ []) q ≡ link_at links q = λ q prefix. get_or_append_left links (l ∷ []) 0 q prefix in
    rw (length_push links l) (leads_more texts (length links) (link_at links) (link_at (links ++ l ∷ [])) x linked kept (omega (arith, last, below)) (rw last ends))

-- a node without a child is made, and what lies below the others stays
pub same_below : (old new : List Node) (n : Node) → n.below ≡ 0 → new ≡ old ++ n ∷ [] → (q : ℕ) → below_at new q ≡ below_at old q
same_below old new n childless nodes q = let none : Node = record { above = 0; below = 0 } in rw nodes (elim (cases_lt q (length old)) [
  | inl prefix ↦ ap (λ (m : Node). m.below) (get_or_append_left old (n ∷ []) none q prefix)
  | inr past ↦
      let was : below_at old q ≡ 0 = ap (λ (m : Node). m.below) (get_or_past old q none past) in
      elim (cases_eq (length old) q) [
        | inl last ↦ ap (λ (m : Node). m.below) (get_or_push old n none q last) ∙ childless ∙ sym was
        | inr other ↦ ap (λ (m : Node). m.below) (get_or_past (old ++ n ∷ []) q none (omega (arith, length_push old n, past, other))) ∙ sym was
      ]
])

pub child_before : (old new : Nodes) (q : ℕ) (t : ValType) (e : ℕ) → below_at new.nodes.items q ≡ below_at old.nodes.items q → new.forks ≡ old.forks → HasChild new q t e → HasChild old q t e
child_before old new q t e same forks has = subst (λ b. IsOnly b t e ⊎ IsForked b old.forks.items t e) same (subst (λ v. IsOnly (below_at new.nodes.items q) t e ⊎ IsForked (below_at new.nodes.items q) v.items t e) forks has)

pub nodes_more : (texts : List (List ValType)) (old new : Nodes) (x : List ValType) (n : Node) → AreNodes texts old → n.above < length texts → n.below ≡ 0 → IsSuffix (text texts n.above) x
    → new.nodes.items ≡ old.nodes.items ++ n ∷ [] → new.links.items ≡ old.links.items ++ n.above ∷ [] → new.forks ≡ old.forks → AreNodes (texts ++ x ∷ []) new
nodes_more texts old new x n are within childless ends nodes links forks =
    let same : (q : ℕ) → below_at new.nodes.items q ≡ below_at old.nodes.items q = same_below old.nodes.items new.nodes.items n childless nodes in
    record {
      some = omega (arith, length_push texts x);
      root = text_prefix texts (x ∷ []) 0 are.some ∙ are.root;
      linked = rw links (links_more texts old.links.items x n.above are.linked within ends);
      aboves = rw nodes (linked_more texts old.nodes.items x n are.aboves within ends);
      forks = λ q. omega (arith, same q, are.forks q, ap (λ v. length v.items) forks);
      children = λ p t d some has.
          let was : HasChild old p t d = child_before old new p t d (same p) forks has in
          let child = are.children p t d some was in
          (omega (arith, child.0, length_push texts x), omega (arith, child.1, length_push texts x), text_prefix texts (x ∷ []) d child.1 ∙ child.2 ∙ ap (λ z. z ++ t ∷ []) (sym (text_prefix texts (x ∷ []) p child.0)));
    }

-- a node is put below another, of which it has the text and one type more
pub nodes_put : (texts : List (List ValType)) (old new : Nodes) (p : ℕ) (t : ValType) (d : ℕ) → AreNodes texts old → PutsChild old new p t d → p < length texts → d < length texts → text texts d ≡ text texts p ++ t ∷ [] → AreNodes texts new
nodes_put texts old new p t d are puts parent child is = record {
  some = are.some;
  root = are.root;
  linked = rw puts.links are.linked;
  aboves = record {
    size = puts.size ∙ are.aboves.size;
    below = λ q above within. omega (arith, puts.aboves q, are.aboves.below q above within);
    ends = λ q above within. rw (puts.aboves q) (are.aboves.ends q above within);
  };
  forks = puts.forks are.forks;
  children = λ q u e some has. elim (puts.children are.forks q u e some has) [
    | inl old ↦ are.children q u e some old
    | inr new ↦ (rw new.0 parent, rw new.2 child, rw (new.0, new.1, new.2) is)
  ];
}

-- the node after p is made and put below p
pub made_after : (old mid new : Nodes) (p d : ℕ) (t : ValType) (n : Node) (texts : List (List ValType)) → AreNodes texts old → p < length texts → (n.above < length texts) × IsSuffix (text texts n.above) (text texts p ++ t ∷ []) → n.below ≡ 0
    → d ≡ length old.nodes.items → mid.nodes.items ≡ old.nodes.items ++ n ∷ [] → mid.links.items ≡ old.links.items ++ n.above ∷ [] → mid.forks ≡ old.forks → PutsChild mid new p t d
    → (more : List (List ValType)) × AreNodes (texts ++ more) new × (d < length (texts ++ more)) × (text (texts ++ more) d ≡ text texts p ++ t ∷ [])
made_after old mid new p d t n texts are parent ends childless position nodes links forks puts =
    let x = text texts p ++ t ∷ [] in
    let made = nodes_more texts old mid x n are ends.0 childless ends.1 nodes links forks in
    let at : d ≡ length texts = position ∙ are.aboves.size in
    let inside : d < length (texts ++ x ∷ []) = omega (arith, at, length_push texts x) in
    let last : text (texts ++ x ∷ []) d ≡ x = ap (text (texts ++ x ∷ [])) at ∙ text_last texts x in
    (x ∷ [], nodes_put (texts ++ x ∷ []) mid new p t d made puts (omega (arith, parent, length_push texts x)) inside (last ∙ ap (λ z. z ++ t ∷ []) (sym (text_prefix texts (x ∷ []) p parent))), inside, last)

-- the node after p is there
pub found_after : (n : Nodes) (p d : ℕ) (t : ValType) → 0 < d → HasChild n p t d → IsNodeAfter n n p t d
found_after n p d t some has texts are parent =
    let child = are.children p t d some has in
    let same : texts ≡ texts ++ [] = sym (append-nil texts) in
    ([], subst (λ z. AreNodes z n) same are, subst (λ z. d < length z) same child.1, subst (λ z. text z d ≡ text texts p ++ t ∷ []) same child.2)

-- Nodes that keep their texts.

-- the links, the forks and what lies below stay
pub nodes_kept : (texts : List (List ValType)) (old new : Nodes) → new.links ≡ old.links → new.forks ≡ old.forks → ((q : ℕ) → below_at new.nodes.items q ≡ below_at old.nodes.items q) → IsLinked texts new.nodes.items → AreNodes texts old → AreNodes texts new
nodes_kept texts old new links forks same aboves are = record {
  some = are.some;
  root = are.root;
  linked = rw links are.linked;
  aboves = aboves;
  forks = λ q. omega (arith, same q, are.forks q, ap (λ v. length v.items) forks);
  children = λ p t d some has. are.children p t d some (child_before old new p t d (same p) forks has);
}

-- above a node is kept what is above its link
pub passed : (old new : Nodes) (p l : ℕ) (n : Node) → l ≡ link_at old.links.items p → p < length old.nodes.items → n.above ≡ above_at old.nodes.items l → n.above < l → l < p → n.below ≡ below_at old.nodes.items p
    → new.nodes.items ≡ set old.nodes.items p n → new.links ≡ old.links → new.forks ≡ old.forks → KeepsTexts old new
passed old new p l n link within above less low under nodes links forks texts are =
    let none : Node = record { above = 0; below = 0 } in
    let count : length new.nodes.items ≡ length old.nodes.items = ap length nodes ∙ length-set old.nodes.items p n in
    let here : above_at new.nodes.items p ≡ n.above = rw nodes (ap (λ (x : Node). x.above) (get_or-set_same old.nodes.items p n none within)) in
    let there : (q : ℕ) → q ≢ p → above_at new.nodes.items q ≡ above_at old.nodes.items q = λ q away. rw nodes (ap (λ (x : Node). x.above) (get_or-set_other old.nodes.items p q n none away)) in
    let same : (q : ℕ) → below_at new.nodes.items q ≡ below_at old.nodes.items q = λ q. elim (cases_eq q p) [
      | inl is ↦
          let now : below_at new.nodes.items q ≡ n.below = rw nodes (below_there old.nodes.items p n q within is) in
          now ∙ under ∙ ap (below_at old.nodes.items) (sym is)
      | inr away ↦ rw nodes (below_kept old.nodes.items p n q away)
    ] in
    nodes_kept texts old new links forks same (record {
      size = count ∙ are.aboves.size;
      below = λ q above inside. elim (cases_eq q p) [
        | inl is ↦ omega (arith, ap (above_at new.nodes.items) is, here, is, less, low)
        | inr away ↦ omega (arith, there q away, are.aboves.below q above inside)
      ];
      ends = λ q some inside. elim (cases_eq q p) [
        | inl is ↦
            let first = are.linked.ends q some inside in
            let at : link_at old.links.items q ≡ l = ap (link_at old.links.items) is ∙ sym link in
            let second = are.aboves.ends l (omega (arith, less)) (omega (arith, low, is, inside)) in
            rw (ap (above_at new.nodes.items) is ∙ here ∙ above) (suffix_through _ _ _ second (subst (λ z. IsSuffix (text texts z) (text texts q)) at first))
        | inr away ↦ rw (there q away) (are.aboves.ends q some inside)
      ];
    }) are

-- Node 0.

one_below : (q : ℕ) → below_at (record { above = 0; below = 0 } ∷ []) q ≡ 0
one_below zero = refl
one_below (suc q) = refl

no_child : (n : Nodes) (q : ℕ) (t : ValType) (d : ℕ) → below_at n.nodes.items q ≡ 0 → 0 < d → HasChild n q t d → ⊥
no_child n q t d none some (inl has) = omega (arith, none, some, has.is)
no_child n q t d none some (inr has) = omega (arith, none, has.fork)

pub first_node : (n : Nodes) → n.nodes.items ≡ record { above = 0; below = 0 } ∷ [] → n.links.items ≡ 0 ∷ [] → AreNodes ([] ∷ []) n
first_node n nodes links =
    let below : (q : ℕ) → below_at n.nodes.items q ≡ 0 = λ q. rw nodes (one_below q) in record {
      some = omega arith;
      root = refl;
      linked = record { size = ap length links; below = λ q some within. absurd (omega (arith, some, within)); ends = λ q some within. absurd (omega (arith, some, within)) };
      aboves = record { size = ap length nodes; below = λ q some within. absurd (omega (arith, some, within)); ends = λ q some within. absurd (omega (arith, some, within)) };
      forks = λ q. omega (arith, below q);
      children = λ p t d some has. absurd (no_child n p t d (below p) some has);
    }
