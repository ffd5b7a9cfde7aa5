use Rattle.std.proofs.Common.{◌≡◌, ◌++◌, length, take, drop, arith, rules, subst, sym}
use Rattle.std.proofs.lemmas.List.{take_at}
use Rattle.wcontext.specs.Walk.{ArePreorderOf}
use Rattle.wcontext.proofs.Gathering.{ends_read}
use Rattle.wcontext.proofs.suffix_tree.SuffixTree.of.Goals as goal

pub returns : goal.returns
returns c =
    let g = c.in_ok-gathered.ensures in
    let all = g.0 in
    let trie = c.in_ok-nodes.field-0 in
    let old = c.linked-nodes.result in
    let ordered = c.assign_preorder.new.nodes in
    let size : length ordered ≡ old.len = grind arith in
    let kept : take old.len (ordered ++ drop (length ordered) old.items) ≡ ordered = take_at ordered (drop (length ordered) old.items) old.len size in
    let given : ArePreorderOf old.items ordered = subst (λ l. ArePreorderOf l ordered) c.deref_mut.ensures.value (search rules) in
    (all, ends_read all c.in_ok-gathered.gathered.lists.items trie old.items _ g.1.unread c.in_ok-nodes.ensures c.linked-nodes.ensures (subst (ArePreorderOf old.items) (sym kept) given), g.2)
