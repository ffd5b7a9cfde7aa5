use Rattle.std.proofs.Common.{◌≡◌, ◌+◌, [], ◌∷◌, ◌++◌, length, arith, subst, ◌∙◌, sym}
use Rattle.wcontext.specs.Trie.{HasPrefixes}
use Rattle.wcontext.proofs.Gathering.{put_long}
use Rattle.wcontext.proofs.suffix_tree.Gathered.add_list.Goals as goal

pub returns-clause-add_list : goal.returns-clause-add_list
returns-clause-add_list c all gathered =
    let old = c.args.self.now in
    let r = c.new.result in
    let types : r.types.now ≡ c.args.types.now = c.new.ensures.types in
    let start : r.start ≡ old.prefixes = c.new.ensures.start in
    let lists : c.push.new.self.items ≡ old.lists.items ++ r ∷ [] = grind arith in
    let count : c.in_ok-end.end ≡ r.start + length r.types.now = grind (arith, types, start) in
    let add_list = put_long all old.lists.items r (gathered.count ∙ sym start) gathered.unread c.new.ensures.node in
    (add_list.0, record { count = add_list.1 ∙ sym count; unread = rw lists add_list.2 }, λ _. subst (HasPrefixes (all ++ add_list.0) c.args.types.now) start (subst (λ l. HasPrefixes (all ++ add_list.0) l r.start) types add_list.3))
