use Rattle.std.proofs.Common.{◌≡◌, ◌<◌, ◌≤◌, ◌+◌, [], ◌++◌, length, get_or, arith, subst, sym, refl, append-nil}
use Rattle.std.proofs.lemmas.List.{get_or_default}
use Rattle.wsyntax.specs.declared.ValType.TheVariants.{I32}
use Rattle.wcontext.specs.Nodes.{AreNodes}
use Rattle.wcontext.specs.Trie.{IsInBlock}
use Rattle.wcontext.proofs.Tries.{type_read, none_there}
use Rattle.wcontext.proofs.trie.Trie.read_type.Goals as goal

pub returns-then-saturating_add-list-clause-read : goal.returns-then-saturating_add-list-clause-read
returns-then-saturating_add-list-clause-read c all texts are held =
    let same : texts ≡ texts ++ [] = sym (append-nil texts) in
    let list = c.args.list.now in
    let past : length list.types.now ≤ c.args.base + c.args.i = grind arith in
    ([], subst (λ z. AreNodes z c.args.self.now.nodes) same are, subst (λ z. IsInBlock all z c.args.base (c.args.base + c.args.i + 1) list) same (none_there all texts list c.args.base c.args.i held past))

pub returns-clause-read : goal.returns-clause-read
returns-clause-read c all texts are held =
    let list = c.args.list.now in
    let base = c.args.base in
    let i = c.args.i in
    let child = c.in_ok-node.ensures texts are held.reading.within in
    let within : base + i < length list.types.now = grind arith in
    let inside : i < 16 = grind arith in
    let t = get_or list.block i I32 in
    let size : i < length list.block = grind arith in
    let is : t ≡ get_or list.block i t = get_or_default list.block i I32 t size in
    (child.0, child.1, type_read all texts list _ base i c.in_ok-node.node t held inside within is child.0 child.2 child.3 refl refl refl refl refl)
