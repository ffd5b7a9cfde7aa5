use Rattle.std.proofs.Common.{◌≡◌, ◌<◌, ap, arith, length, refl}
use Rattle.std.proofs.lemmas.List.{get_or_read}
use Rattle.wcontext.specs.Nodes.{link_at, above_at, below_at}
use Rattle.wcontext.specs.declared.nodes.Node.{Node}
use Rattle.wcontext.proofs.Links.{passed}
use Rattle.wcontext.proofs.nodes.Nodes.pass_link.Goals as goal

pub returns-then-by_same_type : goal.returns-then-by_same_type
returns-then-by_same_type c =
    let old = c.args.self.now in
    let p = c.args.node in
    let l = c.in_ok-link.field-0.now in
    let n : Node = record { above = c.in_ok-above.field-0.now.above; below = c.index_mut.result.now.below } in
    let link : l ≡ link_at old.links.items p = grind arith in
    let within : p < length old.nodes.items = grind arith in
    let above : n.above ≡ above_at old.nodes.items l = grind arith in
    let under : n.below ≡ below_at old.nodes.items p = ap (λ (m : Node). m.below) (get_or_read old.nodes.items p c.index_mut.result.now within c.index_mut.ensures.value record { above = 0; below = 0 }) in
    passed old _ p l n link within above c.if-above-link.true c.if-link-node.true under refl refl refl
