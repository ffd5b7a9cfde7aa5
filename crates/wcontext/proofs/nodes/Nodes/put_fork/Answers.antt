use Rattle.std.proofs.Common.{◌≡◌, ◌<◌, ◌++◌, ◌∷◌, [], ◌+◌, length, set, arith, refl, ap}
use Rattle.std.proofs.lemmas.List.{get_or_read}
use Rattle.wcontext.specs.Nodes.{type_key, above_at}
use Rattle.wcontext.specs.declared.nodes.Node.{Node}
use Rattle.wcontext.proofs.Children.{fork_put}
use Rattle.wcontext.proofs.nodes.Nodes.put_fork.Goals as goal

pub returns : goal.returns
returns c =
    let old = c.args.self.now in
    let children = c.children-children.result in
    let p = c.args.node in
    let was = c.index_mut.result.now in
    let n : Node = record { above = was.above; below = c.in_ok-position.position } in
    let within : p < length old.nodes.items = grind arith in
    let above : n.above ≡ above_at old.nodes.items p = ap (λ (m : Node). m.above) (get_or_read old.nodes.items p was within c.index_mut.ensures.value record { above = 0; below = 0 }) in
    let below : n.below ≡ 2147483648 + length old.forks.items = grind arith in
    let four : length children ≡ 4 = grind arith in
    let row : c.push.new.self.items ≡ old.forks.items ++ record { children = set children (type_key c.args.t) c.args.child } ∷ [] = grind arith in
    fork_put old _ p c.args.t c.args.child n children within above below c.children-children.ensures four refl refl row
