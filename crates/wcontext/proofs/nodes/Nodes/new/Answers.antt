use Rattle.std.proofs.Common.{◌≡◌, [], ◌∷◌, arith}
use Rattle.wcontext.proofs.Links.{first_node}
use Rattle.wcontext.proofs.nodes.Nodes.new.Goals as goal

pub returns : goal.returns
returns c =
    let nodes : c.push.new.self.items ≡ record { above = 0; below = 0 } ∷ [] = grind arith in
    let links : c.push-2.new.self.items ≡ 0 ∷ [] = grind arith in
    first_node _ nodes links
