use Rattle.std.proofs.Common.{◌≡◌, ◌∷◌, [], ◌++◌, length, arith, refl, rules}
use Rattle.wcontext.specs.Nodes.{KeepsTexts}
use Rattle.wcontext.specs.declared.nodes.Node.{Node}
use Rattle.wcontext.specs.declared.nodes.Nodes.{Nodes}
use Rattle.wcontext.proofs.Links.{found_after, made_after}
use Rattle.wcontext.proofs.nodes.Nodes.after.Goals as goal

pub returns-then-child-gt0 : goal.returns-then-child-gt0
returns-then-child-gt0 c = found_after c.args.self.now c.args.node c.child-child.result c.args.t c.if-child-gt0.true (c.child-child.ensures c.if-child-gt0.true)

pub returns : goal.returns
returns c texts are within =
    let old = c.args.self.now in
    let n : Node = record { above = c.longest_suffix-link.result; below = 0 } in
    let mid : Nodes = record { nodes = c.push-2.new.self; links = c.push.new.self; forks = old.forks; current_level = old.current_level; next = old.next } in
    let made : c.in_ok-made.made ≡ length old.nodes.items = grind arith in
    let nodes : mid.nodes.items ≡ old.nodes.items ++ n ∷ [] = grind arith in
    let links : mid.links.items ≡ old.links.items ++ n.above ∷ [] = grind arith in
    let after = made_after old mid c.put_child.new.self c.args.node c.in_ok-made.made c.args.t n texts are within (c.longest_suffix-link.ensures texts are within) refl made nodes links refl c.in_ok-put_child.ensures in
    let kept : KeepsTexts c.put_child.new.self c.pass_link.new.self = search rules in
    (after.0, kept (texts ++ after.0) after.1, after.2, after.3)
