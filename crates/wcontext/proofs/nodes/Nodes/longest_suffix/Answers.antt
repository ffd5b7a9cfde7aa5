use Rattle.std.proofs.Common.{◌≡◌, arith}
use Rattle.wcontext.specs.Nodes.{link_at, above_at}
use Rattle.wcontext.proofs.Links.{suffix_itself, next_above, child_found, none_found}
use Rattle.wcontext.proofs.nodes.Nodes.longest_suffix.Goals as goal

pub returns-in_default : goal.returns-in_default
returns-in_default c texts are within = none_found texts c.args.self.now c.args.node c.args.t are

pub loop-at-init : goal.loop-at-init
loop-at-init c texts are within low =
    let n = c.args.self.now in
    let p = c.args.node in
    let is : c.in-Some.link.now ≡ link_at n.links.items p = grind arith in
    next_above texts _ (link_at n.links.items) p p _ are.linked (within, suffix_itself _) is low

pub returns-then-child-gt0 : goal.returns-then-child-gt0
returns-then-child-gt0 c texts are within =
    child_found texts c.args.self.now c.args.node c.loop-at.at c.child-child.result c.args.t are (c.loop-at.invariant texts are within c.loop-at-test.true) c.if-child-gt0.true (c.child-child.ensures c.if-child-gt0.true)

pub returns-in_default-get : goal.returns-in_default-get
returns-in_default-get c texts are within = none_found texts c.args.self.now c.args.node c.args.t are

pub loop-at-preserved : goal.loop-at-preserved
loop-at-preserved c texts are within low =
    let n = c.args.self.now in
    let next = c.in-Some-get.passed.now.above in
    let is : next ≡ above_at n.nodes.items c.loop-at.at = grind arith in
    next_above texts _ (above_at n.nodes.items) c.args.node c.loop-at.at next are.aboves (c.loop-at.invariant texts are within c.loop-at-test.true) is low

pub returns : goal.returns
returns c texts are within = none_found texts c.args.self.now c.args.node c.args.t are
