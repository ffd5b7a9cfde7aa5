use Rattle.std.proofs.Common.{◌≡◌, ◌+◌, ◌<◌, length, set, arith, refl, ◌∙◌, length-set}
use Rattle.std.proofs.lemmas.List.{get_or-set_other}
use Rattle.wcontext.specs.Nodes.{above_at, below_at}
use Rattle.wcontext.specs.declared.nodes.Node.{Node}
use Rattle.wcontext.proofs.Walks.{walk_next}
use Rattle.wcontext.proofs.walk.assign_counted.Goals as goal

pub loop-i-preserved : goal.loop-i-preserved
loop-i-preserved c =
    let old = c.args.nodes.now in
    let nodes = c.loop-i.nodes in
    let before = c.loop-i.invariant in
    let i = c.loop-i.i in
    let f = above_at nodes i in
    let n : Node = record { above = above_at nodes f; below = c.in_ok-nodes.field-0 } in
    let m : Node = record { above = below_at nodes f; below = c.in_ok-checked_add.field-0 } in
    let within : i < length nodes = grind arith in
    let low : f < i = c.if-link-i.false in
    let below : n.below ≡ below_at nodes f + below_at nodes i = grind arith in
    let next : m.below ≡ below_at nodes f + 1 = grind arith in
    let none : Node = record { above = 0; below = 0 } in
    record {
      size = length-set (set nodes f n) i m ∙ length-set nodes f n ∙ before.size;
      some = omega arith;
      kept = λ k late. get_or-set_other (set nodes f n) i k m none (λ same. omega (arith, same, late)) ∙ get_or-set_other nodes f k n none (λ same. omega (arith, same, late, low)) ∙ before.kept k (omega (arith, late));
      walk = λ texts linked. walk_next texts old nodes _ i f n m linked c.requires before.size before.kept (before.walk texts linked) before.some within refl low refl below refl next refl;
    }
