use Rattle.std.proofs.Common.{ℕ, ◌<◌, ◌≤◌, ◌∙◌, arith, length, min}
use Rattle.wcontext.proofs.nodes.Nodes.linked.Goals as goal

pub returns : goal.returns
returns c texts are =
    let end : min (length c.args.self.nodes.items) (length c.args.self.links.items) ≤ c.loop-i.i = grind arith in
    let inside : (q : ℕ) → q < length texts → q < c.loop-i.i = λ q within. omega (arith, within, end, are.linked.size, are.aboves.size) in
    record {
      size = c.loop-i.invariant.size ∙ are.aboves.size;
      below = λ q some within. rw (c.loop-i.invariant.links q (inside q within)) (are.linked.below q some within);
      ends = λ q some within. rw (c.loop-i.invariant.links q (inside q within)) (are.linked.ends q some within);
    }
