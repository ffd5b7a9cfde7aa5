use Rattle.std.proofs.Common.{◌≡◌, ◌+◌, arith, ap, ◌∙◌}
use Rattle.wcontext.proofs.Tries.{put_prefix}
use Rattle.wcontext.proofs.trie.Trie.put_prefixes.Goals.{then-position-len, else-position-len}
use Rattle.wcontext.proofs.trie.Trie.put_prefixes.Goals as goal

pub loop-i-preserved : goal.loop-i-preserved
loop-i-preserved c =
    let list = c.args.list.now in
    let i = c.loop-i.i in
    let position = c.in_ok-position.position in
    let at : position ≡ list.start + c.args.base + i = grind arith in
    let before = c.loop-i.invariant in
    elim c.if-position-len.branch [
      | then-position-len w ↦ record {
        prefixes = rw w.self-is (put_prefix c.args.self.now.prefixes.items c.loop-i.self.prefixes.items list c.args.base position i before.prefixes at);
        nodes = ap (λ s. s.nodes) w.self-is ∙ before.nodes;
      }
      | else-position-len w ↦ rw w.self-is before
    ]
