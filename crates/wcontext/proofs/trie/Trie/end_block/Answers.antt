use Rattle.std.proofs.Common.{◌<◌, length, arith, ◌∙◌}
use Rattle.wcontext.proofs.trie.Trie.end_block.Goals as goal

pub loop-k-preserved : goal.loop-k-preserved
loop-k-preserved c =
    let before = c.loop-k.invariant in
    let k = c.loop-k.k in
    let within : k < length c.args.lists.now = grind arith in
    record {
      prefixes = λ all texts column each read. c.in_ok-put_prefixes.ensures.prefixes all texts column (each k _ within) (before.prefixes all texts column each read);
      nodes = c.put_prefixes.ensures.nodes ∙ before.nodes;
    }
