use Rattle.std.proofs.Common.{◌<◌, length, arith}
use Rattle.wcontext.specs.Trie.{IsReading, IsInBlock}
use Rattle.wcontext.proofs.Tries.{one_more}
use Rattle.wcontext.proofs.trie.begin_block.Goals as goal

pub loop-k-preserved : goal.loop-k-preserved
loop-k-preserved c all texts each =
    let now = c.loop-k.lists in
    let k = c.loop-k.k in
    let before = c.loop-k.invariant all texts each in
    let within : k < length now = grind arith in
    one_more (IsReading all texts c.args.base) (IsInBlock all texts c.args.base c.args.base) now k c.begin.new.self within (c.begin.ensures all texts (before.1 k _ (omega arith) within)) before.0 before.1
