use Rattle.soundness.proofs.Several.{indexed_blocks, indexed_loops, indexed_ifs, indexed_labels, several_results}
use Rattle.soundness.proofs.examples.block_types.Goals as goal

pub returns : goal.returns
returns c = record {
  blocks = indexed_blocks;
  loops = indexed_loops;
  ifs = indexed_ifs;
  labels = indexed_labels;
  functions = several_results;
}
