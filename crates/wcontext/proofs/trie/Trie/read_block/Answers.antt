use Rattle.std.proofs.Common.{◌≡◌, arith, refl, subst, ◌∙◌}
use Rattle.wcontext.specs.Trie.{ReadsBlock}
use Rattle.wcontext.proofs.Tries.{none_of_block, column_read}
use Rattle.wcontext.proofs.trie.Trie.read_block.Goals as goal

pub loop-i-init : goal.loop-i-init
loop-i-init c = record { prefixes = refl; read = none_of_block c.args.self.now.nodes c.args.lists.now c.args.base }

pub loop-i-preserved : goal.loop-i-preserved
loop-i-preserved c =
    let old = c.loop-i.self in
    let new = c.read_column.new.self in
    record {
      prefixes = c.read_column.ensures.prefixes ∙ c.loop-i.invariant.prefixes;
      read = column_read c.args.self.now.nodes old.nodes new.nodes c.args.lists.now c.loop-i.lists c.read_column.new.lists c.args.base c.loop-i.i c.loop-i.invariant.read c.in_ok-read_column.ensures.read;
    }

pub returns-clause-read : goal.returns-clause-read
returns-clause-read c =
    let is : c.loop-i.i ≡ 16 = grind arith in
    subst (ReadsBlock c.args.self.now.nodes c.loop-i.self.nodes c.args.lists.now c.loop-i.lists c.args.base) is c.loop-i.invariant.read
