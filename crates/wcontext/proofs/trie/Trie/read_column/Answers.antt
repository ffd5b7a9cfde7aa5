use Rattle.std.proofs.Common.{◌<◌, ◌≤◌, length, arith, refl, rules, ◌∙◌}
use Rattle.wcontext.specs.Nodes.{KeepsTexts}
use Rattle.wcontext.proofs.Tries.{none_of_column, next_read, all_read}
use Rattle.wcontext.proofs.trie.Trie.read_column.Goals as goal

pub loop-k-init : goal.loop-k-init
loop-k-init c =
    let kept : KeepsTexts c.args.self.now.nodes c.start_level.new.self = search rules in
    record {
      prefixes = refl;
      read = none_of_column c.args.self.now.nodes c.start_level.new.self c.args.lists.now c.args.base c.args.i kept;
    }

pub loop-k-preserved : goal.loop-k-preserved
loop-k-preserved c =
    let now = c.loop-k.lists in
    let k = c.loop-k.k in
    let within : k < length now = grind arith in
    let next = c.read_type.new.list in
    record {
      prefixes = c.read_type.ensures.prefixes ∙ c.loop-k.invariant.prefixes;
      read = next_read c.args.self.now.nodes c.loop-k.self.nodes c.read_type.new.self.nodes c.args.lists.now now c.args.base c.args.i k _ next c.loop-k.invariant.read c.in_ok-read_type.ensures.read within;
    }

pub returns-clause-read : goal.returns-clause-read
returns-clause-read c =
    let end : length c.loop-k.lists ≤ c.loop-k.k = grind arith in
    all_read c.args.self.now.nodes c.loop-k.self.nodes c.args.lists.now c.loop-k.lists c.args.base c.args.i c.loop-k.k c.loop-k.invariant.read end
