use Rattle.std.proofs.Common.{◌≡◌, ◌+◌, ◌*◌, ◌++◌, length, take, drop, arith, rules, subst, sym}
use Rattle.std.specs.Prelude.{nat_lt}
use Rattle.std.specs.List.{filter}
use Rattle.std.proofs.lemmas.List.{take_at}
use Rattle.std.proofs.lemmas.Fn.{filter_same}
use Rattle.wcontext.specs.Trie.{BeginsBlocks, ReadsBlock, PutsBlock, ReadsTo}
use Rattle.wcontext.specs.declared.trie.Reading.{Reading}
use Rattle.wcontext.proofs.Tries.{none_read, block_read, fewer_left}
use Rattle.wcontext.proofs.trie.Trie.read.Goals as goal

pub loop-block-init : goal.loop-block-init
loop-block-init c = none_read c.args.lists.items c.in_ok-trie.trie c.in_ok-trie.ensures

pub loop-block-preserved : goal.loop-block-preserved
loop-block-preserved c =
    let base = c.loop-block.block * 16 in
    let old = c.loop-block.trie in
    let mid = c.read_block.new.self in
    let new = c.end_block.new.self in
    let lists = c.args.lists.items in
    let left = c.retain.new.self.items in
    let begun = c.begin_block.new.lists in
    let rest = c.read_block.new.lists in
    let longer = λ (r : Reading). nat_lt base (length r.types.now) in
    let fewer : left ≡ filter longer c.loop-block.lists.items = filter_same _ longer _ (λ x b f k. search rules) _ _ c.retain.ensures.filtered in
    let before : ReadsTo lists old left base = fewer_left lists c.loop-block.lists.items left old base longer c.loop-block.invariant fewer in
    let one : length begun ≡ c.retain.new.self.len = grind arith in
    let kept : take c.retain.new.self.len (begun ++ drop (length begun) left) ≡ begun = take_at begun (drop (length begun) left) c.retain.new.self.len one in
    let two : length rest ≡ c.retain.new.self.len = grind arith in
    let more = drop (length rest) (take c.retain.new.self.len (begun ++ drop (length begun) left)) in
    let last : take c.retain.new.self.len (rest ++ more) ≡ rest = take_at rest more c.retain.new.self.len two in
    let begins : BeginsBlocks left begun base = subst (λ l. BeginsBlocks l begun base) c.deref_mut.ensures.value c.begin_block.ensures in
    let step : ReadsBlock old.nodes mid.nodes begun rest base 16 = subst (λ l. ReadsBlock old.nodes mid.nodes l rest base 16) kept (search rules) in
    let puts : PutsBlock mid.prefixes.items new.prefixes.items (take c.retain.new.self.len (rest ++ more)) base = subst (λ l. PutsBlock mid.prefixes.items new.prefixes.items l base) c.deref.ensures.value (search rules) in
    block_read lists left begun (take c.retain.new.self.len (rest ++ more)) old mid new base ((c.loop-block.block + 1) * 16) before begins (subst (λ l. ReadsBlock old.nodes mid.nodes begun l base 16) (sym last) step) c.in_ok-read_block.ensures.prefixes puts c.end_block.ensures.nodes (omega arith)
