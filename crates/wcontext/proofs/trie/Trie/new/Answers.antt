use Rattle.std.proofs.Common.{arith}
use Rattle.wcontext.proofs.Tries.{unread}
use Rattle.wcontext.proofs.trie.Trie.new.Goals as goal

pub returns : goal.returns
returns c = (c.in_ok-new.ensures, λ all x above. absurd (omega (arith, above, unread c.args.count _ x c.in_ok-unread_prefixes.ensures)))
