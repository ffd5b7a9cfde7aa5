use Rattle.std.proofs.Common.{◌≡◌, Some, subst, ap, arith}
use Rattle.std.specs.Prelude.{IfSome}
use Rattle.wcontext.specs.SuffixTree.{IsSuffixTree}
use Rattle.wcontext.proofs.Suffixes.{told}
use Rattle.wcontext.proofs.context.Context.known_suffix.Goals as goal

pub returns : goal.returns
returns c =
    let tree = c.in_ok-tree.tree.now in
    let is : c.self.inside.ends ≡ Some tree = grind arith in
    let held : IsSuffixTree c.self.inside.types tree = subst (λ o. IfSome o (IsSuffixTree c.self.inside.types)) is c.self.invariant.ends in
    let same : c.self.inside.types ≡ c.args.self.now.context.types = ap (λ i. i.context.types) c.self.view_is in
    told c.args.self.now.context.types tree c.args.short c.args.long c.args.short_count c.args.long_count c.has_suffix.result c.has_suffix.ensures (subst (λ types. IsSuffixTree types tree) same held) c.requires.short c.requires.long
