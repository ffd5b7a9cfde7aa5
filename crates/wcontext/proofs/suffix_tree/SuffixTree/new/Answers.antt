use Rattle.std.proofs.Common.{◌≡◌, Option, Result, Ok, Err, sym, subst}
use Rattle.std.specs.Prelude.{IfSome, IfOk}
use Rattle.std.specs.declared.alloc.AllocError.{AllocError}
use Rattle.std.specs.Result.{result_ok}
use Rattle.wcontext.specs.declared.fault.NoTree.{NoTree}
use Rattle.wcontext.specs.declared.suffix_tree.SuffixTree.{SuffixTree}
use Rattle.wcontext.proofs.suffix_tree.SuffixTree.new.Goals as goal

-- a tree that was made is kept
kept : (made : Result SuffixTree NoTree) (r : Result (Option SuffixTree) AllocError) (P : SuffixTree → Type 0) → IfOk made P → IfOk r (λ tree. tree ≡ result_ok made) → IfOk r (λ tree. IfSome tree P)
kept made (Err e) P h is = tt
kept (Ok t) (Ok tree) P h is = subst (λ o. IfSome o P) (sym is) h
kept (Err e) (Ok tree) P h is = subst (λ o. IfSome o P) (sym is) tt

pub returns-in-Some : goal.returns-in-Some
returns-in-Some c = kept _ _ _ c.of.ensures c.tree_if_any.ensures.tree
