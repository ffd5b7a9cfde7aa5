use Rattle.std.proofs.Common.{◌++◌, [], length, reverse}
use Rattle.std.proofs.lemmas.Result.{err_from_is_err_and}
use Rattle.wsyntax.specs.Modules.{decoded_as}
use Rattle.wsyntax.specs.Binary.Nesting.{tokens_at, expression}
use Rattle.wdecode.proofs.FlatLoop.{token_fails, nest_fails}
use Rattle.wdecode.proofs.BranchTables.{all_targets}
use Rattle.wdecode.proofs.OneLoop.{continues, finishes, shrunk, reads_on}
use Rattle.wdecode.proofs.instructions.expression_at.Goals as goal

pub returns-in_err-token-clause-value : goal.returns-in_err-token-clause-value
unfolding expression
returns-in_err-token-clause-value c =
    let p = err_from_is_err_and c.from_residual-in_err-token.result c.from_residual-in_err-token.ensures.1 in
    rw (p.1, p.2) (token_fails c.in_err-token.field-0.0 _ _ _ c.each.rest.now (tokens_at (length c.args.bytes.now) [] c.args.bytes.now) c.in_err-token.ensures.err (c.each.invariant.so_far []))

pub returns-in_err-closes-clause-value : goal.returns-in_err-closes-clause-value
unfolding expression
returns-in_err-closes-clause-value c =
    let p = err_from_is_err_and c.from_residual-in_err-closes.result c.from_residual-in_err-closes.ensures.1 in
    let g = c.in_ok-token.ensures.ok in
    let t = decoded_as (c.token_at.new.targets.items ++ []) c.in_ok-token.token in
    rw (p.1, p.2) (nest_fails c.in_err-closes.field-0.0 _ _ _ c.each.rest.now c.in_ok-token.after.now t (tokens_at (length c.args.bytes.now) [] c.args.bytes.now) (g.2 []) (c.in_err-closes.ensures.err (c.token_at.new.targets.items ++ [])) (c.each.invariant.so_far []))

pub returns-then-closes : goal.returns-then-closes
returns-then-closes c =
    let read = finishes c.args.bytes.now c.each.tokens.items c.push-in-each.new.self.items c.each.targets.items c.token_at.new.targets.items (reverse c.each.opened.items) (reverse c.enter.new.opened.items) c.each.rest.now c.in_ok-token.after.now c.in_ok-token.token c.in_ok-closes.closes c.each.invariant c.in_ok-token.ensures.ok c.in_ok-token.ensures.within c.in_ok-token.ensures.follows c.in_ok-closes.ensures.ok c.if-closes.true c.in_ok-push-2.ensures.items in
    let all = shrunk c.args.bytes.now _ _ _ _ c.in_ok-token.after.now c.shrink_to_fit.ensures.items c.shrink_to_fit-then-closes.ensures.items read in
    record {
      value = all.read;
      follow = all.follow;
      targets = all_targets c.shrink_to_fit-then-closes.new.self.items c.shrink_to_fit.new.self.items all.follow all.within;
    }

pub invariant_of-result-clause-closed : goal.invariant_of-result-clause-closed
invariant_of-result-clause-closed c =
    let read = finishes c.args.bytes.now c.each.tokens.items c.push-in-each.new.self.items c.each.targets.items c.token_at.new.targets.items (reverse c.each.opened.items) (reverse c.enter.new.opened.items) c.each.rest.now c.in_ok-token.after.now c.in_ok-token.token c.in_ok-closes.closes c.each.invariant c.in_ok-token.ensures.ok c.in_ok-token.ensures.within c.in_ok-token.ensures.follows c.in_ok-closes.ensures.ok c.if-closes.true c.in_ok-push-2.ensures.items in
    let all = shrunk c.args.bytes.now _ _ _ _ c.in_ok-token.after.now c.shrink_to_fit.ensures.items c.shrink_to_fit-then-closes.ensures.items read in
    all.closed

pub invariant_of-result-clause-within : goal.invariant_of-result-clause-within
invariant_of-result-clause-within c =
    let read = finishes c.args.bytes.now c.each.tokens.items c.push-in-each.new.self.items c.each.targets.items c.token_at.new.targets.items (reverse c.each.opened.items) (reverse c.enter.new.opened.items) c.each.rest.now c.in_ok-token.after.now c.in_ok-token.token c.in_ok-closes.closes c.each.invariant c.in_ok-token.ensures.ok c.in_ok-token.ensures.within c.in_ok-token.ensures.follows c.in_ok-closes.ensures.ok c.if-closes.true c.in_ok-push-2.ensures.items in
    let all = shrunk c.args.bytes.now _ _ _ _ c.in_ok-token.after.now c.shrink_to_fit.ensures.items c.shrink_to_fit-then-closes.ensures.items read in
    all.within

pub each-smaller : goal.each-smaller
each-smaller c = c.in_ok-token.ensures.shorter

pub each-preserved : goal.each-preserved
each-preserved c =
    continues c.args.bytes.now c.each.tokens.items c.push-in-each.new.self.items c.each.targets.items c.token_at.new.targets.items (reverse c.each.opened.items) (reverse c.enter.new.opened.items) c.each.rest.now c.in_ok-token.after.now c.in_ok-token.token c.in_ok-closes.closes c.each.invariant c.in_ok-token.ensures.ok c.in_ok-token.ensures.within c.in_ok-token.ensures.follows c.in_ok-closes.ensures.ok c.if-closes.false c.in_ok-push-2.ensures.items

pub each-smaller-in-Some : goal.each-smaller-in-Some
each-smaller-in-Some c = c.in-Some.ensures.0

pub each-preserved-in-Some : goal.each-preserved-in-Some
each-preserved-in-Some c = reads_on c.args.bytes.now c.each.tokens.items c.push.new.self.items c.each.targets.items (reverse c.each.opened.items) c.each.rest.now c.in-Some.after.now c.in-Some.token c.each.invariant c.in-Some.ensures c.in_ok-push.ensures.items
