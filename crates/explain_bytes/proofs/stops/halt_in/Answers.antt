use Rattle.std.proofs.Common.{◌≡◌, length, reverse, subst, arith, rules}
use Rattle.explain_bytes.specs.declared.stops.Further.{Further}
use Rattle.explain_bytes.specs.Locations.{GoesFurther}
use Rattle.explain_bytes.proofs.Lefts.{halts_after, no_bytes, short_halt}
use Rattle.explain_bytes.proofs.stops.halt_in.Goals as goal

pub returns-in-Closed : goal.returns-in-Closed
returns-in-Closed c =
    let l = c.loop-tokens in
    halts_after c.args.code.now l.rest.now c.in-Closed.after.now l.tokens (reverse l.opened.items) c.left_over.result l.invariant.left l.invariant.nested
    (subst (λ (f : Further). GoesFurther l.rest.now (reverse l.opened.items) (reverse c.go_further.new.opened.items) f) c.in-Closed.is c.in_ok-after.ensures) c.left_over.ensures

pub returns-then-is_empty : goal.returns-then-is_empty
returns-then-is_empty c =
    let l = c.loop-tokens in
    let all : l.tokens ≡ length c.args.code.now = omega arith in
    let empty : length l.rest.now ≡ 0 = search rules in
    short_halt c.args.code.now l.rest.now (reverse l.opened.items) l.tokens (length c.args.code.now) all l.invariant.left l.invariant.nested (no_bytes l.rest.now empty)
