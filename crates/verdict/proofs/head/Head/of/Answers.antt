use Rattle.std.proofs.Common.{arith}
use Rattle.wsyntax.specs.Modules.{module_shape}
use Rattle.refusal.specs.Refusals.{of_decoding}
use Rattle.verdict.proofs.Firsts.{within_limit, not_decoded, refused_so}
use Rattle.verdict.proofs.Parts.{is_early, one_whole, fewer, no_module, none_spelled}
use Rattle.verdict.proofs.head.Head.of.Goals as goal

pub returns-in_err-front : goal.returns-in_err-front
returns-in_err-front c =
    refused_so _ _ _ (of_decoding c.in_err-front.field-0.0) c.from_residual.ensures.1
    (not_decoded c.args.bytes.now c.in_err-front.field-0.0 c.in_err-front.ensures.malformed c.in_err-front.ensures.too_large)

pub returns-in-Err : goal.returns-in-Err
returns-in-Err c =
    is_early c.in_ok-front.front c.args.bytes.now c.in-Err.fault c.refused_early.result
    record {
      small = within_limit _ c.in_ok-front.front c.in_ok-front.ensures.too_large;
      whole = c.in_ok-front.ensures.whole;
      one = one_whole c.args.bytes.now c.in_ok-front.front c.in_ok-front.ensures.whole c.shells_are_determined.ensures;
      reads = c.grammar_is_read.ensures.body;
      typed = c.accepted_is_typed.ensures;
      faults = c.refused_at_first_fault.ensures;
    }
    c.in-Err.ensures.broken
    c.refused_early.ensures

pub invariant_of-result-clause-one : goal.invariant_of-result-clause-one
invariant_of-result-clause-one c = one_whole c.args.bytes.now c.in_ok-front.front c.in_ok-front.ensures.whole c.shells_are_determined.ensures

pub invariant_of-result-clause-few : goal.invariant_of-result-clause-few
invariant_of-result-clause-few c =
    fewer (module_shape c.in_ok-front.front.«module») c.in-Ok.both.0 c.function_count.result 2147483648 c.in-Ok.ensures.context c.in_ok-front.ensures.paired c.function_count.ensures.functions
    (let small = within_limit c.args.bytes.now c.in_ok-front.front c.in_ok-front.ensures.too_large in omega (arith, small, c.if-function_count-bytes.false))

pub returns-then-function_count-bytes : goal.returns-then-function_count-bytes
returns-then-function_count-bytes c =
    let front = c.in_ok-front.front in
    none_spelled c.args.bytes.now (within_limit _ front c.in_ok-front.ensures.too_large)
    (no_module c.args.bytes.now front c.in-Ok.both.0 c.function_count.result c.in_ok-front.ensures.whole c.in-Ok.ensures.context c.in_ok-front.ensures.paired c.function_count.ensures.functions (omega (arith, c.if-function_count-bytes.true)))
