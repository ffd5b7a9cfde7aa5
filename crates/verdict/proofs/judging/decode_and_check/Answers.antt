use Rattle.std.proofs.Common.{arith}
use Rattle.wsyntax.specs.Modules.{module_shape}
use Rattle.refusal.specs.Refusals.{of_decoding, of_rules}
use Rattle.verdict.proofs.Firsts.{decoded, not_decoded, not_kept, refused_so}
use Rattle.verdict.proofs.SegmentBytes.{segments_are_bytes}
use Rattle.verdict.proofs.judging.decode_and_check.Goals as goal

pub returns-in_err-module : goal.returns-in_err-module
returns-in_err-module c =
    refused_so _ _ _ (of_decoding c.in_err-module.field-0.0) c.from_residual.ensures.1
    (not_decoded c.args.bytes.now c.in_err-module.field-0.0 c.in_err-module.ensures.malformed c.in_err-module.ensures.too_large)

pub returns-in_err-context : goal.returns-in_err-context
returns-in_err-context c =
    refused_so _ _ _ (of_rules c.in_err-context.field-0.0) c.from_residual-in_err-context.ensures.1
    (not_kept c.args.bytes.now (module_shape c.in_ok-module.module) c.in_err-context.field-0.0
    (decoded _ _ c.in_ok-module.module c.in_ok-module.ensures.found c.in_ok-module.ensures.too_large) c.in_err-context.ensures.broken)

pub returns : goal.returns
returns c = record {
  known = record {
    whole = decoded _ _ c.in_ok-module.module c.in_ok-module.ensures.found c.in_ok-module.ensures.too_large;
    rules = c.in_ok-context.ensures.valid;
    reads = c.grammar_is_read.ensures.body;
    typed = c.accepted_is_typed.ensures;
    faults = c.refused_at_first_fault.ensures;
  };
  context = c.in_ok-context.ensures.context;
  filled = segments_are_bytes c.args.bytes.now (module_shape c.in_ok-module.module) c.in_ok-module.ensures.found (λ k. omega (arith, c.type_inv.bytes k));
}
