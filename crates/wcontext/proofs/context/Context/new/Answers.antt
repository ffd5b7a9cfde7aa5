use Rattle.wsyntax.specs.Modules.{module_shape}
use Rattle.wcontext.proofs.Made.{functions_typed, imported_within}
use Rattle.wcontext.proofs.context.Context.new.Goals as goal

pub invariant_of-result : goal.invariant_of-result
invariant_of-result c =
    let m = module_shape c.args.module.now in
    record {
      ends = c.in_ok-ends.ensures;
      typed = functions_typed m c.args.spaces c.in_ok-types.types c.requires.spaces c.requires.imports c.requires.functions c.in_ok-types.ensures;
      imported = imported_within m c.args.spaces c.requires.spaces;
    }
