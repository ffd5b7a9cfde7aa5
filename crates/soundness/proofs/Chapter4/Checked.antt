-- What the algorithm accepts is typed, for execution too.
use Rattle.std.specs.Prelude.{◌++◌}
use Rattle.wsyntax.specs.Validation.Context.{leave}
use Rattle.wsyntax.specs.Execution.Laws.{CheckedIsTyped}
use Rattle.soundness.proofs.Chapter3.Faults.{accepted_is_typed}

pub checked_is_typed : CheckedIsTyped
checked_is_typed C m h = record {
  same_types = h.same_types;
  same_functions = h.same_functions;
  each = λ f fn e. record {
    body = accepted_is_typed (record C { locals = (fn.func_type).params ++ fn.locals }) (leave fn.func_type) fn.body (h.accepted f fn e);
    integer = (h.integer f fn e).0;
    locals = (h.integer f fn e).1;
  };
}
