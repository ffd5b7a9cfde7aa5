use Rattle.explain_typing.proofs.Misses.{lacks}
use Rattle.explain_typing.proofs.causes.end_cause.Goals as goal

pub returns-then-differ : goal.returns-then-differ
returns-then-differ c = λ C fs i.
    lacks c.args.frame fs record { params = c.in_ok-from_slice.field-0; results = c.in_ok-from_slice-2.field-0 } c.args.is_end c.if-is_end.true c.if-frame.true (c.differ.ensures c.if-differ.true)
    c.in_ok-from_slice.ensures.items c.in_ok-from_slice-2.ensures.items i
