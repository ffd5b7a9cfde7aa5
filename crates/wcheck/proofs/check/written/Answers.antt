use Rattle.std.specs.Vec.{with_items}
use Rattle.std.proofs.Common.{[], length, refl}
use Rattle.wcheck.proofs.Unresolved.{closes_same, lies_same, written_back}
use Rattle.wcheck.proofs.check.written.Goals as goal

pub invariant_of-code : goal.invariant_of-code
invariant_of-code c =
    let code = c.args.body.code in
    let tokens = (with_items code.tokens c.write_into.new.tokens).items in
    let same = written_back code.tokens c.deref_mut.result.now c.write_into.new.tokens c.write_into.ensures.same c.deref_mut.ensures.value c.deref_mut.ensures.len in
    record {
      closed = closes_same [] tokens code.tokens.items same code.closed;
      within = lies_same (length code.targets.items) tokens code.tokens.items same code.within;
    }

pub returns-clause-unresolved : goal.returns-clause-unresolved
returns-clause-unresolved c =
    record {
      runs = refl;
      targets = refl;
      tokens = written_back c.args.body.code.tokens c.deref_mut.result.now c.write_into.new.tokens c.write_into.ensures.same c.deref_mut.ensures.value c.deref_mut.ensures.len;
    }
