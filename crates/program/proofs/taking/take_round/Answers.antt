use Rattle.std.proofs.Common.{ℕ, ◌+◌, List, [], Bor, map, rules, ◌∙◌}
use Rattle.program.proofs.Rounds.{any_err, paths_next, round_paths, round_taken, taken_next}
use Rattle.program.proofs.taking.take_round.Goals as goal

pub returns-in_err-one-clause-begun : goal.returns-in_err-one-clause-begun
returns-in_err-one-clause-begun g c =
    let none : Bor (List ℕ) = record { ref_ptr = (0, 0); now = [] } in
    any_err c.from_residual.result (c.loop-i.i + 1, paths_next (g.S.Source.asked c.args.source.now) (g.S.Source.asked c.loop-i.source) (g.S.Source.asked c.take_file.new.source) c.args.names.now c.loop-i.i none c.loop-i-test.true c.loop-i.invariant.logged c.take_file.ensures.logged)

pub returns-in_err-push-clause-begun : goal.returns-in_err-push-clause-begun
returns-in_err-push-clause-begun g c =
    let none : Bor (List ℕ) = record { ref_ptr = (0, 0); now = [] } in
    any_err c.from_residual-in_err-push.result (c.loop-i.i + 1, paths_next (g.S.Source.asked c.args.source.now) (g.S.Source.asked c.loop-i.source) (g.S.Source.asked c.take_file.new.source) c.args.names.now c.loop-i.i none c.loop-i-test.true c.loop-i.invariant.logged c.take_file.ensures.logged)

pub returns-then-room-eq0-clause-taken : goal.returns-then-room-eq0-clause-taken
returns-then-room-eq0-clause-taken g c =
    let none : Bor (List ℕ) = record { ref_ptr = (0, 0); now = [] } in
    round_taken (g.S.Source.holds c.args.source.now) (map (λ n. n.now) c.args.names.now) c.loop-i.taken.items c.push.new.self.items c.in_ok-one.one c.loop-i.i c.in_ok-push.ensures.items c.loop-i.invariant.count
    (taken_next (g.S.Source.holds c.args.source.now) (g.S.Source.holds c.loop-i.source) c.args.names.now c.loop-i.i none c.loop-i.taken.items c.in_ok-one.one c.loop-i-test.true c.loop-i.invariant.same c.loop-i.invariant.taken c.in_ok-one.ensures.taken)

pub returns-then-room-eq0-clause-logged : goal.returns-then-room-eq0-clause-logged
returns-then-room-eq0-clause-logged g c =
    let none : Bor (List ℕ) = record { ref_ptr = (0, 0); now = [] } in
    round_paths (g.S.Source.asked c.args.source.now) (g.S.Source.asked c.take_file.new.source) (map (λ n. n.now) c.args.names.now) c.loop-i.taken.items c.push.new.self.items c.in_ok-one.one c.loop-i.i c.in_ok-push.ensures.items c.loop-i.invariant.count
    (paths_next (g.S.Source.asked c.args.source.now) (g.S.Source.asked c.loop-i.source) (g.S.Source.asked c.take_file.new.source) c.args.names.now c.loop-i.i none c.loop-i-test.true c.loop-i.invariant.logged c.take_file.ensures.logged)

pub loop-i-preserved : goal.loop-i-preserved
loop-i-preserved g c =
    let none : Bor (List ℕ) = record { ref_ptr = (0, 0); now = [] } in
    let items = c.in_ok-push.ensures.items in
    record {
      taken = rw items (taken_next (g.S.Source.holds c.args.source.now) (g.S.Source.holds c.loop-i.source) c.args.names.now c.loop-i.i none c.loop-i.taken.items c.in_ok-one.one c.loop-i-test.true c.loop-i.invariant.same c.loop-i.invariant.taken c.in_ok-one.ensures.taken);
      count = search rules;
      few = search rules;
      same = λ other. c.take_file.ensures.same other ∙ c.loop-i.invariant.same other;
      logged = paths_next (g.S.Source.asked c.args.source.now) (g.S.Source.asked c.loop-i.source) (g.S.Source.asked c.take_file.new.source) c.args.names.now c.loop-i.i none c.loop-i-test.true c.loop-i.invariant.logged c.take_file.ensures.logged;
    }
