use Rattle.std.proofs.Common.{ap, subst, sym, ◌∙◌}
use Rattle.wsyntax.specs.Modules.{body_shape}
use Rattle.wsyntax.specs.Execution.Start.{body_has_floats}
use Rattle.wcheck.specs.Kept.{KeepsBody}
use Rattle.wcheck.proofs.Unresolved.{shape_same}
use Rattle.wcheck.proofs.Verdicts.{PassLaws, written_of, passed_typed, passed_fits, checked_of}
use Rattle.wcheck.proofs.check.keep_body.Goals as goal

pub new-requires : goal.new-requires
new-requires c =
    let C = c.args.checker.now.outside in
    let b = c.args.body in
    let w = c.in-Ok.field-0 in
    let same = shape_same b w.body c.in-Ok.ensures.unresolved in
    let passed = written_of c.written_fills.ensures C c.args.func b w.body c.args.builder c.args.has_floats w.table c.requires.passed same c.in-Ok.ensures.written in
    let laws : PassLaws = record { typed = c.accepted_is_typed.ensures; algorithm = c.pass_is_algorithm.ensures; code = c.passed_is_code.ensures; fits = c.passed_fits.ensures; bounded = c.passed_bounded.ensures } in
    ∣ (C, c.args.func, checked_of laws C c.args.func w.body c.args.builder.notes w.table c.args.has_floats c.requires.func passed (c.requires.passed.recorded ∙ ap body_has_floats (sym same))) ∣₁

pub returns-in-Ok-clause-kept : goal.returns-in-Ok-clause-kept
returns-in-Ok-clause-kept c = ap body_shape c.new.ensures.body ∙ shape_same c.args.body c.in-Ok.field-0.body c.in-Ok.ensures.unresolved

pub returns-in-Ok-clause-unresolved : goal.returns-in-Ok-clause-unresolved
returns-in-Ok-clause-unresolved c = subst (λ b. KeepsBody c.args.body b) (sym c.new.ensures.body) c.in-Ok.ensures.unresolved

pub returns-in-Ok-clause-typed : goal.returns-in-Ok-clause-typed
returns-in-Ok-clause-typed c =
    let C = c.args.checker.now.outside in
    let b = c.args.body in
    let w = c.in-Ok.field-0 in
    let same = shape_same b w.body c.in-Ok.ensures.unresolved in
    let passed = written_of c.written_fills.ensures C c.args.func b w.body c.args.builder c.args.has_floats w.table c.requires.passed same c.in-Ok.ensures.written in
    let laws : PassLaws = record { typed = c.accepted_is_typed.ensures; algorithm = c.pass_is_algorithm.ensures; code = c.passed_is_code.ensures; fits = c.passed_fits.ensures; bounded = c.passed_bounded.ensures } in
    passed_typed laws C c.args.func c.new.result w.body c.args.builder.notes w.table passed c.new.ensures.body

pub returns-in-Ok-clause-fits : goal.returns-in-Ok-clause-fits
returns-in-Ok-clause-fits c =
    let C = c.args.checker.now.outside in
    let b = c.args.body in
    let w = c.in-Ok.field-0 in
    let same = shape_same b w.body c.in-Ok.ensures.unresolved in
    let passed = written_of c.written_fills.ensures C c.args.func b w.body c.args.builder c.args.has_floats w.table c.requires.passed same c.in-Ok.ensures.written in
    let laws : PassLaws = record { typed = c.accepted_is_typed.ensures; algorithm = c.pass_is_algorithm.ensures; code = c.passed_is_code.ensures; fits = c.passed_fits.ensures; bounded = c.passed_bounded.ensures } in
    passed_fits laws C c.args.func c.new.result w.body c.args.builder.notes w.table passed c.new.ensures.body c.new.ensures.table
