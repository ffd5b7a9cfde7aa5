use Rattle.std.proofs.Common.{◌-◌, ◌+◌, ◌++◌, ◌∷◌, [], Some, ◌∙◌, ap, sym, append-nil, append_assoc}
use Rattle.explain_typing.specs.Typed.{topmost}
use Rattle.explain_typing.proofs.Typings.{one_taken, none_taken, taken_types}
use Rattle.explain_typing.proofs.operands.taken.Goals as goal

pub returns-in_default-clause-taken : goal.returns-in_default-clause-taken
returns-in_default-clause-taken c =
    let l = c.loop-at in
    sym (append-nil l.operands.items)
    ∙ ap (λ z. l.operands.items ++ z) (sym (none_taken l.checker.frames c.pop_operand.new.self.frames (c.args.count - l.at) c.in_default.ensures.taken))
    ∙ l.invariant.taken

pub loop-at-preserved : goal.loop-at-preserved
loop-at-preserved c =
    let l = c.loop-at in
    let fs = c.pop_operand.new.self.frames in
    let x = c.in-Some.operand in
    record {
      taken = ap (λ z. z ++ topmost (c.args.count - (l.at + 1)) fs) c.in_ok-push.ensures.items
          ∙ append_assoc l.operands.items (x ∷ []) (topmost (c.args.count - (l.at + 1)) fs)
          ∙ ap (λ z. l.operands.items ++ z) (sym (one_taken l.checker.frames fs x l.at c.args.count c.loop-at-test.true c.in-Some.ensures.taken))
          ∙ l.invariant.taken;
      types = taken_types l.checker.frames fs (Some x) c.in-Some.ensures.taken ∙ l.invariant.types;
    }
