use Rattle.std.proofs.Common.{◌≡◌, ◌⊎◌, ◌∙◌, ℕ, Ok, Err, inl, subst, sym, map, arith}
use Rattle.program.specs.declared.fault.ProgramFault.{ProgramFault}
use Rattle.program.specs.declared.fault.ProgramFault.TheVariants.{Usage, Unread, SomeUnread, Names, Write, Memory}
use Rattle.program.specs.Endings.{fault_status}
use Rattle.program.specs.Prints.{WritesAtOnce}
use Rattle.program.proofs.Printed.{calls_refusal, good, refusal}
use Rattle.program.proofs.PrintedAll.{short, silent}
use Rattle.program.proofs.obeying.run.Goals as goal

-- no fault has the status of a refusal
no_refusal : (f : ProgramFault) → fault_status f ≡ 2 → ⊥
no_refusal (Usage text) e = omega arith
no_refusal (Unread path reason) e = omega arith
no_refusal SomeUnread e = omega arith
no_refusal Names e = omega arith
no_refusal Write e = omega arith
no_refusal Memory e = omega arith

no_calls_refusal : (f : ProgramFault) → fault_status f ≡ 3 → ⊥
no_calls_refusal (Usage text) e = omega arith
no_calls_refusal (Unread path reason) e = omega arith
no_calls_refusal SomeUnread e = omega arith
no_calls_refusal Names e = omega arith
no_calls_refusal Write e = omega arith
no_calls_refusal Memory e = omega arith

-- nor that of what is good
no_acceptance : (f : ProgramFault) → fault_status f ≡ 0 → ⊥
no_acceptance (Usage text) e = omega arith
no_acceptance (Unread path reason) e = omega arith
no_acceptance SomeUnread e = omega arith
no_acceptance Names e = omega arith
no_acceptance Write e = omega arith
no_acceptance Memory e = omega arith

pub returns-in-Ok-obey-clause-accepted : goal.returns-in-Ok-obey-clause-accepted
returns-in-Ok-obey-clause-accepted g c e =
    good (map (λ w. w.now) c.args.words.now) c.in-Ok.request (g.S.Source.holds c.args.source.now) (g.S.Source.lists c.args.source.now) (g.S.Source.asked c.args.source.now) (g.S.Source.asked c.obey.new.source) (g.O.Write.contents c.args.out.now) (g.O.Write.contents c.obey.new.out) c.in-Ok-obey.status
    c.in-Ok.ensures.request c.in-Ok-obey.ensures.done c.in-Ok-obey.ensures.asked (sym c.exit_code.ensures ∙ e)

pub returns-in-Ok-obey-clause-refused : goal.returns-in-Ok-obey-clause-refused
returns-in-Ok-obey-clause-refused g c e =
    refusal (map (λ w. w.now) c.args.words.now) c.in-Ok.request (g.S.Source.holds c.args.source.now) (g.S.Source.lists c.args.source.now) (g.S.Source.asked c.args.source.now) (g.S.Source.asked c.obey.new.source) (g.O.Write.contents c.args.out.now) (g.O.Write.contents c.obey.new.out) c.in-Ok-obey.status
    c.in-Ok.ensures.request c.in-Ok-obey.ensures.done c.in-Ok-obey.ensures.asked (sym c.exit_code.ensures ∙ e)

pub returns-in-Ok-obey-clause-calls_refused : goal.returns-in-Ok-obey-clause-calls_refused
returns-in-Ok-obey-clause-calls_refused g c e =
    calls_refusal (map (λ w. w.now) c.args.words.now) c.in-Ok.request (g.S.Source.holds c.args.source.now) (g.S.Source.lists c.args.source.now) (g.S.Source.asked c.args.source.now) (g.S.Source.asked c.obey.new.source) (g.O.Write.contents c.args.out.now) (g.O.Write.contents c.obey.new.out) c.in-Ok-obey.status
    c.in-Ok.ensures.request c.in-Ok-obey.ensures.done c.in-Ok-obey.ensures.asked (sym c.exit_code.ensures ∙ e)

pub returns-in-Err-obey-clause-accepted : goal.returns-in-Err-obey-clause-accepted
returns-in-Err-obey-clause-accepted g c e = absurd (no_acceptance _ (sym c.end-in-Err-obey.ensures ∙ e))

pub returns-in-Err-obey-clause-refused : goal.returns-in-Err-obey-clause-refused
returns-in-Err-obey-clause-refused g c e = absurd (no_refusal _ (sym c.end-in-Err-obey.ensures ∙ e))

pub returns-in-Err-obey-clause-calls_refused : goal.returns-in-Err-obey-clause-calls_refused
returns-in-Err-obey-clause-calls_refused g c e = absurd (no_calls_refusal _ (sym c.end-in-Err-obey.ensures ∙ e))

pub returns-in-Ok-obey-clause-obeyed : goal.returns-in-Ok-obey-clause-obeyed
returns-in-Ok-obey-clause-obeyed g c = inl (c.in-Ok.request, Ok c.in-Ok-obey.status, c.in-Ok.ensures.request, c.in-Ok-obey.ensures.done, c.in-Ok-obey.ensures.asked, c.exit_code.ensures)

pub returns-in-Err-obey-clause-obeyed : goal.returns-in-Err-obey-clause-obeyed
returns-in-Err-obey-clause-obeyed g c = inl (c.in-Ok.request, Err c.in-Err-obey.fault, c.in-Ok.ensures.request, c.in-Err-obey.ensures.done, c.in-Err-obey.ensures.asked, c.end-in-Err-obey.ensures)

pub returns-in-Err-obey-clause-silent : goal.returns-in-Err-obey-clause-silent
returns-in-Err-obey-clause-silent g c e =
    silent (map (λ w. w.now) c.args.words.now) c.in-Ok.request (g.S.Source.holds c.args.source.now) (g.S.Source.lists c.args.source.now) (g.S.Source.asked c.args.source.now) (g.S.Source.asked c.obey.new.source) (g.O.Write.contents c.args.out.now) (g.O.Write.contents c.obey.new.out) c.in-Err-obey.fault
    c.in-Ok.ensures.request c.in-Err-obey.ensures.done (subst (λ (n : ℕ). (n ≡ 64) ⊎ ((n ≡ 70) × WritesAtOnce (map (λ w. w.now) c.args.words.now))) c.end-in-Err-obey.ensures e)

pub returns-in-Err-obey-clause-short : goal.returns-in-Err-obey-clause-short
returns-in-Err-obey-clause-short g c e =
    short (map (λ w. w.now) c.args.words.now) c.in-Ok.request (g.S.Source.holds c.args.source.now) (g.S.Source.lists c.args.source.now) (g.S.Source.asked c.args.source.now) (g.S.Source.asked c.obey.new.source) (g.O.Write.contents c.args.out.now) (g.O.Write.contents c.obey.new.out) c.in-Err-obey.fault
    c.in-Ok.ensures.request c.in-Err-obey.ensures.done (sym c.end-in-Err-obey.ensures ∙ e)
