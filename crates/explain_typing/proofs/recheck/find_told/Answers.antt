use Rattle.std.proofs.Common.{◌+◌, ◌-◌, length, subst, sym, List, ℕ, IfSome}
use Rattle.wsyntax.specs.Modules.{decoded_as}
use Rattle.explain_typing.specs.Causes.{IsCause, IsCauseOf}
use Rattle.explain_typing.specs.Typed.{ArePassed, IsTypingIn}
use Rattle.explain_typing.proofs.Misses.{refused}
use Rattle.explain_typing.proofs.Misfits.{some_more}
use Rattle.explain_typing.proofs.Openings.{kept_told}
use Rattle.explain_typing.proofs.Typings.{from_beginning}
use Rattle.explain_typing.proofs.recheck.find_told.Goals as goal

pub returns-clause-found : goal.returns-clause-found
returns-clause-found c =
    (c.in_ok-rest.rest.now, (c.in_ok-runs.runs.items, c.in_ok-runs.code.now, c.in_ok-runs.ensures, c.in_ok-rest.ensures.left), c.in_ok-found.ensures)

pub returns-clause-typing : goal.returns-clause-typing
returns-clause-typing c =
    let C = c.args.context.now.context in
    let runs = c.in_ok-runs.runs.items in
    let code = c.in_ok-runs.code.now in
    let now = c.pass_tokens.new.checker in
    let f = c.in_ok-found.found in
    record {
      runs = runs;
      code = code;
      declared = c.in_ok-runs.ensures;
      now = now;
      before = from_beginning C c.new-checker.result.outside c.args.func runs c.deref.result.now code c.args.position c.begin.new.self now
          c.in_ok-rest.ensures.passed c.in_ok-begin.ensures.begun c.new-checker.ensures.outside c.deref.ensures.value;
      left = c.in_ok-rest.rest.now;
      rest = c.in_ok-rest.ensures.left;
      token = decoded_as f.targets.items f.token;
      after = c.in_ok-found.ensures.after;
      next = c.in_ok-found.ensures.token;
      so = subst (λ (ts : List ℕ). IsTypingIn now.inside (decoded_as ts f.token) now.frames c.in_ok-typing.typing) c.deref-2.ensures.value c.in_ok-typing.ensures.typing;
      openings = kept_told c.new-trail.result c.pass_tokens.new.trail code c.in-Some.begins (c.args.start + (length c.args.body.now - length code)) c.args.position c.in_ok-typing.typing.within.items
          c.new-trail.ensures.code c.new-trail.ensures.start c.in-Some.ensures c.in_ok-rest.ensures.same c.in_ok-rest.ensures.opened c.in_ok-typing.ensures.openings;
      passed = subst (λ (ps : _). ArePassed c.args.body.now c.args.start c.args.position c.args.position ps.items) (sym c.in_ok-typing.ensures.passed) c.in_ok-rest.ensures.last;
    }

pub returns-clause-cause : goal.returns-clause-cause
returns-clause-cause c =
    let C = c.args.context.now.context in
    let runs = c.in_ok-runs.runs.items in
    let code = c.in_ok-runs.code.now in
    let now = c.pass_tokens.new.checker in
    let f = c.in_ok-found.found in
    let why = subst (λ (ts : List ℕ). IfSome c.in_ok-typing.cause (IsCause now.inside (decoded_as ts f.token) now.frames)) c.deref-2.ensures.value c.in_ok-typing.ensures.cause in
    some_more (IsCause now.inside (decoded_as f.targets.items f.token) now.frames) (IsCauseOf C c.args.func c.args.body.now c.args.position) c.in_ok-typing.cause (λ x p. record {
      runs = runs;
      code = code;
      declared = c.in_ok-runs.ensures;
      now = now;
      before = from_beginning C c.new-checker.result.outside c.args.func runs c.deref.result.now code c.args.position c.begin.new.self now
          c.in_ok-rest.ensures.passed c.in_ok-begin.ensures.begun c.new-checker.ensures.outside c.deref.ensures.value;
      left = c.in_ok-rest.rest.now;
      rest = c.in_ok-rest.ensures.left;
      token = decoded_as f.targets.items f.token;
      after = c.in_ok-found.ensures.after;
      next = c.in_ok-found.ensures.token;
      so = p;
      refused = refused now.inside (decoded_as f.targets.items f.token) now.frames x p;
    }) why
