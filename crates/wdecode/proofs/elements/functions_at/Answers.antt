use Rattle.std.proofs.Common.{List, [], ◌∷◌, ◌++◌, sym, ap, ◌∙◌}
use Rattle.std.proofs.lemmas.Result.{err_from_is_err_and}
use Rattle.wsyntax.specs.HeldElement.{HeldElement}
use Rattle.wsyntax.specs.Elements.{with_function}
use Rattle.wsyntax.specs.Binary.Production.{times_at}
use Rattle.wsyntax.specs.Binary.Values.{u32}
use Rattle.wdecode.proofs.Loop.{goes_on, ends, is_done}
use Rattle.wdecode.proofs.Segments.{more_functions}
use Rattle.wdecode.proofs.elements.functions_at.Goals as goal

pub returns-in_err-function : goal.returns-in_err-function
returns-in_err-function c =
    let p = err_from_is_err_and c.from_residual.result c.from_residual.ensures.1 in
    rw (p.1, p.2) (ends u32.read c.in_err-function.field-0.0 c.loop.invariant.0 c.args.count c.loop.counter c.loop.rest.now (times_at u32.read c.args.count c.args.bytes.now) c.loop-test.true c.in_err-function.ensures c.loop.invariant.2)

pub loop-preserved : goal.loop-preserved
loop-preserved c =
    let i = c.loop.invariant in
    let n = c.in_ok-function.function in (
      i.0 ++ n ∷ [],
      c.in_ok-push_function.ensures ∙ ap (λ (es : List HeldElement). with_function es n) i.1 ∙ sym (more_functions c.args.elements.now i.0 n),
      goes_on u32.read i.0 c.args.count c.loop.counter c.loop.rest.now n c.in_ok-function.after.now (times_at u32.read c.args.count c.args.bytes.now) c.loop-test.true c.in_ok-function.ensures i.2,
    )

pub returns : goal.returns
returns c =
    let i = c.loop.invariant in (i.0, is_done u32.read i.0 c.args.count c.loop.counter c.loop.rest.now (times_at u32.read c.args.count c.args.bytes.now) c.loop-test.false i.2, i.1)
