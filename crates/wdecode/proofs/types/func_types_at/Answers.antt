use Rattle.std.proofs.Common.{◌≡◌, ◌++◌, ◌∷◌, [], ap, ◌∙◌}
use Rattle.wsyntax.specs.Types.{FuncType}
use Rattle.wsyntax.specs.Binary.Production.{times_at}
use Rattle.wsyntax.specs.Binary.Types.{func_type}
use Rattle.wdecode.specs.Held.{type_of}
use Rattle.wdecode.proofs.Loop.{goes_on}
use Rattle.wdecode.proofs.types.func_types_at.Goals as goal

pub loop-preserved : goal.loop-preserved
loop-preserved c =
    let t : FuncType = type_of c.in_ok-params.params.items c.in_ok-params.results.items in
    let pushed : c.push.new.self ≡ c.loop.types ++ t ∷ [] = c.in_ok-push.ensures ∙ ap (λ r. c.loop.types ++ type_of c.deref.result.now r ∷ []) c.deref-in-loop.ensures.value ∙ ap (λ p. c.loop.types ++ type_of p c.in_ok-params.results.items ∷ []) c.deref.ensures.value in
    rw pushed (goes_on func_type.read c.loop.types c.args.count c.loop.counter c.loop.rest.now t c.in_ok-params.after.now (times_at func_type.read c.args.count c.args.bytes.now) c.loop-test.true c.in_ok-params.ensures c.loop.invariant)
