use Rattle.std.proofs.Common.{◌≡◌, ◌++◌, ◌∷◌, [], map}
use Rattle.std.proofs.lemmas.Result.{err_from_is_err_and}
use Rattle.std.proofs.lemmas.List.{map_push}
use Rattle.wsyntax.specs.Binary.Production.{times_at}
use Rattle.wdecode.proofs.Loop.{goes_on, ends, is_done}
use Rattle.wdecode.proofs.values.times_into.Goals as goal

pub returns-in_err-item : goal.returns-in_err-item
returns-in_err-item g c =
    let p = err_from_is_err_and c.from_residual-in_err-item.result c.from_residual-in_err-item.ensures.1 in
    rw (p.1, p.2) (ends g.T.Item.at c.in_err-item.field-0.0 (map g.T.Item.shape c.loop.items.items) c.args.count c.loop.counter c.loop.rest.now (times_at g.T.Item.at c.args.count c.args.bytes.now) c.loop-test.true c.in_err-item.ensures c.loop.invariant)

pub loop-preserved : goal.loop-preserved
loop-preserved g c =
    let n = c.in_ok-item.item in
    let e : map g.T.Item.shape c.push.new.self.items ≡ map g.T.Item.shape c.loop.items.items ++ g.T.Item.shape n ∷ [] = rw c.in_ok-push.ensures.items (map_push _ c.loop.items.items n) in
    rw e (goes_on g.T.Item.at (map g.T.Item.shape c.loop.items.items) c.args.count c.loop.counter c.loop.rest.now (g.T.Item.shape n) c.in_ok-item.after.now (times_at g.T.Item.at c.args.count c.args.bytes.now) c.loop-test.true c.in_ok-item.ensures c.loop.invariant)

pub returns : goal.returns
returns g c = is_done g.T.Item.at (map g.T.Item.shape c.loop.items.items) c.args.count c.loop.counter c.loop.rest.now (times_at g.T.Item.at c.args.count c.args.bytes.now) c.loop-test.false c.loop.invariant
