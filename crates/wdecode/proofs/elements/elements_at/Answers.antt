use Rattle.std.proofs.Common.{◌≡◌, [], ◌∷◌, ◌++◌, map}
use Rattle.std.proofs.lemmas.List.{map_push}
use Rattle.wsyntax.specs.Modules.{element_shape}
use Rattle.wsyntax.specs.Binary.Production.{times_at}
use Rattle.wsyntax.specs.Binary.Sections.{element}
use Rattle.wdecode.proofs.Loop.{goes_on}
use Rattle.wdecode.proofs.elements.elements_at.Goals as goal

pub loop-preserved : goal.loop-preserved
loop-preserved c =
    let g = c.in_ok-rest.ensures in
    let e : map element_shape c.element_at.new.elements ≡ map element_shape c.loop.elements ++ element_shape g.0 ∷ [] = rw g.2 (map_push element_shape c.loop.elements g.0) in
    rw e (goes_on element.read (map element_shape c.loop.elements) c.args.count c.loop.counter c.loop.rest.now (element_shape g.0) c.in_ok-rest.rest.now (times_at element.read c.args.count c.args.bytes.now) c.loop-test.true g.1 c.loop.invariant)
