use Rattle.std.proofs.Common.{◌≡◌, Some, subst}
use Rattle.explanation.specs.declared.shell_location.SectionPart.TheVariants as part
use Rattle.explain_bytes.specs.declared.shell.contents.ContentsEnd.{ContentsEnd}
use Rattle.explain_bytes.specs.declared.shell.contents.ContentsEnd.TheVariants as outcome
use Rattle.explain_bytes.specs.Shells.{Comes, after}
use Rattle.explain_bytes.proofs.Shells.{one_item_more}
use Rattle.explain_bytes.proofs.shell.contents.after_items.Goals as goal

pub returns-in-Stopped : goal.returns-in-Stopped
returns-in-Stopped c =
    let come : Comes (part.Item c.loop-position.position) (after c.args.items c.loop-position.rest.now) (outcome.Stopped c.in-Stopped.lapse) =
    subst (λ (o : ContentsEnd). Comes (part.Item c.loop-position.position) (after c.args.items c.loop-position.rest.now) o) c.in-Stopped.is
    (c.in_ok-after.ensures (after c.args.items c.loop-position.rest.now) c.after_item-read.ensures) in
    ((c.loop-position.position, c.loop-position.rest.now, come.0, c.loop-position-test.true, c.loop-position.invariant, come.1), come.2)

pub loop-position-preserved : goal.loop-position-preserved
loop-position-preserved c =
    let come : after c.args.items c.loop-position.rest.now ≡ Some c.in-After.after.now =
    subst (λ (o : ContentsEnd). Comes (part.Item c.loop-position.position) (after c.args.items c.loop-position.rest.now) o) c.in-After.is
    (c.in_ok-after.ensures (after c.args.items c.loop-position.rest.now) c.after_item-read.ensures) in
    one_item_more c.args.items c.loop-position.position c.args.bytes.now c.loop-position.rest.now c.in-After.after.now c.loop-position.invariant come
