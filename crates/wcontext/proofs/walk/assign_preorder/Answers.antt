use Rattle.wcontext.proofs.Walks.{linked_alike}
use Rattle.wcontext.proofs.walk.assign_preorder.Goals as goal

pub returns : goal.returns
returns c texts linked = c.in_ok-assign_counted.ensures texts (linked_alike texts c.args.nodes.now c.count_below.new.nodes c.count_below.ensures.links linked)
