use Rattle.std.proofs.Common.{refl}
use Rattle.wcontext.proofs.Links.{nodes_kept}
use Rattle.wcontext.proofs.nodes.Nodes.start_level.Goals as goal

pub returns : goal.returns
returns c texts are = nodes_kept texts c.args.self.now _ refl refl (λ q. refl) are.aboves are
