use Rattle.memory.proofs.Puts as puts
use Rattle.memory.proofs.bytes.put_64.Goals as goal

pub returns : goal.returns
returns c = puts.put_64 c.args.bytes.now c.args.at c.args.n c.requires
