use Rattle.memory.proofs.Puts as puts
use Rattle.memory.proofs.bytes.put_32.Goals as goal

pub returns : goal.returns
returns c = puts.put_32 c.args.bytes.now c.args.at c.args.n c.requires
