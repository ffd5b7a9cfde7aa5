use Rattle.wdecode.proofs.OneRead.{opens_block, opens_loop, opens_if}
use Rattle.wdecode.proofs.frequent.block_start.Goals as goal

pub returns-in-2 : goal.returns-in-2
returns-in-2 c = opens_block c.args.byte c.args.bytes.now c.in_ok-block.rest.now c.in_ok-block.block c.in-2.is c.in_ok-block.ensures

pub returns-in-3 : goal.returns-in-3
returns-in-3 c = opens_loop c.args.byte c.args.bytes.now c.in_ok-block.rest.now c.in_ok-block.block c.in-3.is c.in_ok-block.ensures

pub returns-in-4 : goal.returns-in-4
returns-in-4 c = opens_if c.args.byte c.args.bytes.now c.in_ok-block.rest.now c.in_ok-block.block c.in-4.is c.in_ok-block.ensures
