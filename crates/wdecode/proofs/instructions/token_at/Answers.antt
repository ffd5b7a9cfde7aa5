use Rattle.std.proofs.Common.{[], ◌++◌}
use Rattle.wsyntax.specs.Modules.{decoded_as}
use Rattle.wdecode.proofs.FlatLoop.{token_shorter}
use Rattle.wdecode.proofs.instructions.token_at.Goals as goal

pub returns-in-Ok-clause-shorter : goal.returns-in-Ok-clause-shorter
returns-in-Ok-clause-shorter c = token_shorter c.args.bytes.now (decoded_as (c.front_token.new.targets.items ++ []) c.in-Ok.token) c.in-Ok.rest.now (c.in-Ok.ensures.ok.2 [])
