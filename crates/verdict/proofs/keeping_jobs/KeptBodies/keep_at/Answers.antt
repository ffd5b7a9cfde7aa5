use Rattle.verdict.proofs.KeptAt.{kept_at}
use Rattle.verdict.proofs.keeping_jobs.KeptBodies.keep_at.Goals as goal

pub returns-clause-verdict : goal.returns-clause-verdict
returns-clause-verdict g c =
    kept_at c.args.self.now.context.now.context c.args.checker.now.outside c.args.self.now.imported c.args.position c.args.self.now.bodies.now _ c.checked_body.result c.requires.outside c.requires.position c.checked_body.ensures.verdict
