use Rattle.std.proofs.Common.{map}
use Rattle.command.specs.Options.{SaysPlan}
use Rattle.command.proofs.Limits.{plan_kept}
use Rattle.command.proofs.matched.plan_of.Goals as goal

pub returns : goal.returns
returns c = plan_kept (SaysPlan (map (λ w. w.now) c.args.words.now)) c.new.result c.in_ok-workers.workers c.in_ok-piece.piece c.new.ensures.some (c.in_ok-workers.ensures, c.in_ok-piece.ensures)
