use Rattle.std.proofs.Common.{map}
use Rattle.command.specs.Options.{SaysLimits}
use Rattle.command.proofs.Limits.{limits_kept}
use Rattle.command.proofs.matched.settings_of.Goals as goal

pub returns : goal.returns
returns c = limits_kept (SaysLimits (map (λ w. w.now) c.args.words.now)) c.new.result c.in_ok-fuel.fuel c.in_ok-frames.frames c.in_ok-pages.pages c.new.ensures (c.in_ok-fuel.ensures, (c.in_ok-frames.ensures, c.in_ok-pages.ensures))
