use Rattle.std.proofs.Common.{◌++◌, codes, map}
use Rattle.std.specs.List.{AllWithin}
use Rattle.command.specs.Options.{LacksOption}
use Rattle.command.proofs.option_values.option_text.Given as goal

-- no word so far begins with the option
abbrev pub invariant-loop-i : goal.invariant-loop-i
invariant-loop-i l = AllWithin (LacksOption (codes "--" ++ l.name)) (map (λ w. w.now) l.words) 0 l.i
