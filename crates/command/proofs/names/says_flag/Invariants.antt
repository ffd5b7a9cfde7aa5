use Rattle.std.proofs.Common.{◌≡◌, drop, map}
use Rattle.std.specs.List.{list_any}
use Rattle.command.specs.Names.{is_flag}
use Rattle.command.proofs.names.says_flag.Given as goal

-- no word so far says it
abbrev pub invariant-loop-word : goal.invariant-loop-word
invariant-loop-word l = list_any (is_flag l.long l.letter) (map (λ w. w.now) (drop l.word-index l.options)) ≡ list_any (is_flag l.long l.letter) (map (λ w. w.now) l.options)
