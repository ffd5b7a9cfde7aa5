use Rattle.std.proofs.Common.{◌≡◌, [], false, codes, map, ℕ, ◌<◌, get_or}
use Rattle.std.specs.Str.{bytes_eq}
use Rattle.command.proofs.option_values.option_words.Given as goal

-- no word so far is `--`
abbrev pub invariant-loop-i : goal.invariant-loop-i
invariant-loop-i l = (k : ℕ) → k < l.i → bytes_eq (get_or (map (λ w. w.now) l.words) k []) (codes "--") ≡ false
