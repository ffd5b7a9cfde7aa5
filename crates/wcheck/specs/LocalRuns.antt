-- Runs of declared locals with their ends.
use Rattle.std.specs.Prelude.{◌≡◌, ℕ, ◌+◌, ◌-◌, ◌^◌, min, List, [], ◌∷◌, ◌++◌}
use Rattle.wsyntax.specs.declared.LocalRun.{LocalRun}
use Rattle.wsyntax.specs.declared.ValType.{ValType}
use Rattle.wcheck.specs.declared.locals.EndedRun.{EndedRun}

abbrev pub run_of : EndedRun → LocalRun
run_of r = r.run

-- each run ends where the one before it, which ends at b, ends, and as many locals further, or at the greatest number
abbrev pub AreEnds : ℕ → List EndedRun → Type 0
AreEnds b [] = Unit {0}
AreEnds b (r ∷ rs) = (r.end ≡ min (b + r.run.count) (2 ^ 64 - 1)) × AreEnds r.end rs

-- some of these locals, from the first on
abbrev pub AreFirst : List ValType → List ValType → Type 0
AreFirst some all = (rest : List ValType) × (all ≡ some ++ rest)
