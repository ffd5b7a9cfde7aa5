-- What the counts of the code say.
use Rattle.std.specs.Prelude.{ℕ, ◌*◌, ◌^◌, ◌≤◌, List, ◌++◌, codes, decimal}
use Rattle.wsyntax.specs.Texts.Words.{newline}
use Rattle.wsyntax.specs.Texts.Report.{Tally}
use Rattle.batch_text.specs.declared.total.Total.{Total}

-- the tally that it holds
abbrev pub tally : Total → Tally
tally t = record { values = t.values; traps = t.traps; exhausted = t.exhausted; refused = t.refused; no_memory = t.no_memory; fuel = t.fuel }

-- no count is above that of the calls, of which each costs less than 2^32
pub record IsWithin (t : Total) : Type 0 where
  pub values : t.values ≤ t.calls
  pub traps : t.traps ≤ t.calls
  pub exhausted : t.exhausted ≤ t.calls
  pub refused : t.refused ≤ t.calls
  pub no_memory : t.no_memory ≤ t.calls
  pub fuel : t.fuel ≤ t.calls * 2 ^ 32

-- the last line for `calls` calls
abbrev pub total_text : ℕ → Tally → List ℕ
total_text calls t =
    codes "total " ++ (decimal calls ++ (codes " values " ++ (decimal t.values ++ (codes " traps " ++ (decimal t.traps
    ++ (codes " exhausted " ++ (decimal t.exhausted ++ (codes " refused " ++ (decimal t.refused ++ (codes " no-memory " ++ (decimal t.no_memory
    ++ (codes " fuel " ++ (decimal t.fuel ++ newline)))))))))))))
