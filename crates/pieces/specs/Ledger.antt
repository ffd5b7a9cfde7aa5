-- The ledger: what all shares of one bag and one mark did.
-- No piece is taken twice, only the bag's pieces are taken, and all of them where one share met the end (crates/pieces/README.md).
use Rattle.std.specs.Prelude.{◌≡◌, ℕ, ◌<◌, ◌≤◌, Bool, true, false, ◌||◌, None, List, [], ◌∷◌, ◌++◌, map}
use Rattle.pieces.specs.declared.history.MarkCall.{MarkCall}
use Rattle.pieces.specs.declared.share.Share.{Share}
use Rattle.pieces.specs.Counting.{total, times}
use Rattle.pieces.specs.History.{IsLegal, NeverRises, EachBegins, is_found, is_lowered}
use Rattle.pieces.specs.Shares.{taken, own_calls, seen}

-- what one share did: the pieces that it took, whether it met the end of the bag, its calls on the mark,
-- and how far it saw the history of all calls
pub record Log : Type 0 where
  pub took : List ℕ
  pub met : Bool
  pub did : List MarkCall
  pub saw : List MarkCall

-- what this share did
abbrev pub log_of : Share → Log
log_of s = record { took = taken s; met = s.met; did = own_calls s; saw = seen s }

-- the pieces that these shares took, together
abbrev pub ledger : List Log → List ℕ
ledger [] = []
ledger (l ∷ ls) = l.took ++ ledger ls

-- their calls on the mark, together
abbrev pub calls : List Log → List MarkCall
calls [] = []
calls (l ∷ ls) = l.did ++ calls ls

-- whether one of these shares has met the end of the bag
abbrev pub any_met : List Log → Bool
any_met [] = false
any_met (l ∷ ls) = l.met || any_met ls

-- some share lowered the index
abbrev pub WasLowered : ℕ → List Log → Type 0
WasLowered i logs = 0 < total (is_lowered i) (calls logs)

-- some read found the index
abbrev pub WasFound : ℕ → List Log → Type 0
WasFound i logs = 0 < total (is_found i) (calls logs)

-- One legal history of the register has the calls of all shares, each once, however they are weighed; it begins with all that any share
-- has seen; and what is read in it never rises.
pub record IsHistory (logs : List Log) : Type 0 where
  pub history : List MarkCall
  pub legal : IsLegal None history
  pub each : (h : MarkCall → ℕ) → total h history ≡ total h (calls logs)
  pub begins : EachBegins (map (λ l. l.saw) logs) history
  pub falls : NeverRises history

-- What holds of all shares of a bag that began with `count` pieces: no piece was taken twice; only the bag's pieces were taken, and all
-- of them where a share has met the end; the calls on the mark have one history; and what was found was lowered.
pub record Settles (count : ℕ) (logs : List Log) : Type 0 where
  pub once : (x : ℕ) → times x (ledger logs) ≤ 1
  pub inside : (x : ℕ) → 0 < times x (ledger logs) → x < count
  pub every : any_met logs ≡ true → (x : ℕ) → x < count → times x (ledger logs) ≡ 1
  pub history : IsHistory logs
  pub lowered : (i : ℕ) → WasFound i logs → WasLowered i logs
