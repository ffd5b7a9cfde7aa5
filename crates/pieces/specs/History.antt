-- The history of the mark: a register that keeps the least index.
-- One legal history has the calls of all shares, as often as they were made. What is read never rises.
use Rattle.std.specs.Prelude.{◌≡◌, ℕ, ◌≤◌, ◌==◌, min, if◌then◌else◌, Option, Some, None, List, [], ◌∷◌, ◌++◌}
use mathlib.Core.List.{IsPrefix}
use Rattle.pieces.specs.declared.history.MarkCall.{MarkCall}
use Rattle.pieces.specs.declared.history.MarkCall.TheVariants.{Lowered, Found}
use Rattle.pieces.specs.declared.views.MarkView.{MarkView}

-- the register, which had m, after an index is lowered
abbrev pub lower : Option ℕ → ℕ → Option ℕ
lower None i = Some i
lower (Some m) i = Some (min m i)

-- the register, which had m, after these calls
abbrev pub register : Option ℕ → List MarkCall → Option ℕ
register m [] = m
register m (Lowered i ∷ ds) = register (lower m i) ds
register m (Found r ∷ ds) = register m ds

-- the register had m, and each read gives what it then has
abbrev pub IsLegal : Option ℕ → List MarkCall → Type 0
IsLegal m [] = Unit {0}
IsLegal m (Lowered i ∷ ds) = IsLegal (lower m i) ds
IsLegal m (Found r ∷ ds) = (r ≡ m) × IsLegal m ds

-- r is no greater than s, where a register that nothing has lowered is above every index
abbrev pub IsAtMost : Option ℕ → Option ℕ → Type 0
IsAtMost None None = Unit {0}
IsAtMost None (Some n) = ⊥
IsAtMost (Some m) None = Unit {0}
IsAtMost (Some m) (Some n) = m ≤ n

-- a read gives no more than one that stands before it
abbrev pub NeverRises : List MarkCall → Type 0
NeverRises history =
    (before between after : List MarkCall) (first second : Option ℕ)
    → history ≡ before ++ Found first ∷ (between ++ Found second ∷ after) → IsAtMost second first

-- how often the calls lower m, and how often they find it
abbrev pub is_lowered : ℕ → MarkCall → ℕ
is_lowered m (Lowered i) = if i == m then 1 else 0
is_lowered m (Found r) = 0

-- 1 where the call found the index, else 0
abbrev pub is_found : ℕ → MarkCall → ℕ
is_found m (Lowered i) = 0
is_found m (Found None) = 0
is_found m (Found (Some i)) = if i == m then 1 else 0

-- each of these lists begins the history
abbrev pub EachBegins : List (List MarkCall) → List MarkCall → Type 0
EachBegins [] log = Unit {0}
EachBegins (s ∷ ss) log = IsPrefix s log × EachBegins ss log

-- After a call the share has seen a legal history that begins with all that it had seen before, and ends with the call,
-- which is one more of its own.
pub record Extends (v : MarkView) (d : MarkCall) (w : MarkView) : Type 0 where
  pub between : List MarkCall
  pub seen : w.seen ≡ (v.seen ++ between) ++ d ∷ []
  pub legal : IsLegal None w.seen
  pub made : w.made ≡ v.made ++ d ∷ []
  pub parts : w.parts ≡ v.parts
  pub others : w.others ≡ v.others
