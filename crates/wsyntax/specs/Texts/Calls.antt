-- The text of calls: one line a call, each ended by a newline.
use Rattle.std.specs.Prelude.{◌≡◌, ◌≢◌, ℕ, suc, ◌<◌, ◌≤◌, List, [], ◌∷◌, ◌++◌, length, All, flat_map, slice_get, Some, ◌==◌, if◌then◌else◌}
use Rattle.wsyntax.specs.Execution.Values.{Value, AreWords}
use Rattle.wsyntax.specs.Texts.Words.{tab, value_text}

-- the name of an export, and arguments
pub record Call : Type 0 where
  pub name : List ℕ
  pub args : List Value

-- a name has any bytes but tab and newline, and may be empty
abbrev pub IsName : List ℕ → Type 0
IsName name = All (λ b. (b ≢ 0x09) × (b ≢ 0x0A)) name

-- a call that a line can say
pub record IsCall (c : Call) : Type 0 where
  pub name : IsName c.name
  pub words : AreWords c.args

-- the line of a call without the newline: the name, and then for each argument a tab and its value. So a number has no needless zero in front, and zero has no sign
abbrev pub call_text : Call → List ℕ
call_text c = c.name ++ flat_map (λ v. tab ++ value_text v) c.args

-- a line of the text, or what stands after the last newline
pub data TextLine : Type 0 where
  Ended Unended : List ℕ → TextLine

-- a byte in front of the first line
abbrev pub onto : ℕ → List TextLine → List TextLine
onto b [] = Unended (b ∷ []) ∷ []
onto b (Ended line ∷ lines) = Ended (b ∷ line) ∷ lines
onto b (Unended line ∷ lines) = Unended (b ∷ line) ∷ lines

-- the lines of the text, and what stands after the last newline
abbrev pub lines_of : List ℕ → List TextLine
lines_of [] = []
lines_of (b ∷ text) = if b == 0x0A then Ended [] ∷ lines_of text else onto b (lines_of text)

-- the most bytes of a text of calls
abbrev pub calls_limit : ℕ
calls_limit = 4194304

-- the most lines of a text of calls
abbrev pub line_limit : ℕ
line_limit = 100000

-- the line says this call
abbrev pub Says : TextLine → Call → Type 0
Says (Ended line) c = IsCall c × (line ≡ call_text c)
Says (Unended line) c = ⊥

-- line k, the first being 1, says a call, and there may be k lines
abbrev pub IsGood : ℕ → TextLine → Type 0
IsGood k line = (k ≤ line_limit) × ((c : Call) × Says line c)

-- the lines say these calls, one a line
abbrev pub SayAll : List TextLine → List Call → Type 0
SayAll [] [] = Unit {0}
SayAll (line ∷ lines) (c ∷ calls) = Says line c × SayAll lines calls
SayAll _ _ = ⊥

-- what a text of calls is: too long, bad from a line on, or these calls
pub data CallsText : Type 0 where
  TooLong : CallsText
  -- the least bad line, from 1
  BadLine : ℕ → CallsText
  Good : List Call → CallsText

-- the least bad line
pub record LeastBad (text : List ℕ) (k : ℕ) : Type 0 where
  pub position : ℕ
  pub line : TextLine
  pub number : k ≡ suc position
  pub stands : slice_get (lines_of text) position ≡ Some line
  pub bad : IsGood k line → ⊥
  pub before : (j : ℕ) (other : TextLine) → j < position → slice_get (lines_of text) j ≡ Some other → IsGood (suc j) other

-- what a text of calls is: too long goes first, then the least bad line, else the calls that it says
unfoldable pub IsCalls : List ℕ → CallsText → Type 0
IsCalls text TooLong = calls_limit < length text
IsCalls text (BadLine k) = (length text ≤ calls_limit) × LeastBad text k
IsCalls text (Good calls) = (length text ≤ calls_limit) × (length (lines_of text) ≤ line_limit) × SayAll (lines_of text) calls
