-- A text is read as lines, each of which says a call.
use Rattle.std.proofs.Common.{◌≡◌, ◌≢◌, ℕ, zero, suc, ◌+◌, ◌<◌, ◌≤◌, List, [], ◌∷◌, ◌++◌, length, drop, Some, refl, sym, ap, ◌∙◌, subst, append_assoc, arith, Bool, true, false, cond, eqb, length-append}
use Rattle.std.specs.List.{AllByRecursion, slice_get}
use Rattle.std.proofs.lemmas.Bool.Decides.{nat_tests}
use Rattle.std.proofs.lemmas.List.{append-nil}
use Rattle.std.proofs.lemmas.List.Elements.{recursion_from_All}
use Rattle.wsyntax.specs.Texts.Calls.{Call, TextLine, Ended, Unended, onto, lines_of, calls_limit, line_limit, Says, IsGood, SayAll, TooLong, BadLine, Good, LeastBad, IsCalls, IsCall, call_text}
use Rattle.batch_text.specs.Reading.{SplitsBefore}

-- The lines of a text.

not_newline : (b : ℕ) (x y : List TextLine) → b ≢ 0x0A → cond (eqb b 0x0A) x y ≡ y
not_newline b x y h = grind (arith, nat_tests)

line_first : (line next : List ℕ) → AllByRecursion (λ b. b ≢ 0x0A) line → lines_of (line ++ 0x0A ∷ next) ≡ Ended line ∷ lines_of next
line_first [] next h = refl
line_first (b ∷ line) next h = not_newline b _ _ h.0 ∙ ap (onto b) (line_first line next h.1)

line_alone : (b : ℕ) (line : List ℕ) → AllByRecursion (λ b. b ≢ 0x0A) (b ∷ line) → lines_of (b ∷ line) ≡ Unended (b ∷ line) ∷ []
line_alone b [] h = not_newline b _ _ h.0
line_alone b (c ∷ line) h = not_newline b _ _ h.0 ∙ ap (onto b) (line_alone c line h.1)

-- the rest begins with a line
pub line_ended : (rest line after : List ℕ) → SplitsBefore 0x0A rest line after → 0 < length after → lines_of rest ≡ Ended line ∷ lines_of (drop 1 after)
line_ended rest line [] split some = absurd (omega arith)
line_ended rest line (b ∷ after) split some =
    ap lines_of (split.joined ∙ ap (λ x. line ++ x ∷ after) split.stops) ∙ line_first line after (recursion_from_All (λ b. b ≢ 0x0A) line split.free)

-- or is one that is not ended
pub line_unended : (rest line after : List ℕ) → SplitsBefore 0x0A rest line after → 0 < length rest → length after ≡ 0 → lines_of rest ≡ Unended line ∷ []
line_unended rest line (b ∷ after) split some none = absurd (omega arith)
line_unended rest [] [] split some none = absurd (omega (arith, ap length split.joined))
line_unended rest (b ∷ line) [] split some none = ap lines_of (split.joined ∙ append-nil (b ∷ line)) ∙ line_alone b line (recursion_from_All (λ b. b ≢ 0x0A) (b ∷ line) split.free)

some_onto : (b : ℕ) (lines : List TextLine) → (first : TextLine) × (others : List TextLine) × (onto b lines ≡ first ∷ others)
some_onto b [] = (Unended (b ∷ []), [], refl)
some_onto b (Ended line ∷ lines) = (Ended (b ∷ line), lines, refl)
some_onto b (Unended line ∷ lines) = (Unended (b ∷ line), lines, refl)

by_test : (test : Bool) (x y : List TextLine) → (first : TextLine) × (others : List TextLine) × (y ≡ first ∷ others) → (first : TextLine) × (others : List TextLine) × (cond test (Ended [] ∷ x) y ≡ first ∷ others)
by_test true x y h = (Ended [], x, refl)
by_test false x y h = h

-- a line is left where bytes are left
pub some_line : (rest : List ℕ) → 0 < length rest → (first : TextLine) × (others : List TextLine) × (lines_of rest ≡ first ∷ others)
some_line [] some = absurd (omega arith)
some_line (b ∷ rest) some = by_test (eqb b 0x0A) (lines_of rest) (onto b (lines_of rest)) (some_onto b (lines_of rest))

-- The lines that are read.

-- that many lines of the text say these calls
pub record LinesRead (text rest : List ℕ) (calls : List Call) : Type 0 where
  pub done : List TextLine
  pub lines : lines_of text ≡ done ++ lines_of rest
  pub say : SayAll done calls
  pub few : length calls ≤ line_limit

-- lines say calls, and others after them say others
pub say_both : (done rest : List TextLine) (calls more : List Call) → SayAll done calls → SayAll rest more → SayAll (done ++ rest) (calls ++ more)
say_both [] rest [] more h g = g
say_both [] rest (d ∷ calls) more h g = absurd h
say_both (l ∷ done) rest [] more h g = absurd h
say_both (l ∷ done) rest (d ∷ calls) more h g = (h.0, say_both done rest calls more h.1 g)

-- a line more is read
pub line_more : (text rest line next : List ℕ) (calls : List Call) (c : Call) → LinesRead text rest calls → length calls < line_limit → lines_of rest ≡ Ended line ∷ lines_of next → Says (Ended line) c
    → LinesRead text next (calls ++ c ∷ [])
line_more text rest line next calls c h room at says = record {
  done = h.done ++ Ended line ∷ [];
  lines = h.lines ∙ ap (λ l. h.done ++ l) at ∙ sym (append_assoc h.done (Ended line ∷ []) (lines_of next));
  say = say_both h.done (Ended line ∷ []) calls (c ∷ []) h.say (says, tt);
  few = simp length-append (omega arith);
}

-- The least bad line.

pub same_length : (done : List TextLine) (calls : List Call) → SayAll done calls → length done ≡ length calls
same_length [] [] h = refl
same_length [] (c ∷ calls) h = absurd h
same_length (l ∷ done) [] h = absurd h
same_length (l ∷ done) (c ∷ calls) h = ap suc (same_length done calls h.1)

stands_behind : (done : List TextLine) (line : TextLine) (rest : List TextLine) → slice_get (done ++ line ∷ rest) (length done) ≡ Some line
stands_behind [] line rest = refl
stands_behind (l ∷ done) line rest = stands_behind done line rest

said_before : (done : List TextLine) (calls : List Call) (rest : List TextLine) (j : ℕ) (other : TextLine) → SayAll done calls → j < length done → slice_get (done ++ rest) j ≡ Some other → (c : Call) × Says other c
said_before [] calls rest j other h l e = absurd (omega arith)
said_before (d ∷ done) [] rest j other h l e = absurd h
said_before (d ∷ done) (c ∷ calls) rest zero other h l e = let same : d ≡ other = cc in (c, subst (λ t. Says t c) same h.0)
said_before (d ∷ done) (c ∷ calls) rest (suc j) other h l e = said_before done calls rest j other h.1 (omega arith) e

-- the first line that is left is the least bad one
pub least_bad : (text rest : List ℕ) (calls : List Call) (line : TextLine) (others : List TextLine) → LinesRead text rest calls → lines_of rest ≡ line ∷ others → (IsGood (suc (length calls)) line → ⊥)
    → LeastBad text (suc (length calls))
least_bad text rest calls line others h at bad =
    let whole = h.lines ∙ ap (λ l. h.done ++ l) at in
    let count = same_length h.done calls h.say in
    record {
      position = length calls;
      line = line;
      number = refl;
      stands = ap (λ l. slice_get l (length calls)) whole ∙ ap (λ n. slice_get (h.done ++ line ∷ others) n) (sym count) ∙ stands_behind h.done line others;
      bad = bad;
      before = λ j other l e. (omega (arith, h.few), said_before h.done calls (line ∷ others) j other h.say (omega arith) (sym (ap (λ l. slice_get l j) whole) ∙ e));
    }

-- What the text is.

-- a line refuses the calls
pub refused_at : (text rest : List ℕ) (calls : List Call) (line : TextLine) (others : List TextLine) (k : ℕ) → length text ≤ calls_limit → LinesRead text rest calls → lines_of rest ≡ line ∷ others → k ≡ length calls + 1
    → (IsGood (suc (length calls)) line → ⊥) → IsCalls text (BadLine k)
unfolding IsCalls
refused_at text rest calls line others k small h at is bad = (small, subst (LeastBad text) (omega arith) (least_bad text rest calls line others h at bad))

-- as it is one line too many
pub too_many : (text rest : List ℕ) (calls : List Call) (k : ℕ) → length text ≤ calls_limit → LinesRead text rest calls → 0 < length rest → k ≡ length calls + 1 → length calls ≡ line_limit → IsCalls text (BadLine k)
too_many text rest calls k small h some is full =
    let (line, others, at) = some_line rest some in
    refused_at text rest calls line others k small h at is (λ good. omega (arith, good.0))

-- as it is not ended
pub not_ended : (text rest line after : List ℕ) (calls : List Call) (k : ℕ) → length text ≤ calls_limit → LinesRead text rest calls → 0 < length rest → SplitsBefore 0x0A rest line after → length after ≡ 0 → k ≡ length calls + 1 → IsCalls text (BadLine k)
not_ended text rest line after calls k small h some split none is =
    refused_at text rest calls (Unended line) [] k small h (line_unended rest line after split some none) is (λ good. good.1.1)

-- as it says no call
pub says_none : (text rest line after : List ℕ) (calls : List Call) (k : ℕ) → length text ≤ calls_limit → LinesRead text rest calls → SplitsBefore 0x0A rest line after → 0 < length after → k ≡ length calls + 1
    → ((c : Call) → IsCall c → line ≢ call_text c) → IsCalls text (BadLine k)
says_none text rest line after calls k small h split some is none =
    refused_at text rest calls (Ended line) (lines_of (drop 1 after)) k small h (line_ended rest line after split some) is (λ good. none good.1.0 good.1.1.0 good.1.1.1)

-- all lines are read
pub all_read : (text rest : List ℕ) (calls : List Call) → length text ≤ calls_limit → length rest ≡ 0 → LinesRead text rest calls → IsCalls text (Good calls)
unfolding IsCalls
all_read text [] calls small none h =
    let whole = h.lines ∙ append-nil h.done in
    (small, omega (arith, ap length whole, same_length h.done calls h.say, h.few), subst (λ l. SayAll l calls) (sym whole) h.say)
all_read text (b ∷ rest) calls small none h = absurd (omega arith)

-- the text is too long
pub too_long : (text : List ℕ) → calls_limit < length text → IsCalls text TooLong
unfolding IsCalls
too_long text h = h
