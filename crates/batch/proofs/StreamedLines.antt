-- The lines of a text that is read piece by piece.
use Rattle.std.proofs.Common.{◌≡◌, ◌≢◌, ℕ, suc, ◌+◌, ◌<◌, ◌≤◌, cond, eqb, List, [], ◌∷◌, ◌++◌, Err, length, length-append, append_assoc, refl, sym, ap, ◌∙◌, subst, arith}
use Rattle.std.specs.Prelude.{map}
use Rattle.std.specs.List.{AllByRecursion}
use Rattle.std.proofs.lemmas.Bool.Decides.{nat_tests}
use Rattle.std.proofs.lemmas.List.{append-nil, length-map}
use Rattle.std.proofs.lemmas.List.Elements.{recursion_from_All}
use Rattle.wsyntax.specs.Texts.Words.{newline}
use Rattle.wsyntax.specs.Texts.Calls.{Call, TextLine, Ended, Unended, TooLong, BadLine, Good, onto, lines_of, calls_limit, line_limit, SayAll, IsCalls}
use Rattle.soundness.specs.OneAnswer.{OneCalls}
use Rattle.batch_text.specs.Calls.{ReadsCalls}
use Rattle.batch_text.specs.declared.fault.CallsFault.{CallsFault}
use Rattle.batch_text.specs.declared.fault.CallsFault.TheVariants as fault
use Rattle.batch.specs.Streams.{SaysShort, SayEach, IsFree, AreFree, joined, IsWhole, BeginsBad, IsSaid}

-- ---- whole lines

not_newline : (b : ℕ) (x y : List TextLine) → b ≢ 0x0A → cond (eqb b 0x0A) x y ≡ y
not_newline b x y h = grind (arith, nat_tests)

first_line : (line next : List ℕ) → AllByRecursion (λ b. b ≢ 0x0A) line → lines_of (line ++ 0x0A ∷ next) ≡ Ended line ∷ lines_of next
first_line [] next h = refl
first_line (b ∷ line) next h = not_newline b _ _ h.0 ∙ ap (onto b) (first_line line next h.1)

line_first : (line next : List ℕ) → IsFree line → lines_of (line ++ 0x0A ∷ next) ≡ Ended line ∷ lines_of next
line_first line next free = first_line line next (recursion_from_All (λ b. b ≢ 0x0A) line free)

one_joined : (line more rest : List ℕ) → ((line ++ newline) ++ more) ++ rest ≡ line ++ 0x0A ∷ (more ++ rest)
one_joined line more rest = ap (λ l. l ++ rest) (append_assoc line newline more) ∙ append_assoc line (0x0A ∷ more) rest

lines_behind : (lines : List (List ℕ)) (rest : List ℕ) → AreFree lines → lines_of (joined lines ++ rest) ≡ map Ended lines ++ lines_of rest
lines_behind [] rest free = refl
lines_behind (line ∷ lines) rest free =
    ap lines_of (one_joined line (joined lines) rest) ∙ line_first line (joined lines ++ rest) free.0 ∙ ap (λ l. Ended line ∷ l) (lines_behind lines rest free.1)

pub lines_joined : (lines : List (List ℕ)) → AreFree lines → lines_of (joined lines) ≡ map Ended lines
lines_joined lines free = ap lines_of (sym (append-nil (joined lines))) ∙ lines_behind lines [] free ∙ append-nil (map Ended lines)

pub whole_joined : (lines : List (List ℕ)) → AreFree lines → IsWhole (joined lines)
whole_joined lines free = λ rest. lines_behind lines rest free ∙ ap (λ l. l ++ lines_of rest) (sym (lines_joined lines free))

-- each has a byte
few_lines : (lines : List (List ℕ)) → length lines ≤ length (joined lines)
few_lines [] = omega arith
few_lines (line ∷ lines) = omega (arith, few_lines lines, length-append (line ++ newline) (joined lines), length-append line newline)

-- ---- what they say

pub said_many : (lines : List TextLine) (calls : List Call) → SayEach lines calls → length lines ≡ length calls
said_many [] [] h = refl
said_many [] (c ∷ calls) h = absurd h
said_many (l ∷ lines) [] h = absurd h
said_many (l ∷ lines) (c ∷ calls) h = ap suc (said_many lines calls h.1)

pub say_both : (lines more : List TextLine) (calls others : List Call) → SayEach lines calls → SayEach more others → SayEach (lines ++ more) (calls ++ others)
say_both [] more [] others h g = g
say_both [] more (c ∷ calls) others h g = absurd h
say_both (l ∷ lines) more [] others h g = absurd h
say_both (l ∷ lines) more (c ∷ calls) others h g = (h.0, say_both lines more calls others h.1 g)

-- no line is longer than all
short_each : (lines : List (List ℕ)) (calls : List Call) → length (joined lines) ≤ calls_limit → SayAll (map Ended lines) calls → SayEach (map Ended lines) calls
short_each [] [] few h = tt
short_each [] (c ∷ calls) few h = absurd h
short_each (l ∷ lines) [] few h = absurd h
short_each (l ∷ lines) (c ∷ calls) few h =
    let all : length (joined (l ∷ lines)) ≡ length l + 1 + length (joined lines) = omega (arith, length-append (l ++ newline) (joined lines), length-append l newline) in
    let rest : length (joined lines) ≤ calls_limit = omega arith in
    let here : length l < calls_limit = omega arith in
    ((h.0, here), short_each lines calls rest h.1)

-- they say them in a text of calls
pub say_all : (lines : List TextLine) (calls : List Call) → SayEach lines calls → SayAll lines calls
say_all [] [] h = tt
say_all [] (c ∷ calls) h = absurd h
say_all (l ∷ lines) [] h = absurd h
say_all (Ended line ∷ lines) (c ∷ calls) h = (h.0.0, say_all lines calls h.1)
say_all (Unended line ∷ lines) (c ∷ calls) h = absurd h.0

pub nothing_said : IsSaid [] []
nothing_said = record { whole = λ rest. refl; said = tt; few = omega arith }

pub both_said : (front more : List ℕ) (calls others : List Call) → IsSaid front calls → IsSaid more others → IsSaid (front ++ more) (calls ++ others)
both_said front more calls others h g = record {
  whole = λ rest. ap lines_of (append_assoc front more rest) ∙ h.whole (more ++ rest) ∙ ap (λ l. lines_of front ++ l) (g.whole rest)
      ∙ sym (append_assoc (lines_of front) (lines_of more) (lines_of rest)) ∙ ap (λ l. l ++ lines_of rest) (sym (h.whole more));
  said = subst (λ (l : List TextLine). SayEach l (calls ++ others)) (sym (h.whole more)) (say_both (lines_of front) (lines_of more) calls others h.said g.said);
  few = omega (arith, h.few, g.few, length-append front more, length-append calls others);
}

-- ---- lines that are read

read_said : (lines : List (List ℕ)) (calls : List Call) → AreFree lines → IsCalls (joined lines) (Good calls) → IsSaid (joined lines) calls
unfolding IsCalls
read_said lines calls free (small, few, said) =
    let each = short_each lines calls small (subst (λ (l : List TextLine). SayAll l calls) (lines_joined lines free) said) in
    record {
      whole = whole_joined lines free;
      said = subst (λ (l : List TextLine). SayEach l calls) (sym (lines_joined lines free)) each;
      few = omega (arith, said_many (map Ended lines) calls each, length-map lines Ended, few_lines lines);
    }

-- the first lines of a text
pub front_said : (front : List ℕ) (lines : List (List ℕ)) (calls : List Call) → AreFree lines → front ≡ joined lines → IsCalls front (Good calls) → IsSaid front calls
front_said front lines calls free is read = subst (λ (t : List ℕ). IsSaid t calls) (sym is) (read_said lines calls free (subst (λ (t : List ℕ). IsCalls t (Good calls)) is read))

-- a line that says a call in few bytes is a text that says it
line_read : (line : List ℕ) (c : Call) → IsFree line → SaysShort (Ended line) c → IsCalls (joined (line ∷ [])) (Good (c ∷ []))
unfolding IsCalls
line_read line c free h =
    let is : lines_of (joined (line ∷ [])) ≡ Ended line ∷ [] = lines_joined (line ∷ []) (free, tt) in
    let count : length (joined (line ∷ [])) ≡ length line + 1 = omega (arith, length-append (line ++ newline) [], length-append line newline) in
    let below : length line < calls_limit = h.1 in
    (omega arith, subst (λ (l : List TextLine). length l ≤ line_limit) (sym is) (omega arith), subst (λ (l : List TextLine). SayAll l (c ∷ [])) (sym is) (h.0, tt))

never_both : (f : CallsFault) (text : List ℕ) (calls : List Call) → OneCalls → (f ≢ fault.Memory) → ReadsCalls text (Err f) → IsCalls text (Good calls) → ⊥
never_both fault.TooLarge text calls one some h g = let same = one text TooLong (Good calls) h g in cc
never_both (fault.Line k) text calls one some h g = let same = one text (BadLine k) (Good calls) h g in cc
never_both fault.Memory text calls one some h g = absurd (some refl)

-- a line that was not read is bad
line_refused : (f : CallsFault) (line behind : List ℕ) → OneCalls → (f ≢ fault.Memory) → IsFree line → ReadsCalls (joined (line ∷ [])) (Err f) → BeginsBad (joined (line ∷ []) ++ behind)
line_refused f line behind one some free h = λ rest. (
  Ended line,
  lines_of (behind ++ rest),
  ap lines_of (append_assoc (joined (line ∷ [])) behind rest) ∙ lines_behind (line ∷ []) (behind ++ rest) (free, tt),
  λ c says. never_both f (joined (line ∷ [])) (c ∷ []) one some h (line_read line c free says),
)

pub front_refused : (f : CallsFault) (text front behind : List ℕ) (lines : List (List ℕ)) → OneCalls → (f ≢ fault.Memory) → AreFree lines → front ≡ joined lines → length lines ≤ 1 → 0 < length front → ReadsCalls front (Err f) → text ≡ front ++ behind → BeginsBad text
front_refused f text front behind [] one some free is few has h split = absurd (omega (arith, ap length is))
front_refused f text front behind (l ∷ m ∷ ls) one some free is few has h split = absurd (omega arith)
front_refused f text front behind (line ∷ []) one some free is few has h split =
    let bad = line_refused f line behind one some free.0 (subst (λ (t : List ℕ). ReadsCalls t (Err f)) is h) in
    subst BeginsBad (sym (split ∙ ap (λ (t : List ℕ). t ++ behind) is)) bad

-- ---- a line that is too long

-- the first line has that many bytes, or is not ended
abbrev IsLong : ℕ → List TextLine → Type 0
IsLong n [] = n ≡ 0
IsLong n (Ended line ∷ lines) = n ≤ length line
IsLong n (Unended line ∷ lines) = Unit {0}

long_none : (lines : List TextLine) → IsLong 0 lines
long_none [] = refl
long_none (Ended line ∷ lines) = omega arith
long_none (Unended line ∷ lines) = tt

long_onto : (b n : ℕ) (lines : List TextLine) → IsLong n lines → IsLong (suc n) (onto b lines)
long_onto b n [] h = tt
long_onto b n (Ended line ∷ lines) h = omega arith
long_onto b n (Unended line ∷ lines) h = tt

long_held : (held rest : List ℕ) → AllByRecursion (λ b. b ≢ 0x0A) held → IsLong (length held) (lines_of (held ++ rest))
long_held [] rest free = long_none (lines_of rest)
long_held (b ∷ held) rest free = subst (IsLong (suc (length held))) (sym (not_newline b _ _ free.0)) (long_onto b (length held) (lines_of (held ++ rest)) (long_held held rest free.1))

long_bad : (n : ℕ) (lines : List TextLine) → calls_limit ≤ n → IsLong n lines → (line : TextLine) × (others : List TextLine) × (lines ≡ line ∷ others) × ((c : Call) → SaysShort line c → ⊥)
long_bad n [] far h = absurd (omega arith)
long_bad n (Ended line ∷ lines) far h = (Ended line, lines, refl, λ c says. let below : length line < calls_limit = says.1 in absurd (omega arith))
long_bad n (Unended line ∷ lines) far h = (Unended line, lines, refl, λ c says. says)

pub held_long : (held : List ℕ) → IsFree held → calls_limit ≤ length held → BeginsBad held
held_long held free far = λ rest. long_bad (length held) (lines_of (held ++ rest)) far (long_held held rest (recursion_from_All (λ b. b ≢ 0x0A) held free))

-- ---- a line that is not ended

line_alone : (b : ℕ) (line : List ℕ) → AllByRecursion (λ b. b ≢ 0x0A) (b ∷ line) → lines_of (b ∷ line) ≡ Unended (b ∷ line) ∷ []
line_alone b [] h = not_newline b _ _ h.0
line_alone b (c ∷ line) h = not_newline b _ _ h.0 ∙ ap (onto b) (line_alone c line h.1)

pub held_unended : (held : List ℕ) → IsFree held → 0 < length held → lines_of held ≡ Unended held ∷ []
held_unended [] free some = absurd (omega arith)
held_unended (b ∷ held) free some = line_alone b held (recursion_from_All (λ b. b ≢ 0x0A) (b ∷ held) free)
