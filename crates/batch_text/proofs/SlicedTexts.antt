-- Texts of calls one after another are one text of calls.
use Rattle.std.proofs.Common.{◌≡◌, ℕ, ◌+◌, ◌<◌, ◌≤◌, List, [], ◌∷◌, ◌++◌, length, get_or, take, drop, flat_map, refl, sym, ap, ◌∙◌, subst, append_assoc, arith, Bool, true, false, cond, eqb, length-append, Vec}
use Rattle.std.specs.declared.alloc.Global.{Global}
use Rattle.std.proofs.Math.Seq.{take-append_seam}
use Rattle.std.proofs.lemmas.Grind.{flat_map-append}
use Rattle.std.proofs.lemmas.List.{append-nil, length-map, length-take, map-append, take_more, take-append-drop}
use Rattle.wsyntax.specs.Texts.Words.{newline}
use Rattle.wsyntax.specs.Texts.Calls.{Call as Meant, TextLine, Ended, Unended, onto, lines_of, calls_limit, line_limit, SayAll, Good, IsCalls}
use Rattle.batch_text.specs.declared.call.Call.{Call}
use Rattle.batch_text.specs.Reading.{SplitsBefore}
use Rattle.batch_text.specs.Calls.{call_of, calls_of}
use Rattle.batch_text.specs.Slices.{EndsLine, EachEndsLine, EachRead, joined_calls}
use Rattle.batch_text.proofs.CallLines.{say_both, same_length}

-- The lines of two texts.

-- each line is ended
abbrev pub AllEnded : List TextLine → Type 0
AllEnded [] = Unit {0}
AllEnded (Ended line ∷ lines) = AllEnded lines
AllEnded (Unended line ∷ lines) = ⊥

say_ended : (lines : List TextLine) (calls : List Meant) → SayAll lines calls → AllEnded lines
say_ended [] [] h = tt
say_ended [] (c ∷ calls) h = absurd h
say_ended (l ∷ lines) [] h = absurd h
say_ended (Ended l ∷ lines) (c ∷ calls) h = say_ended lines calls h.1
say_ended (Unended l ∷ lines) (c ∷ calls) h = absurd h.0

-- a byte in front of ended lines, with others after them
onto_front : (b : ℕ) (lines others : List TextLine) → AllEnded (onto b lines) → AllEnded lines × (onto b (lines ++ others) ≡ onto b lines ++ others)
onto_front b [] others h = absurd h
onto_front b (Ended l ∷ lines) others h = (h, refl)
onto_front b (Unended l ∷ lines) others h = absurd h

by_test : (test : Bool) (b : ℕ) (lines whole others : List TextLine) → (AllEnded lines → whole ≡ lines ++ others) → AllEnded (cond test (Ended [] ∷ lines) (onto b lines))
    → cond test (Ended [] ∷ whole) (onto b whole) ≡ cond test (Ended [] ∷ lines) (onto b lines) ++ others
by_test true b lines whole others same h = ap (λ l. Ended [] ∷ l) (same h)
by_test false b lines whole others same h =
    let (ended, front) = onto_front b lines others h in
    ap (onto b) (same ended) ∙ front

-- after ended lines the other text's lines stand as they are
lines_behind : (text other : List ℕ) → AllEnded (lines_of text) → lines_of (text ++ other) ≡ lines_of text ++ lines_of other
lines_behind [] other h = refl
lines_behind (b ∷ text) other h = by_test (eqb b 0x0A) b (lines_of text) (lines_of (text ++ other)) (lines_of other) (lines_behind text other) h

-- The calls of slices.

said : (text : List ℕ) (calls : List Meant) → IsCalls text (Good calls) → SayAll (lines_of text) calls
unfolding IsCalls
said text calls h = h.2

good : (text : List ℕ) (calls : List Meant) → length text ≤ calls_limit → length calls ≤ line_limit → SayAll (lines_of text) calls → IsCalls text (Good calls)
unfolding IsCalls
good text calls small few h = (small, omega (arith, same_length (lines_of text) calls h, few), h)

slices_say : (slices : List (List ℕ)) (read : List (Vec Call Global)) → EachRead slices read → SayAll (lines_of (flat_map (λ s. s) slices)) (calls_of (joined_calls read))
slices_say [] [] h = tt
slices_say [] (c ∷ read) h = absurd h
slices_say (s ∷ slices) [] h = absurd h
slices_say (s ∷ slices) (c ∷ read) h =
    let first : SayAll (lines_of s) (calls_of c.items) = said s (calls_of c.items) h.0 in
    let rest : SayAll (lines_of (flat_map (λ s. s) slices)) (calls_of (joined_calls read)) = slices_say slices read h.1 in
    let lines = lines_behind s (flat_map (λ s. s) slices) (say_ended (lines_of s) (calls_of c.items) first) in
    let both = say_both (lines_of s) (lines_of (flat_map (λ s. s) slices)) (calls_of c.items) (calls_of (joined_calls read)) first rest in
    subst (λ (l : List TextLine). SayAll l (calls_of (joined_calls (c ∷ read)))) (sym lines)
    (subst (λ (m : List Meant). SayAll (lines_of s ++ lines_of (flat_map (λ s. s) slices)) m) (sym (map-append call_of c.items (joined_calls read))) both)

-- A text that is cut.

-- slices are cut, and the rest is left
pub record CutSoFar (size : ℕ) (text rest : List ℕ) (slices : List (List ℕ)) : Type 0 where
  pub joined : text ≡ flat_map (λ s. s) slices ++ rest
  pub ended : EachEndsLine size slices

ended_more : (size : ℕ) (slices : List (List ℕ)) (slice : List ℕ) → EachEndsLine size slices → EndsLine size slice → EachEndsLine size (slices ++ slice ∷ [])
ended_more size [] slice h e = (e, tt)
ended_more size (s ∷ slices) slice h e = (h.0, ended_more size slices slice h.1 e)

flat_more : (slices : List (List ℕ)) (slice rest : List ℕ) → flat_map (λ s. s) (slices ++ slice ∷ []) ++ rest ≡ flat_map (λ s. s) slices ++ (slice ++ rest)
flat_more slices slice rest =
    ap (λ l. l ++ rest) (flat_map-append (λ s. s) slices (slice ∷ []) ∙ ap (λ l. flat_map (λ s. s) slices ++ l) (append-nil slice)) ∙ append_assoc (flat_map (λ s. s) slices) slice rest

-- a slice more is cut
pub cut_more : (size at : ℕ) (text rest slice behind : List ℕ) (slices : List (List ℕ)) → CutSoFar size text rest slices → EndsLine size (take at rest) → slice ≡ take at rest → behind ≡ drop at rest
    → CutSoFar size text behind (slices ++ slice ∷ [])
cut_more size at text rest slice behind slices h e front back =
    let both : slice ++ behind ≡ rest = ap (λ l. l ++ behind) front ∙ ap (λ l. take at rest ++ l) back ∙ take-append-drop at rest in
    record {
      joined = h.joined ∙ ap (λ l. flat_map (λ s. s) slices ++ l) (sym both) ∙ sym (flat_more slices slice behind);
      ended = ended_more size slices slice h.ended (subst (EndsLine size) (sym front) e);
    }

-- where a line ends
pub ends_there : (text line after : List ℕ) (size end : ℕ) → size ≤ length text → SplitsBefore 0x0A (drop size text) line after → 0 < length after → end ≡ size + length line + 1
    → (end ≤ length text) × EndsLine size (take end text)
ends_there text line [] size «end» fits split some is = absurd (omega arith)
ends_there text line (b ∷ after) size «end» fits split some is =
    let front = take size text ++ line in
    let len : length (take size text) ≡ size = simp length-take (omega arith) in
    let count : length front ≡ size + length line = length-append (take size text) line ∙ ap (λ (n : ℕ). n + length line) len in
    let to : length (front ++ newline) ≡ end = length-append front newline ∙ omega (arith, count, is) in
    let whole : text ≡ (front ++ newline) ++ after = sym (take-append-drop size text) ∙ ap (λ l. take size text ++ l) (split.joined ∙ ap (λ x. line ++ x ∷ after) split.stops)
    ∙ sym (append_assoc (take size text) line (0x0A ∷ after)) ∙ sym (append_assoc front newline after) in
    let at : take end text ≡ front ++ newline = ap (take end) whole ∙ ap (λ (n : ℕ). take n ((front ++ newline) ++ after)) (sym to) ∙ take-append_seam (front ++ newline) after in
    (omega (arith, ap length whole, length-append (front ++ newline) after, to), (front, at, omega (arith, count)))

-- How many calls.

-- those so far, and those of the next slice
pub count_more : (read : List (Vec Call Global)) (i : ℕ) (calls : Vec Call Global) → i < length read → calls ≡ get_or read i calls
    → joined_calls (take (i + 1) read) ≡ joined_calls (take i read) ++ calls.items
count_more read i calls below at =
    let front : take (i + 1) read ≡ take i read ++ calls ∷ [] = take_more read i calls below ∙ ap (λ (c : Vec Call Global). take i read ++ c ∷ []) (sym at) in
    ap joined_calls front ∙ flat_map-append (λ (c : Vec Call Global). c.items) (take i read) (calls ∷ []) ∙ ap (λ (l : List Call). joined_calls (take i read) ++ l) (append-nil calls.items)

-- the calls up to a slice are no more than all
pub count_all : (read : List (Vec Call Global)) (i : ℕ) → length (joined_calls (take i read)) ≤ length (joined_calls read)
count_all read i =
    let both : joined_calls read ≡ joined_calls (take i read) ++ joined_calls (drop i read) =
    ap joined_calls (sym (take-append-drop i read)) ∙ flat_map-append (λ (c : Vec Call Global). c.items) (take i read) (drop i read) in
    omega (arith, ap length both, length-append (joined_calls (take i read)) (joined_calls (drop i read)))

-- the calls of all slices are those of the text
pub calls_said : (read : List (Vec Call Global)) (slices : List (List ℕ)) → length (joined_calls read) ≤ line_limit → EachRead slices read → length (flat_map (λ s. s) slices) ≤ calls_limit
    → IsCalls (flat_map (λ s. s) slices) (Good (calls_of (joined_calls read)))
calls_said read slices few each small = good (flat_map (λ s. s) slices) (calls_of (joined_calls read)) small (simp length-map few) (slices_say slices read each)
