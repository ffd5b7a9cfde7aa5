-- The first lines of a text, found one after another.
use Rattle.std.proofs.Common.{◌≡◌, ℕ, ◌+◌, ◌<◌, ◌≤◌, List, [], ◌∷◌, ◌++◌, length, take, take-add, drop, length-append, append_assoc, refl, sym, ap, ◌∙◌, arith}
use Rattle.std.proofs.lemmas.Grind.{flat_map-append}
use Rattle.std.proofs.lemmas.List.{append-nil, length-take, take-append-drop}
use Rattle.wsyntax.specs.Texts.Words.{newline}
use Rattle.batch_text.specs.Reading.{SplitsBefore}
use Rattle.batch.specs.Streams.{IsFree, AreFree, joined}

-- the text up to `end` is whole lines, `count` of them at most
pub record EndsSoFar (count : ℕ) (text : List ℕ) (end : ℕ) : Type 0 where
  pub within : end ≤ length text
  pub lines : List (List ℕ)
  pub free : AreFree lines
  pub is : take end text ≡ joined lines
  pub few : length lines ≤ count
  pub some : 0 < count → 0 < end

take_front : (front rest : List ℕ) → take (length front) (front ++ rest) ≡ front
take_front [] rest = refl
take_front (x ∷ front) rest = ap (λ l. x ∷ l) (take_front front rest)

free_both : (lines more : List (List ℕ)) → AreFree lines → AreFree more → AreFree (lines ++ more)
free_both [] more h g = g
free_both (l ∷ lines) more h g = (h.0, free_both lines more h.1 g)

-- the bytes up to the next line
next_line : (end : ℕ) (text line after : List ℕ) → drop end text ≡ line ++ 0x0A ∷ after → take (end + (length line + 1)) text ≡ take end text ++ (line ++ newline)
next_line end text line after is =
    let split : drop end text ≡ (line ++ newline) ++ after = is ∙ sym (append_assoc line newline after) in
    let count : length line + 1 ≡ length (line ++ newline) = sym (length-append line newline) in
    take-add end (length line + 1) text
    ∙ ap (λ l. take end text ++ take (length line + 1) l) split
    ∙ ap (λ n. take end text ++ take n ((line ++ newline) ++ after)) count
    ∙ ap (λ l. take end text ++ l) (take_front (line ++ newline) after)

room : (end : ℕ) (text line after : List ℕ) → end ≤ length text → drop end text ≡ line ++ 0x0A ∷ after → end + (length line + 1) ≤ length text
room end text line after within is =
    omega (arith, ap length (take-append-drop end text), length-append (take end text) (drop end text), length-take end text, ap length is, length-append line (0x0A ∷ after))

ended : (count end : ℕ) (text line after : List ℕ) → EndsSoFar count text end → IsFree line → drop end text ≡ line ++ 0x0A ∷ after → EndsSoFar (count + 1) text (end + (length line + 1))
ended count end text line after h free is = record {
  within = room end text line after h.within is;
  lines = h.lines ++ line ∷ [];
  free = free_both h.lines (line ∷ []) h.free (free, tt);
  is = next_line end text line after is ∙ ap (λ l. l ++ (line ++ newline)) h.is ∙ sym (flat_map-append (λ l. l ++ newline) h.lines (line ∷ []) ∙ ap (λ l. joined h.lines ++ l) (append-nil (line ++ newline)));
  few = omega (arith, h.few, length-append h.lines (line ∷ []));
  some = λ _. omega arith;
}

-- a line more
pub line_more : (count end : ℕ) (text rest line behind : List ℕ) → EndsSoFar count text end → rest ≡ drop end text → SplitsBefore 0x0A rest line behind → 0 < length behind → EndsSoFar (count + 1) text (end + (length line + 1))
line_more count end text rest line [] h is split some = absurd (omega arith)
line_more count end text rest line (b ∷ after) h is split some = ended count end text line after h split.free (sym is ∙ split.joined ∙ ap (λ x. line ++ x ∷ after) split.stops)
