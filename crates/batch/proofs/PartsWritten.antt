-- Texts of parts that are written one after another, and a last line after them.
use Rattle.std.proofs.Common.{◌≡◌, ℕ, ◌+◌, ◌<◌, ◌≤◌, List, [], ◌∷◌, ◌++◌, Option, Result, Ok, Err, length, get_or, take, drop, string_bytes, refl, sym, ap, ◌∙◌, subst, append_assoc}
use Rattle.std.specs.Prelude.{◌≢◌, IfErr, MatchResult}
use Rattle.std.specs.Io.KnownBytes.{Appends}
use Rattle.std.proofs.KnownBytes.{Appends-trans}
use Rattle.std.proofs.lemmas.Grind.{flat_map-append}
use Rattle.std.proofs.lemmas.List.{append-nil, drop_more, take_all, take_more, take-append-drop}
use Rattle.batch_text.specs.Parts.{parts_text}
use Rattle.batch_text.specs.declared.part.Part.{Part}
use Rattle.batch.specs.Output.{AppendsLess}

-- the texts up to the next part
texts_more : (parts : List Part) (i : ℕ) (p : Part) → i < length parts → p ≡ get_or parts i p → parts_text (take (i + 1) parts) ≡ parts_text (take i parts) ++ string_bytes p.text
texts_more parts i p below at =
    ap parts_text (take_more parts i p below ∙ ap (λ (q : Part). take i parts ++ q ∷ []) (sym at)) ∙ flat_map-append (λ (q : Part). string_bytes q.text) (take i parts) (p ∷ [])
    ∙ ap (λ l. parts_text (take i parts) ++ l) (append-nil (string_bytes p.text))

-- one part more is written
pub part_written : (parts : List Part) (i : ℕ) (p : Part) (text : List ℕ) (old mid new : Option (List ℕ)) → i < length parts → p ≡ get_or parts i p → text ≡ string_bytes p.text
    → Appends old mid (parts_text (take i parts)) → Appends mid new text → Appends old new (parts_text (take (i + 1) parts))
part_written parts i p text old mid new below at is before now =
    subst (Appends old new) (sym (texts_more parts i p below at ∙ ap (λ l. parts_text (take i parts) ++ l) (sym is))) (Appends-trans old mid new _ _ before now)

-- what is not empty is not empty with more after it
some_more : (xs ys : List ℕ) → (xs ≢ []) → xs ++ ys ≢ []
some_more [] ys some = absurd (some refl)
some_more (x ∷ xs) ys some = λ e. cc

-- a beginning of what is left is a beginning of all
front_behind : (old mid new : Option (List ℕ)) (whole done text more : List ℕ) → whole ≡ done ++ (text ++ more) → Appends old mid done → AppendsLess mid new text → AppendsLess old new whole
front_behind old mid new whole done text more is before (front, rest, split, some, now) = (
  done ++ front,
  rest ++ more,
  is ∙ ap (λ l. done ++ (l ++ more)) split ∙ ap (λ l. done ++ l) (append_assoc front rest more) ∙ sym (append_assoc done front (rest ++ more)),
  some_more rest more some,
  Appends-trans old mid new done front before now,
)

-- the part at a position stands between those before it and those after it
texts_around : (parts : List Part) (i : ℕ) (p : Part) (last : List ℕ) → i < length parts → p ≡ get_or parts i p
    → parts_text parts ++ last ≡ parts_text (take i parts) ++ (string_bytes p.text ++ (parts_text (drop (i + 1) parts) ++ last))
texts_around parts i p last below at =
    let behind : drop i parts ≡ p ∷ drop (i + 1) parts = drop_more parts i p below ∙ ap (λ (q : Part). q ∷ drop (i + 1) parts) (sym at) in
    let both : parts_text parts ≡ parts_text (take i parts) ++ parts_text (drop i parts) = ap parts_text (sym (take-append-drop i parts)) ∙ flat_map-append (λ (q : Part). string_bytes q.text) (take i parts) (drop i parts) in
    ap (λ l. l ++ last) (both ∙ ap (λ q. parts_text (take i parts) ++ parts_text q) behind) ∙ append_assoc (parts_text (take i parts)) (parts_text (p ∷ drop (i + 1) parts)) last
    ∙ ap (λ l. parts_text (take i parts) ++ l) (append_assoc (string_bytes p.text) (parts_text (drop (i + 1) parts)) last)

-- a part is not written whole
pub part_failed : (parts : List Part) (i : ℕ) (p : Part) (text last : List ℕ) (old mid new : Option (List ℕ)) → i < length parts → p ≡ get_or parts i p → text ≡ string_bytes p.text
    → Appends old mid (parts_text (take i parts)) → AppendsLess mid new text → AppendsLess old new (parts_text parts ++ last)
part_failed parts i p text last old mid new below at is before now =
    front_behind old mid new (parts_text parts ++ last) (parts_text (take i parts)) text (parts_text (drop (i + 1) parts) ++ last)
    (texts_around parts i p last below at ∙ ap (λ l. parts_text (take i parts) ++ (l ++ (parts_text (drop (i + 1) parts) ++ last))) (sym is)) before now

-- all parts are written, and so is the last line
pub all_written : (parts : List Part) (i : ℕ) (last : List ℕ) (old mid new : Option (List ℕ)) → length parts ≤ i → Appends old mid (parts_text (take i parts)) → Appends mid new last → Appends old new (parts_text parts ++ last)
all_written parts i last old mid new past before now =
    subst (λ (l : List Part). Appends old new (parts_text l ++ last)) (take_all i parts past) (Appends-trans old mid new _ _ before now)

-- or a beginning of it
pub last_failed : (parts : List Part) (i : ℕ) (last : List ℕ) (old mid new : Option (List ℕ)) → length parts ≤ i → Appends old mid (parts_text (take i parts)) → AppendsLess mid new last → AppendsLess old new (parts_text parts ++ last)
last_failed parts i last old mid new past before now =
    let all : parts_text parts ≡ parts_text (take i parts) = ap parts_text (sym (take_all i parts past)) in
    front_behind old mid new (parts_text parts ++ last) (parts_text (take i parts)) last [] (ap (λ l. l ++ last) all ∙ ap (λ l. parts_text (take i parts) ++ l) (sym (append-nil last))) before now

-- the last text is written or falls short
pub or_less : {T E : Type 0} (r : Result T E) (A B front less shorter : Type 0) → MatchResult r (λ _. A) (λ _. front) → IfErr r (λ _. less) → (A → B) → (less → shorter) → MatchResult r (λ _. B) (λ _. shorter)
or_less (Ok u) A B front less shorter h l f g = f h
or_less (Err e) A B front less shorter h l f g = g l
