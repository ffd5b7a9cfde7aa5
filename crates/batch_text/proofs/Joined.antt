-- A text that is written part by part: the values of a line and the lines of a report so far, and the next one.
use Rattle.std.proofs.Common.{◌≡◌, ℕ, zero, suc, ◌+◌, ◌<◌, List, [], ◌∷◌, ◌++◌, length, get_or, take, codes, Result, Ok, Err, OnOk, inl, inr, ◌⊎◌, refl, sym, ap, ◌∙◌, append_assoc, arith, length-take}
use Rattle.std.proofs.lemmas.List.{take_more, map-append, append-nil, length-map}
use Rattle.wsyntax.specs.declared.value.Value.{Value}
use Rattle.wsyntax.specs.Texts.Words.{newline, value_text}
use Rattle.wsyntax.specs.Texts.Report.{CallEnd, Tally, values_text, spaced_values, call_line, call_lines, plus, tally_of, total_of, report_text}
use Rattle.batch_text.specs.declared.line.Line.{Line}
use Rattle.batch_text.specs.declared.total.Total.{Total}
use Rattle.batch_text.specs.Ends.{end_of, ends_of}
use Rattle.batch_text.specs.Totals.{tally, total_text}

-- a part after another
pub two_parts : {U E : Type 0} (r : Result U E) (new mid old a b : List ℕ) → mid ≡ old ++ a → OnOk r (new ≡ mid ++ b) → OnOk r (new ≡ old ++ (a ++ b))
two_parts (Ok u) new mid old a b e h = h ∙ ap (λ l. l ++ b) e ∙ append_assoc old a b
two_parts (Err f) new mid old a b e h = tt

-- Values.

-- what stands in front of the value at a position
abbrev pub separator : ℕ → List ℕ
separator zero = codes " "
separator (suc i) = codes ","

one_value_more : (u : Value) (us : List Value) (v : Value) → values_text (u ∷ (us ++ v ∷ [])) ≡ values_text (u ∷ us) ++ (codes "," ++ value_text v)
one_value_more u [] v = refl
one_value_more u (w ∷ us) v =
    ap (λ l. value_text u ++ (codes "," ++ l)) (one_value_more w us v) ∙ ap (λ l. value_text u ++ l) (sym (append_assoc (codes ",") (values_text (w ∷ us)) (codes "," ++ value_text v)))
    ∙ sym (append_assoc (value_text u) (codes "," ++ values_text (w ∷ us)) (codes "," ++ value_text v))

value_behind : (vs : List Value) (v : Value) → spaced_values (vs ++ v ∷ []) ≡ spaced_values vs ++ (separator (length vs) ++ value_text v)
value_behind [] v = refl
value_behind (u ∷ us) v = ap (λ l. codes " " ++ l) (one_value_more u us v) ∙ sym (append_assoc (codes " ") (values_text (u ∷ us)) (codes "," ++ value_text v))

-- it is a space for the first, and a comma for each other one
pub separator_is : (i : ℕ) (text : List ℕ) → ((i ≡ 0) × (text ≡ codes " ")) ⊎ ((i ≡ 0 → ⊥) × (text ≡ codes ",")) → text ≡ separator i
separator_is zero text (inl h) = h.1
separator_is zero text (inr h) = absurd (h.0 refl)
separator_is (suc i) text (inl h) = absurd (omega (arith, h.0))
separator_is (suc i) text (inr h) = h.1

-- the values up to a position and the next one
pub values_more : (vs : List Value) (i : ℕ) (v : Value) (text old : List ℕ) → i < length vs → text ≡ old ++ spaced_values (take i vs)
    → (text ++ separator i) ++ value_text (get_or vs i v) ≡ old ++ spaced_values (take (i + 1) vs)
values_more vs i v text old l e =
    let at : length (take i vs) ≡ i = simp length-take (omega arith) in
    let more = ap spaced_values (take_more vs i v l) ∙ value_behind (take i vs) (get_or vs i v) ∙ ap (λ n. spaced_values (take i vs) ++ (separator n ++ value_text (get_or vs i v))) at in
    append_assoc text (separator i) (value_text (get_or vs i v)) ∙ ap (λ l. l ++ (separator i ++ value_text (get_or vs i v))) e
    ∙ append_assoc old (spaced_values (take i vs)) (separator i ++ value_text (get_or vs i v)) ∙ ap (λ l. old ++ l) (sym more)

-- Lines.

line_behind : (n : ℕ) (es : List CallEnd) (e : CallEnd) → call_lines n (es ++ e ∷ []) ≡ call_lines n es ++ call_line (length es + n) e
line_behind n [] e = ap (λ m. call_line m e ++ []) (omega arith) ∙ append-nil (call_line (length {A = CallEnd} [] + n) e)
line_behind n (d ∷ es) e =
    let at : length es + suc n ≡ suc (length es) + n = omega arith in
    ap (λ l. call_line n d ++ l) (line_behind (suc n) es e ∙ ap (λ m. call_lines (suc n) es ++ call_line m e) at) ∙ sym (append_assoc (call_line n d) (call_lines (suc n) es) (call_line (suc (length es) + n) e))

ends_more : (lines : List Line) (i : ℕ) (line : Line) → i < length lines → line ≡ get_or lines i line → ends_of (take (i + 1) lines) ≡ ends_of (take i lines) ++ end_of line ∷ []
ends_more lines i line l e =
    ap ends_of (take_more lines i line l) ∙ map-append end_of (take i lines) (get_or lines i line ∷ []) ∙ ap (λ x. ends_of (take i lines) ++ end_of x ∷ []) (sym e)

-- the lines from an index on, up to a position and the next one
pub lines_more : (n : ℕ) (lines : List Line) (i : ℕ) (line : Line) → i < length lines → line ≡ get_or lines i line
    → call_lines n (ends_of (take i lines)) ++ call_line (n + i) (end_of line) ≡ call_lines n (ends_of (take (i + 1) lines))
lines_more n lines i line l e =
    let at : length (ends_of (take i lines)) + n ≡ n + i = simp (length-map, length-take) (omega arith) in
    sym (ap (call_lines n) (ends_more lines i line l e) ∙ line_behind n (ends_of (take i lines)) (end_of line) ∙ ap (λ k. call_lines n (ends_of (take i lines)) ++ call_line k (end_of line)) at)

-- the lines of two lists of calls, one after the other
pub lines_append : (n : ℕ) (xs ys : List CallEnd) → call_lines n (xs ++ ys) ≡ call_lines n xs ++ call_lines (n + length xs) ys
lines_append n [] ys = ap (λ m. call_lines m ys) (omega arith)
lines_append n (x ∷ xs) ys =
    let at : suc n + length xs ≡ n + suc (length xs) = omega arith in
    ap (λ l. call_line n x ++ l) (lines_append (suc n) xs ys ∙ ap (λ m. call_lines (suc n) xs ++ call_lines m ys) at) ∙ sym (append_assoc (call_line n x) (call_lines (suc n) xs) (call_lines (n + suc (length xs)) ys))

-- The total.

equal_fields : (v t x r m f v' t' x' r' m' f' : ℕ) → v ≡ v' → t ≡ t' → x ≡ x' → r ≡ r' → m ≡ m' → f ≡ f'
    → ◌≡◌ {A = Tally} (record { values = v; traps = t; exhausted = x; refused = r; no_memory = m; fuel = f }) (record { values = v'; traps = t'; exhausted = x'; refused = r'; no_memory = m'; fuel = f' })
equal_fields v t x r m f v' t' x' r' m' f' a b c d e g = cc

same_tally : (a b : Tally) → a.values ≡ b.values → a.traps ≡ b.traps → a.exhausted ≡ b.exhausted → a.refused ≡ b.refused → a.no_memory ≡ b.no_memory → a.fuel ≡ b.fuel → a ≡ b
same_tally a b v t x r m f = equal_fields a.values a.traps a.exhausted a.refused a.no_memory a.fuel b.values b.traps b.exhausted b.refused b.no_memory b.fuel v t x r m f

total_behind : (es : List CallEnd) (e : CallEnd) → total_of (es ++ e ∷ []) ≡ plus (total_of es) (tally_of e)
total_behind [] e = same_tally _ _ (omega arith) (omega arith) (omega arith) (omega arith) (omega arith) (omega arith)
total_behind (d ∷ es) e = ap (plus (tally_of d)) (total_behind es e) ∙ same_tally _ _ (omega arith) (omega arith) (omega arith) (omega arith) (omega arith) (omega arith)

-- the total up to an index and the next call
pub total_more : (lines : List Line) (i : ℕ) (line : Line) → i < length lines → line ≡ get_or lines i line → plus (total_of (ends_of (take i lines))) (tally_of (end_of line)) ≡ total_of (ends_of (take (i + 1) lines))
total_more lines i line l e = sym (ap total_of (ends_more lines i line l e) ∙ total_behind (ends_of (take i lines)) (end_of line))

-- the totals of two lists of calls
pub totals_append : (xs ys : List CallEnd) → total_of (xs ++ ys) ≡ plus (total_of xs) (total_of ys)
totals_append [] ys = same_tally _ _ (omega arith) (omega arith) (omega arith) (omega arith) (omega arith) (omega arith)
totals_append (x ∷ xs) ys = ap (plus (tally_of x)) (totals_append xs ys) ∙ same_tally _ _ (omega arith) (omega arith) (omega arith) (omega arith) (omega arith) (omega arith)

-- The report.

-- all lines and the total
pub report_whole : (ends : List CallEnd) (total : Total) (text whole : List ℕ) → text ≡ call_lines 0 ends → tally total ≡ total_of ends → total.calls ≡ length ends
    → whole ≡ text ++ total_text total.calls (tally total) → whole ≡ report_text ends
report_whole ends total text whole e t n w =
    w ∙ ap (λ l. l ++ total_text total.calls (tally total)) e
    ∙ ap (λ t. call_lines 0 ends ++ total_text total.calls t) t
    ∙ ap (λ m. call_lines 0 ends ++ total_text m (total_of ends)) n

-- the parts of a line, one after another
pub line_written : (old n e written ended whole : List ℕ) → written ≡ old ++ (n ++ codes " ") → ended ≡ written ++ e → whole ≡ ended ++ newline → whole ≡ old ++ (n ++ (codes " " ++ (e ++ newline)))
line_written old n e written ended whole p q r =
    r ∙ ap (λ l. l ++ newline) (q ∙ ap (λ l. l ++ e) p) ∙ append_assoc (old ++ (n ++ codes " ")) e newline ∙ append_assoc old (n ++ codes " ") (e ++ newline) ∙ ap (λ l. old ++ l) (append_assoc n (codes " ") (e ++ newline))
