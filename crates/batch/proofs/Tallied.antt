-- Counts of calls, and of others after them.
use Rattle.std.proofs.Common.{◌≡◌, ℕ, suc, ◌+◌, List, [], ◌∷◌, ◌++◌, length, sym, ap, ◌∙◌, arith, length-append, append_assoc}
use Rattle.wsyntax.specs.Texts.Report.{CallEnd, Tally, none, plus, tally_of, total_of, call_line, call_lines}
use Rattle.batch.specs.Streams.{Counts}
use Rattle.batch_text.specs.Totals.{tally as counts}
use Rattle.batch_text.specs.declared.total.Total.{Total as Counted}

equal_fields : (v t x r m f v' t' x' r' m' f' : ℕ) → v ≡ v' → t ≡ t' → x ≡ x' → r ≡ r' → m ≡ m' → f ≡ f'
    → ◌≡◌ {A = Tally} (record { values = v; traps = t; exhausted = x; refused = r; no_memory = m; fuel = f }) (record { values = v'; traps = t'; exhausted = x'; refused = r'; no_memory = m'; fuel = f' })
equal_fields v t x r m f v' t' x' r' m' f' a b c d e g = cc

same_tally : (a b : Tally) → a.values ≡ b.values → a.traps ≡ b.traps → a.exhausted ≡ b.exhausted → a.refused ≡ b.refused → a.no_memory ≡ b.no_memory → a.fuel ≡ b.fuel → a ≡ b
same_tally a b v t x r m f = equal_fields a.values a.traps a.exhausted a.refused a.no_memory a.fuel b.values b.traps b.exhausted b.refused b.no_memory b.fuel v t x r m f

plus_none : (a : Tally) → a ≡ plus a none
plus_none a = same_tally a (plus a none) (omega arith) (omega arith) (omega arith) (omega arith) (omega arith) (omega arith)

none_plus : (a : Tally) → plus none a ≡ a
none_plus a = same_tally (plus none a) a (omega arith) (omega arith) (omega arith) (omega arith) (omega arith) (omega arith)

plus_assoc : (a b c : Tally) → plus (plus a b) c ≡ plus a (plus b c)
plus_assoc a b c = same_tally (plus (plus a b) c) (plus a (plus b c)) (omega arith) (omega arith) (omega arith) (omega arith) (omega arith) (omega arith)

totals_append : (xs ys : List CallEnd) → total_of (xs ++ ys) ≡ plus (total_of xs) (total_of ys)
totals_append [] ys = sym (none_plus (total_of ys))
totals_append (x ∷ xs) ys = ap (plus (tally_of x)) (totals_append xs ys) ∙ sym (plus_assoc (tally_of x) (total_of xs) (total_of ys))

-- the lines of calls and of others after them
pub lines_append : (n : ℕ) (xs ys : List CallEnd) → call_lines n (xs ++ ys) ≡ call_lines n xs ++ call_lines (n + length xs) ys
lines_append n [] ys = ap (λ m. call_lines m ys) (omega arith)
lines_append n (x ∷ xs) ys =
    let at : suc n + length xs ≡ n + suc (length xs) = omega arith in
    ap (λ l. call_line n x ++ l) (lines_append (suc n) xs ys ∙ ap (λ m. call_lines (suc n) xs ++ call_lines m ys) at) ∙ sym (append_assoc (call_line n x) (call_lines (suc n) xs) (call_lines (n + suc (length xs)) ys))

-- others after them
pub both_counted : (from mid to : Counted) (ends more : List CallEnd) → Counts from mid ends → Counts mid to more → Counts from to (ends ++ more)
both_counted from mid to ends more h g = record {
  calls = omega (arith, h.calls, g.calls, length-append ends more);
  tally = g.tally ∙ ap (λ (t : Tally). plus t (total_of more)) h.tally ∙ plus_assoc (counts from) (total_of ends) (total_of more) ∙ ap (plus (counts from)) (sym (totals_append ends more));
}

pub none_counts : (from : Counted) → Counts from from []
none_counts from = record { calls = omega arith; tally = plus_none (counts from) }

-- from no calls on
pub all_counted : (from to : Counted) (ends : List CallEnd) → counts from ≡ none → Counts from to ends → counts to ≡ total_of ends
all_counted from to ends zero h = h.tally ∙ ap (λ (t : Tally). plus t (total_of ends)) zero ∙ none_plus (total_of ends)
