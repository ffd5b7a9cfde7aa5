-- A part of a report, and parts one after another.
use Rattle.std.proofs.Common.{◌≡◌, ℕ, ◌+◌, ◌<◌, ◌≤◌, List, [], ◌∷◌, ◌++◌, length, get_or, take, drop, string_bytes, refl, sym, ap, ◌∙◌, subst, append_assoc, length-append, arith}
use Rattle.std.proofs.lemmas.Grind.{flat_map-append}
use Rattle.std.proofs.lemmas.List.{append-nil, drop_more, drop_all, length-map, take_all, take_more}
use Rattle.wsyntax.specs.Texts.Report.{CallEnd, call_lines, plus, total_of, report_text}
use Rattle.batch_text.specs.declared.line.Line.{Line}
use Rattle.batch_text.specs.declared.part.Part.{Part}
use Rattle.batch_text.specs.declared.total.Total.{Total}
use Rattle.batch_text.specs.Ends.{ends_of}
use Rattle.batch_text.specs.Parts.{IsPart, AreParts, parts_text}
use Rattle.batch_text.specs.Totals.{tally, IsWithin, total_text}
use Rattle.batch_text.proofs.Joined.{lines_append, totals_append, report_whole}

-- One part.

-- all its lines are written
pub part_whole : (n : ℕ) (lines : List Line) (i : ℕ) (p : Part) → i ≡ length lines → string_bytes p.text ≡ call_lines n (ends_of (take i lines)) → tally p.total ≡ total_of (ends_of (take i lines)) → p.total.calls ≡ i → IsWithin p.total
    → IsPart n (ends_of lines) p
part_whole n lines i p all text counts calls within =
    let every : take i lines ≡ lines = take_all i lines (omega arith) in
    record {
      lines = text ∙ ap (λ x. call_lines n (ends_of x)) every;
      calls = simp length-map (omega arith);
      counts = counts ∙ ap (λ x. total_of (ends_of x)) every;
      within = within;
    }

-- Parts one after another.

-- the parts up to a position are joined, and the others have the calls that are left
pub record Joined (parts : List Part) (i : ℕ) (text : List ℕ) (total : Total) (ends : List CallEnd) : Type 0 where
  pub done : List CallEnd
  pub left : List CallEnd
  pub all : ends ≡ done ++ left
  pub written : text ≡ call_lines 0 done
  pub counts : tally total ≡ total_of done
  pub calls : total.calls ≡ length done
  pub others : AreParts (length done) left (drop i parts)

-- the part at a position, and the others after it
pub record Next (parts : List Part) (i n : ℕ) (left : List CallEnd) (p : Part) : Type 0 where
  pub front : List CallEnd
  pub rest : List CallEnd
  pub both : left ≡ front ++ rest
  pub part : IsPart n front p
  pub others : AreParts (n + length front) rest (drop (i + 1) parts)

pub next_part : (parts : List Part) (i n : ℕ) (left : List CallEnd) (p : Part) → i < length parts → p ≡ get_or parts i p → AreParts n left (drop i parts) → Next parts i n left p
next_part parts i n left p below at h =
    let whole : drop i parts ≡ p ∷ drop (i + 1) parts = drop_more parts i p below ∙ ap (λ q. q ∷ drop (i + 1) parts) (sym at) in
    let (front, rest, both, part, others) = subst (AreParts n left) whole h in
    record { front = front; rest = rest; both = both; part = part; others = others }

-- nothing is joined yet
pub joined_none : (parts : List Part) (text : List ℕ) (total : Total) (ends : List CallEnd) → text ≡ [] → tally total ≡ total_of [] → total.calls ≡ 0 → AreParts 0 ends parts → Joined parts 0 text total ends
joined_none parts text total ends e t n h = record { done = []; left = ends; all = refl; written = e; counts = t; calls = n; others = h }

-- the lines of the calls after others
lines_behind : (done front : List CallEnd) → call_lines 0 done ++ call_lines (length done) front ≡ call_lines 0 (done ++ front)
lines_behind done front =
    let at : length done ≡ 0 + length done = omega arith in
    ap (λ n. call_lines 0 done ++ call_lines n front) at ∙ sym (lines_append 0 done front)

-- a part more is joined
pub joined_more : (parts : List Part) (i : ℕ) (text text' : List ℕ) (total total' : Total) (ends : List CallEnd) (p : Part) → i < length parts → p ≡ get_or parts i p → Joined parts i text total ends
    → text' ≡ text ++ string_bytes p.text → tally total' ≡ plus (tally total) (tally p.total) → total'.calls ≡ total.calls + p.total.calls → Joined parts (i + 1) text' total' ends
joined_more parts i text text' total total' ends p below at h e t n =
    let next = next_part parts i (length h.done) h.left p below at h.others in
    let count : length (h.done ++ next.front) ≡ length h.done + length next.front = length-append h.done next.front in
    record {
      done = h.done ++ next.front;
      left = next.rest;
      all = h.all ∙ ap (λ l. h.done ++ l) next.both ∙ sym (append_assoc h.done next.front next.rest);
      written = e ∙ ap (λ l. l ++ string_bytes p.text) h.written ∙ ap (λ l. call_lines 0 h.done ++ l) next.part.lines ∙ lines_behind h.done next.front;
      counts = t ∙ ap (λ x. plus x (tally p.total)) h.counts ∙ ap (plus (total_of h.done)) next.part.counts ∙ sym (totals_append h.done next.front);
      calls = omega (arith, n, h.calls, next.part.calls, count);
      others = subst (λ (m : ℕ). AreParts m next.rest (drop (i + 1) parts)) (sym count) next.others;
    }

-- there is room for the counts of the next part
pub joined_room : (parts : List Part) (i : ℕ) (text : List ℕ) (total : Total) (ends : List CallEnd) (p : Part) → i < length parts → p ≡ get_or parts i p → Joined parts i text total ends
    → (total.calls + p.total.calls ≤ length ends) × IsWithin p.total
joined_room parts i text total ends p below at h =
    let next = next_part parts i (length h.done) h.left p below at h.others in
    let all = ap length h.all ∙ length-append h.done h.left in
    let both = ap length next.both ∙ length-append next.front next.rest in
    (omega (arith, all, both, h.calls, next.part.calls), next.part.within)

-- the texts up to the next part
pub part_more : (parts : List Part) (i : ℕ) (p : Part) → i < length parts → p ≡ get_or parts i p → parts_text (take (i + 1) parts) ≡ parts_text (take i parts) ++ string_bytes p.text
part_more parts i p below at =
    ap parts_text (take_more parts i p below ∙ ap (λ q. take i parts ++ q ∷ []) (sym at)) ∙ flat_map-append (λ q. string_bytes q.text) (take i parts) (p ∷ []) ∙ ap (λ l. parts_text (take i parts) ++ l) (append-nil (string_bytes p.text))

-- all parts are joined
pub joined_whole : (parts : List Part) (i : ℕ) (empty line : List ℕ) (total : Total) (ends : List CallEnd) → length parts ≤ i → Joined parts i (parts_text (take i parts)) total ends → empty ≡ []
    → line ≡ empty ++ total_text total.calls (tally total) → parts_text parts ++ line ≡ report_text ends
joined_whole parts i empty line total ends past h none w =
    let over : drop i parts ≡ [] = drop_all i parts past in
    let left : h.left ≡ [] = subst (AreParts (length h.done) h.left) over h.others in
    let all : ends ≡ h.done = h.all ∙ ap (λ l. h.done ++ l) left ∙ append-nil h.done in
    let last : line ≡ total_text total.calls (tally total) = w ∙ ap (λ l. l ++ total_text total.calls (tally total)) none in
    let texts : parts_text parts ≡ parts_text (take i parts) = ap parts_text (sym (take_all i parts past)) in
    report_whole ends total (parts_text (take i parts)) _ (h.written ∙ ap (call_lines 0) (sym all)) (h.counts ∙ ap total_of (sym all)) (h.calls ∙ ap length (sym all)) (ap (λ l. parts_text parts ++ l) last ∙ ap (λ l. l ++ total_text total.calls (tally total)) texts)
