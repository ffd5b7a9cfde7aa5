-- A text of calls has one reading, and a module with a text of calls one answer.
use Rattle.std.proofs.Common.{◌≡◌, ℕ, zero, suc, ◌<◌, ◌≤◌, List, [], ◌∷◌, length, Some, refl, sym, ap, ◌∙◌, subst, arith, inl, inr, ◌⊎◌}
use Rattle.std.specs.Prelude.{slice_get, IsTrue}
use Rattle.std.proofs.lemmas.Bool.{cases_order}
use Rattle.std.proofs.lemmas.Option.{same_Some, slice_get_within}
use Rattle.wsyntax.specs.Modules.{ModuleShape, BodyShape}
use Rattle.wsyntax.specs.Binary.Shell.{SpellsBody, SpellsBodies, Spells}
use Rattle.wsyntax.specs.Validation.Rules.{ExportsDistinct}
use Rattle.wsyntax.specs.Validation.Verdict.{Verdict, Accepted, TooLarge, Malformed, RuleBroken, BodyRefused, IsVerdict}
use Rattle.wsyntax.specs.Texts.Calls.{Call, TextLine, Ended, Unended, lines_of, line_limit, Says, IsGood, SayAll, CallsText, TooLong, BadLine, Good, LeastBad, IsCalls}
use Rattle.wsyntax.specs.Texts.Report.{report_text}
use Rattle.wsyntax.specs.Texts.Answer.{Limits, EndsOf, AnswerOn, AnswerBy, IsAnswer}
use Rattle.soundness.specs.OneAnswer.{OneCalls, ModuleIsOne, OneAnswer}
use Rattle.soundness.proofs.Joined.Names.{call_same}
use Rattle.soundness.proofs.Joined.Ends.{ends_same}

-- The text of calls.

says_same : (line : TextLine) (c d : Call) → Says line c → Says line d → c ≡ d
says_same (Ended line) c d h k = call_same c d h.0 k.0 (sym h.1 ∙ k.1)
says_same (Unended line) c d h k = absurd h

say_same : (lines : List TextLine) (cs ds : List Call) → SayAll lines cs → SayAll lines ds → cs ≡ ds
say_same [] [] [] h k = refl
say_same [] [] (d ∷ ds) h k = absurd k
say_same (l ∷ ls) (c ∷ cs) [] h k = absurd k
say_same (l ∷ ls) (c ∷ cs) (d ∷ ds) h k =
    let one : c ≡ d = says_same l c d h.0 k.0 in
    cc (one, say_same ls cs ds h.1 k.1)
say_same _ _ ds h k = absurd h

-- each line of good calls says one
said : (lines : List TextLine) (cs : List Call) (position : ℕ) (line : TextLine) → SayAll lines cs → slice_get lines position ≡ Some line → (c : Call) × Says line c
said [] cs position line h e = absurd cc
said (l ∷ ls) [] position line h e = absurd h
said (l ∷ ls) (c ∷ cs) zero line h e = (c, subst (λ l. Says l c) (same_Some l line e) h.0)
said (l ∷ ls) (c ∷ cs) (suc position) line h e = said ls cs position line h.1 e

-- so there is no bad one among them
not_bad : (text : List ℕ) (k : ℕ) (cs : List Call) → LeastBad text k → length (lines_of text) ≤ line_limit → SayAll (lines_of text) cs → ⊥
not_bad text k cs b few h =
    let in' = slice_get_within (lines_of text) b.position b.line b.stands in
    b.bad (omega (arith, b.number, in', few), said (lines_of text) cs b.position b.line h b.stands)

-- a bad line is not before the least one
not_before : (text : List ℕ) (k n : ℕ) (a : LeastBad text k) (b : LeastBad text n) → a.position < b.position → ⊥
not_before text k n a b lt =
    a.bad (subst (λ k. IsGood k a.line) (sym a.number) (b.before a.position a.line lt a.stands))

least_same : (text : List ℕ) (k n : ℕ) (a : LeastBad text k) (b : LeastBad text n) → ((a.position ≡ b.position) ⊎ ((a.position < b.position) ⊎ (b.position < a.position))) → k ≡ n
least_same text k n a b (inl e) = a.number ∙ ap suc e ∙ sym b.number
least_same text k n a b (inr (inl lt)) = absurd (not_before text k n a b lt)
least_same text k n a b (inr (inr lt)) = absurd (not_before text n k b a lt)

pub one_calls : OneCalls
unfolding IsCalls
one_calls text TooLong TooLong h k = refl
one_calls text TooLong (BadLine n) h k = absurd (omega (arith, h, k.0))
one_calls text TooLong (Good ds) h k = absurd (omega (arith, h, k.0))
one_calls text (BadLine n) TooLong h k = absurd (omega (arith, h.0, k))
one_calls text (BadLine n) (BadLine j) h k = ap BadLine (least_same text n j h.1 k.1 (cases_order (h.1).position (k.1).position))
one_calls text (BadLine n) (Good ds) h k = absurd (not_bad text n ds h.1 k.1 k.2)
one_calls text (Good cs) TooLong h k = absurd (omega (arith, h.0, k))
one_calls text (Good cs) (BadLine n) h k = absurd (not_bad text n cs k.1 h.1 h.2)
one_calls text (Good cs) (Good ds) h k = ap Good (say_same (lines_of text) cs ds h.2 k.2)

-- The answer.

-- accepted bodies are spelled
spelled : (ss : List (List ℕ)) → ((k : ℕ) (bytes : List ℕ) → k < length ss → slice_get ss k ≡ Some bytes → (b : BodyShape) × SpellsBody bytes b) → (bs : List BodyShape) × SpellsBodies ss bs
spelled [] h = ([], tt)
spelled (s ∷ ss) h =
    let b = h 0 s (omega arith) refl in
    let r = spelled ss (λ k bytes lt is. h (suc k) bytes (omega arith) is) in
    (b.0 ∷ r.0, (b.1, r.1))

-- an accepted module exports each name once
distinct : (bytes : List ℕ) (m : ModuleShape) (bodies : List BodyShape) → ModuleIsOne → IsVerdict bytes Accepted → Spells bytes m bodies → ExportsDistinct m
unfolding IsVerdict
distinct bytes m bodies one v sp =
    let n = v.0 in
    let bs = spelled n.bodies (λ k bytes lt is. let a = v.3 k bytes lt is in (a.body, a.spelled)) in
    let same = one bytes n m bs.0 bodies ((v.1).shell, bs.1) sp in
    let d : ExportsDistinct n = v.2 10 in
    subst ExportsDistinct same.0 d

good_same : (bytes : List ℕ) (calls : List Call) (l : Limits) (short : ℕ → Type 0) (out other : List ℕ) → ModuleIsOne → IsVerdict bytes Accepted → AnswerOn bytes (Good calls) l short out → AnswerOn bytes (Good calls) l short other → out ≡ other
good_same bytes calls l short out other one v h k =
    let same = one bytes h.0 k.0 h.1 k.1 h.3 k.3 in
    let ends = subst (λ bodies. EndsOf k.0 bodies l short 0 calls h.2) same.1 (subst (λ m. EndsOf m h.1 l short 0 calls h.2) same.0 h.4) in
    h.5 ∙ ap report_text (ends_same k.0 k.1 l short 0 calls h.2 k.2 (distinct bytes k.0 k.1 one v k.3) ends k.4) ∙ sym k.5

on_same : (bytes : List ℕ) (c : CallsText) (l : Limits) (short : ℕ → Type 0) (out other : List ℕ) → ModuleIsOne → IsVerdict bytes Accepted → AnswerOn bytes c l short out → AnswerOn bytes c l short other → out ≡ other
on_same bytes TooLong l short out other one v h k = h ∙ sym k
on_same bytes (BadLine n) l short out other one v h k = h ∙ sym k
on_same bytes (Good calls) l short out other one v h k = good_same bytes calls l short out other one v h k

by_same : (bytes text : List ℕ) (l : Limits) (short : ℕ → Type 0) (out other : List ℕ) (v : Verdict) → ModuleIsOne → IsVerdict bytes v → AnswerBy bytes text l short out v → AnswerBy bytes text l short other v → out ≡ other
by_same bytes text l short out other Accepted one v h k =
    on_same bytes k.0 l short out other one v (subst (λ c. AnswerOn bytes c l short out) (one_calls text h.0 k.0 h.1 k.1) h.2) k.2
by_same bytes text l short out other TooLarge one v h k = h ∙ sym k
by_same bytes text l short out other Malformed one v h k = h ∙ sym k
by_same bytes text l short out other (RuleBroken n) one v h k = h ∙ sym k
by_same bytes text l short out other (BodyRefused f fault) one v h k = h ∙ sym k

pub one_answer : OneAnswer
unfolding IsAnswer
one_answer verdict one bytes text l short out other h k =
    let same = verdict bytes h.0 k.0 h.1 k.1 in
    by_same bytes text l (λ n. IsTrue (short n)) out other k.0 one k.1 (subst (AnswerBy bytes text l (λ n. IsTrue (short n)) out) same h.2) k.2
