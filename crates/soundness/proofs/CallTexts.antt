-- Texts of calls: what good ones say, and why bad ones say nothing.
use Rattle.std.proofs.Common.{◌≡◌, ℕ, zero, suc, ◌<◌, ◌-◌, ◌^◌, List, [], ◌∷◌, ◌++◌, length, Some, true, pos, negsuc, refl, sym, ap, ◌∙◌, subst, append-nil, arith}
use Rattle.std.specs.Prelude.{codes, decimal, nat_lt, slice_get}
use Rattle.std.specs.List.{list_all}
use Rattle.std.specs.Fmt.{digits, signed_decimal}
use Rattle.std.specs.Str.Parse.{AllDigits, digits_value}
use Rattle.std.proofs.lemmas.Bool.{ltb-true, ltb-false, cond_both}
use Rattle.std.proofs.lemmas.Fmt.{decimal_is_IsNumeral}
use Rattle.std.proofs.lemmas.List.Sums.{AllPass-from_list_all}
use Rattle.std.proofs.lemmas.Option.{same_Some}
use Rattle.wnum.specs.Arithmetic.{signed}
use Rattle.wsyntax.specs.declared.value.Value.{Value}
use Rattle.wsyntax.specs.declared.value.Value.TheVariants.{I32 as V32, I64 as V64}
use Rattle.wsyntax.specs.Execution.Values.{IsWord, AreWords}
use Rattle.wsyntax.specs.Texts.Words.{value_text}
use Rattle.wsyntax.specs.Texts.Calls.{Call, IsName, IsCall, call_text, TextLine, Ended, Unended, IsGood, LeastBad, lines_of, IsCalls}
use Rattle.soundness.specs.CallTexts.{calling, LineExamples, GoodTexts, BadTexts}
use Rattle.soundness.proofs.Joined.Names.{NoTab, up_to_tab, value_no_tab, name_no_tab, args_text, args_at_tab}

pub line_examples : LineExamples
line_examples = record { no_line = refl; one_line = refl; empty_line = refl; several_lines = refl; no_newline = refl }

-- Good texts.

-- bytes above newline are bytes of a name
plain_name : (name : List ℕ) → list_all (nat_lt 10) name ≡ true → IsName name
plain_name name e k d l =
    let t = ltb-true 10 _ (AllPass-from_list_all (nat_lt 10) name e k d l) in
    ((λ s. omega (arith, s, t)), (λ s. omega (arith, s, t)))

pub plain_call : (name : List ℕ) (args : List Value) → list_all (nat_lt 10) name ≡ true → AreWords args → IsCall (calling name args)
plain_call name args e words = record { name = plain_name name e; words = words }

pub good_texts : GoodTexts
unfolding digits IsCalls
good_texts = record {
  no_calls = (omega arith, omega arith, tt);
  two_arguments = (omega arith, omega arith, ((plain_call (codes "add") _ refl (omega arith, (omega arith, tt)), refl), tt));
  least_and_greatest = (omega arith, omega arith, ((plain_call (codes "f") _ refl (omega arith, (omega arith, tt)), refl), tt));
  no_name = (omega arith, omega arith, ((plain_call [] _ refl tt, refl), ((plain_call [] _ refl (omega arith, tt), refl), tt)));
  space_in_name = (omega arith, omega arith, ((plain_call (codes "f i32:1") _ refl tt, refl), tt));
}

-- Bad texts.

no_tab : (bytes : List ℕ) → list_all (nat_lt 10) bytes ≡ true → NoTab bytes
no_tab bytes e = name_no_tab bytes (plain_name bytes e)

first_value : (text : List ℕ) (args : List Value) → NoTab text → AreWords args → 9 ∷ text ≡ args_text args → (v : Value) × IsWord v × (value_text v ≡ text)
first_value text [] nt h e = absurd cc
first_value text (v ∷ vs) nt h e =
    let t : text ≡ value_text v ++ args_text vs = cc in
    let r = up_to_tab text (value_text v) [] (args_text vs) nt (value_no_tab v h.0) tt (args_at_tab vs) (append-nil text ∙ t) in
    (v, h.0, sym r.0)

-- a line of a name and, after one tab, this text says that the text is a value's
one_value : (name text : List ℕ) (c : Call) → NoTab name → NoTab text → IsCall c → name ++ (9 ∷ text) ≡ call_text c → (v : Value) × IsWord v × (value_text v ≡ text)
one_value name text c nn nt h e = first_value text c.args nt h.words (up_to_tab name c.name (9 ∷ text) (args_text c.args) nn (name_no_tab c.name h.name) refl (args_at_tab c.args) e).1

-- the text is the number of no word: not of one without and not of one with a minus in front
record IsNoNumber (text : List ℕ) : Type 0 where
  positive : (n : ℕ) → n < 2 ^ 31 → decimal n ≡ text → ⊥
  negative : (n : ℕ) → n < 2 ^ 31 → 45 ∷ decimal (suc n) ≡ text → ⊥

no_word : (text : List ℕ) → IsNoNumber text → (x : ℕ) → x < 2 ^ 32 → signed_decimal (signed 32 x) ≡ text → ⊥
no_word text h x l =
    cond_both (nat_lt x (2 ^ 31)) (pos x) (negsuc (2 ^ 32 - 1 - x)) (λ z. signed_decimal z ≡ text → ⊥) (λ e. h.positive x (ltb-true x (2 ^ 31) e)) (λ e. h.negative (2 ^ 32 - 1 - x) (omega (arith, ltb-false x (2 ^ 31) e)))

third : (a b x y : ℕ) (xs ys : List ℕ) → a ∷ x ∷ xs ≡ b ∷ y ∷ ys → x ≡ y
third a b x y xs ys e = cc

no_value : (text : List ℕ) → IsNoNumber text → (v : Value) → IsWord v → value_text v ≡ codes "i32:" ++ text → ⊥
no_value text h (V32 x) l e = let t : signed_decimal (signed 32 x) ≡ text = cc in no_word text h x l t
no_value text h (V64 x) l e = let t : 54 ≡ 51 = third 105 105 54 51 _ _ e in omega (arith, t)

-- so a line of a name and such a text is bad
bad_number : (k : ℕ) (name text : List ℕ) → list_all (nat_lt 10) name ≡ true → list_all (nat_lt 10) text ≡ true → IsNoNumber text → IsGood k (Ended (name ++ (9 ∷ (codes "i32:" ++ text)))) → ⊥
bad_number k name text n t h (l, (c, (is, e))) =
    let v = one_value name (codes "i32:" ++ text) c (no_tab name n) (no_tab (codes "i32:" ++ text) t) is e in
    no_value text h v.0 v.1 v.2

-- Why each of these is no number.

-- the number of digits is the one that they write
written : (n : ℕ) (text : List ℕ) → n < 2 ^ 32 → decimal n ≡ text → AllDigits 10 text × (digits_value 10 text ≡ n)
written n text l e =
    let h = decimal_is_IsNumeral n (omega arith) in
    (subst (AllDigits 10) e h.0.1, subst (λ ds. digits_value 10 ds ≡ n) e h.1)

behind_minus : (b : ℕ) (xs ys : List ℕ) → 45 ∷ xs ≡ b ∷ ys → (45 ≡ b) × (xs ≡ ys)
behind_minus b xs ys e = (cc, cc)

minus_zero : IsNoNumber (codes "-0")
minus_zero = record {
  positive = λ n l e. omega (arith, (written n (codes "-0") (omega arith) e).0.0);
  negative = λ n l e. omega (arith, (written (suc n) (codes "0") (omega arith) (behind_minus 45 _ _ e).1).1);
}

-- the number that it writes is 1, which is written otherwise
zero_one : IsNoNumber (codes "01")
unfolding digits
zero_one = record {
  positive = λ n l e.
      let is : 1 ≡ n = (written n (codes "01") (omega arith) e).1 in
      let other : decimal 1 ≡ codes "01" = subst (λ k. decimal k ≡ codes "01") (sym is) e in
      omega (arith, ap length other);
  negative = λ n l e. omega (arith, (behind_minus 48 _ _ e).0);
}

past_the_greatest : IsNoNumber (codes "2147483648")
past_the_greatest = record {
  positive = λ n l e. omega (arith, (written n (codes "2147483648") (omega arith) e).1);
  negative = λ n l e. omega (arith, (behind_minus 50 _ _ e).0);
}

-- The least bad line.

pub first_bad : (text : List ℕ) (line : TextLine) → slice_get (lines_of text) 0 ≡ Some line → (IsGood 1 line → ⊥) → LeastBad text 1
first_bad text line e bad = record { position = 0; line = line; number = refl; stands = e; bad = bad; before = λ j other l s. absurd (omega (arith, l)) }

only_first : (text : List ℕ) (first : TextLine) → slice_get (lines_of text) 0 ≡ Some first → IsGood 1 first → (j : ℕ) (other : TextLine) → j < 1 → slice_get (lines_of text) j ≡ Some other → IsGood (suc j) other
only_first text first e good zero other l s = subst (IsGood 1) (same_Some first other (sym e ∙ s)) good
only_first text first e good (suc j) other l s = absurd (omega (arith, l))

second_bad : (text : List ℕ) (first line : TextLine) → slice_get (lines_of text) 0 ≡ Some first → IsGood 1 first → slice_get (lines_of text) 1 ≡ Some line → (IsGood 2 line → ⊥) → LeastBad text 2
second_bad text first line e good s bad = record { position = 1; line = line; number = refl; stands = s; bad = bad; before = only_first text first e good }

pub bad_texts : BadTexts
unfolding IsCalls
bad_texts = record {
  negative_zero = (omega arith, first_bad _ (Ended (codes "f\ti32:-0")) refl (bad_number 1 (codes "f") (codes "-0") refl refl minus_zero));
  needless_zero = (omega arith, first_bad _ (Ended (codes "f\ti32:01")) refl (bad_number 1 (codes "f") (codes "01") refl refl zero_one));
  one_too_many = (omega arith, first_bad _ (Ended (codes "f\ti32:2147483648")) refl (bad_number 1 (codes "f") (codes "2147483648") refl refl past_the_greatest));
  least_of_two = (
    omega arith,
    second_bad _ (Ended (codes "f")) (Ended (codes "i32\ti32:-0")) refl (omega arith, (calling (codes "f") [], (plain_call (codes "f") [] refl tt, refl))) refl (bad_number 2 (codes "i32") (codes "-0") refl refl minus_zero),
  );
  no_newline = (
    omega arith,
    second_bad _ (Ended (codes "add")) (Unended (codes "add")) refl (omega arith, (calling (codes "add") [], (plain_call (codes "add") [] refl tt, refl))) refl (λ h. h.1.1),
  );
}
