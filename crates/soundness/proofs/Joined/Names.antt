-- The text of a call says its name and its arguments.
use lib.Signed.{mag}
use Rattle.std.proofs.Common.{◌≡◌, ◌≢◌, ℕ, suc, ◌≤◌, ◌-◌, ◌^◌, ◌<◌, List, [], ◌∷◌, ◌++◌, cond, Bool, true, false, ℤ, pos, negsuc, refl, sym, ap, ◌∙◌, arith}
use Rattle.std.specs.Prelude.{decimal, flat_map, nat_lt}
use Rattle.std.specs.Fmt.{signed_decimal}
use Rattle.std.specs.Str.Parse.{AllDigits}
use Rattle.std.proofs.lemmas.Bool.{ltb-true, ltb-false, cond_both}
use Rattle.std.proofs.lemmas.Fmt.{decimal_is_IsNumeral, signed_decimal_injective}
use Rattle.std.proofs.lemmas.List.Elements.{All-head, All-tail}
use Rattle.std.proofs.lemmas.Str.Parse.{digit_from_value}
use Rattle.wnum.specs.Arithmetic.{signed}
use Rattle.wsyntax.specs.declared.value.Value.{Value}
use Rattle.wsyntax.specs.declared.value.Value.TheVariants.{I32 as V32, I64 as V64}
use Rattle.wsyntax.specs.Execution.Values.{IsWord, AreWords}
use Rattle.wsyntax.specs.Texts.Words.{tab, value_text}
use Rattle.wsyntax.specs.Texts.Calls.{Call, IsName, IsCall, call_text}

-- Up to the next tab.

abbrev pub NoTab : List ℕ → Type 0
NoTab [] = Unit {0}
NoTab (b ∷ bs) = (b ≢ 9) × NoTab bs

abbrev pub AtTab : List ℕ → Type 0
AtTab [] = Unit {0}
AtTab (b ∷ bs) = b ≡ 9

pub up_to_tab : (a b xs ys : List ℕ) → NoTab a → NoTab b → AtTab xs → AtTab ys → a ++ xs ≡ b ++ ys → (a ≡ b) × (xs ≡ ys)
up_to_tab [] [] xs ys na nb tx ty e = (refl, e)
up_to_tab [] (b ∷ bs) [] ys na nb tx ty e = absurd cc
up_to_tab [] (b ∷ bs) (x ∷ xs) ys na nb tx ty e = let h : x ≡ b = cc in absurd (nb.0 (sym h ∙ tx))
up_to_tab (a ∷ as') [] xs [] na nb tx ty e = absurd cc
up_to_tab (a ∷ as') [] xs (y ∷ ys) na nb tx ty e = let h : a ≡ y = cc in absurd (na.0 (h ∙ ty))
up_to_tab (a ∷ as') (b ∷ bs) xs ys na nb tx ty e =
    let h : a ≡ b = cc in
    let k : as' ++ xs ≡ bs ++ ys = cc in
    let r = up_to_tab as' bs xs ys na.1 nb.1 tx ty k in
    (cc (h, r.0), r.1)

-- Numbers.

pub digits_no_tab : (ds : List ℕ) → AllDigits 10 ds → NoTab ds
digits_no_tab [] d = tt
digits_no_tab (c ∷ cs) d = ((λ e. omega (arith, digit_from_value c d.0)), digits_no_tab cs d.1)

decimal_no_tab : (n : ℕ) → n < 2 ^ 64 → NoTab (decimal n)
decimal_no_tab n h = digits_no_tab (decimal n) (decimal_is_IsNumeral n h).0.1

signed_no_tab : (z : ℤ) → mag z < 2 ^ 63 → NoTab (signed_decimal z)
signed_no_tab (pos n) h = decimal_no_tab n (omega arith)
signed_no_tab (negsuc n) h = ((λ e. omega arith), decimal_no_tab (suc n) (omega arith))

small32 : (n : ℕ) → n < 2 ^ 32 → mag (signed 32 n) < 2 ^ 63
small32 n h = cond_both (nat_lt n (2 ^ 31)) (pos n) (negsuc (2 ^ 32 - 1 - n)) (λ z. mag z < 2 ^ 63) (λ e. omega (arith, ltb-true n (2 ^ 31) e)) (λ e. omega arith)

small64 : (n : ℕ) → n < 2 ^ 64 → mag (signed 64 n) < 2 ^ 63
small64 n h = cond_both (nat_lt n (2 ^ 63)) (pos n) (negsuc (2 ^ 64 - 1 - n)) (λ z. mag z < 2 ^ 63) (λ e. omega (arith, ltb-true n (2 ^ 63) e)) (λ e. omega (arith, ltb-false n (2 ^ 63) e))

-- a word is its signed number; `top` is the greatest word
signs_apart : (top x y : ℕ) (b d : Bool) → x ≤ top → y ≤ top → cond b (pos x) (negsuc (top - x)) ≡ cond d (pos y) (negsuc (top - y)) → x ≡ y
signs_apart top x y true true hx hy e = cc
signs_apart top x y true false hx hy e = absurd cc
signs_apart top x y false true hx hy e = absurd cc
signs_apart top x y false false hx hy e = let h : top - x ≡ top - y = cc in omega arith

signed_same32 : (x y : ℕ) → x < 2 ^ 32 → y < 2 ^ 32 → signed 32 x ≡ signed 32 y → x ≡ y
signed_same32 x y hx hy e = signs_apart (2 ^ 32 - 1) x y (nat_lt x (2 ^ 31)) (nat_lt y (2 ^ 31)) (omega arith) (omega arith) e

signed_same64 : (x y : ℕ) → x < 2 ^ 64 → y < 2 ^ 64 → signed 64 x ≡ signed 64 y → x ≡ y
signed_same64 x y hx hy e = signs_apart (2 ^ 64 - 1) x y (nat_lt x (2 ^ 63)) (nat_lt y (2 ^ 63)) (omega arith) (omega arith) e

-- Values.

pub value_no_tab : (v : Value) → IsWord v → NoTab (value_text v)
value_no_tab (V32 n) h = ((λ e. omega arith), ((λ e. omega arith), ((λ e. omega arith), ((λ e. omega arith), signed_no_tab (signed 32 n) (small32 n h)))))
value_no_tab (V64 n) h = ((λ e. omega arith), ((λ e. omega arith), ((λ e. omega arith), ((λ e. omega arith), signed_no_tab (signed 64 n) (small64 n h)))))

second : (a x y : ℕ) (xs ys : List ℕ) → a ∷ x ∷ xs ≡ a ∷ y ∷ ys → x ≡ y
second a x y xs ys e = cc

value_same : (v u : Value) → IsWord v → IsWord u → value_text v ≡ value_text u → v ≡ u
value_same (V32 n) (V32 k) h j e =
    let t : signed_decimal (signed 32 n) ≡ signed_decimal (signed 32 k) = cc in
    ap V32 (signed_same32 n k h j (signed_decimal_injective (signed 32 n) (signed 32 k) (small32 n h) (small32 k j) t))
value_same (V32 n) (V64 k) h j e = let t : 51 ≡ 54 = second 105 51 54 _ _ e in absurd (omega (arith, t))
value_same (V64 n) (V32 k) h j e = let t : 54 ≡ 51 = second 105 54 51 _ _ e in absurd (omega (arith, t))
value_same (V64 n) (V64 k) h j e =
    let t : signed_decimal (signed 64 n) ≡ signed_decimal (signed 64 k) = cc in
    ap V64 (signed_same64 n k h j (signed_decimal_injective (signed 64 n) (signed 64 k) (small64 n h) (small64 k j) t))

-- Calls.

abbrev pub args_text : List Value → List ℕ
args_text vs = flat_map (λ v. tab ++ value_text v) vs

pub args_at_tab : (vs : List Value) → AtTab (args_text vs)
args_at_tab [] = tt
args_at_tab (v ∷ vs) = refl

args_same : (vs us : List Value) → AreWords vs → AreWords us → args_text vs ≡ args_text us → vs ≡ us
args_same [] [] h k e = refl
args_same [] (u ∷ us) h k e = absurd cc
args_same (v ∷ vs) [] h k e = absurd cc
args_same (v ∷ vs) (u ∷ us) h k e =
    let t : value_text v ++ args_text vs ≡ value_text u ++ args_text us = cc in
    let r = up_to_tab (value_text v) (value_text u) (args_text vs) (args_text us) (value_no_tab v h.0) (value_no_tab u k.0) (args_at_tab vs) (args_at_tab us) t in
    let one : v ≡ u = value_same v u h.0 k.0 r.0 in
    cc (one, args_same vs us h.1 k.1 r.1)

pub name_no_tab : (name : List ℕ) → IsName name → NoTab name
name_no_tab [] h = tt
name_no_tab (b ∷ bs) h = ((All-head (λ b. (b ≢ 0x09) × (b ≢ 0x0A)) b bs h).0, name_no_tab bs (All-tail (λ b. (b ≢ 0x09) × (b ≢ 0x0A)) b bs h))

-- calls of one text are the same
pub call_same : (c d : Call) → IsCall c → IsCall d → call_text c ≡ call_text d → c ≡ d
call_same c d h k e =
    let r = up_to_tab c.name d.name (args_text c.args) (args_text d.args) (name_no_tab c.name h.name) (name_no_tab d.name k.name) (args_at_tab c.args) (args_at_tab d.args) e in
    let a = args_same c.args d.args h.words k.words r.1 in
    λ n. record { name = r.0 n; args = a n }
