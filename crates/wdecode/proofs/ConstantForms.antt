-- 5.4.6 Whether the expression at the front of bytes has the form of a constant, by its first token and the byte after it.
use Rattle.std.proofs.Common.{◌≡◌, ◌≢◌, ℕ, zero, suc, ◌-◌, Bool, true, false, List, [], ◌∷◌, ◌++◌, length, Option, Some, None}
use Rattle.std.proofs.Common.{refl, sym, ap, ◌∙◌}
use Rattle.wnum.specs.Reading.{◌>>=◌}
use Rattle.wsyntax.specs.declared.module.ConstExpr.{ConstExpr}
use Rattle.wsyntax.specs.Instructions.{Token, End}
use Rattle.wsyntax.specs.Initials.{is_const_or_get, has_constant_form, tokens_in, tokens_read}
use Rattle.wsyntax.specs.Modules.{initial_tokens}
use Rattle.wsyntax.specs.Binary.Nesting.{token_at, nest, and_then, tokens_at, expression}
use Rattle.wdecode.specs.Gives.{Begins}
use Rattle.wdecode.proofs.Ends.{whole_from}
use Rattle.wdecode.proofs.OneToken.{token_reads}
use Rattle.wdecode.proofs.Trees.{Tokens}

-- one constant or one global.get has it
pub single_form : (whole after : List ℕ) (t : Token) (x : ConstExpr) → expression.read whole ≡ Some (initial_tokens x, after)
    → true ≡ is_const_or_get t → initial_tokens x ≡ t ∷ End ∷ [] → true ≡ has_constant_form (tokens_read whole)
single_form whole after t x read form tokens =
    form ∙ ap has_constant_form (sym tokens) ∙ ap (λ (r : Tokens). has_constant_form (tokens_in r)) (sym read)

-- Tokens that have it not.

-- the first is no constant and no global.get
no_constant : (t : Token) (ts : List Token) → is_const_or_get t ≡ false → has_constant_form (t ∷ ts) ≡ false
no_constant t [] is = refl
no_constant t (End ∷ []) is = is
no_constant t (End ∷ _ ∷ ts) is = refl
no_constant t (_ ∷ ts) is = refl

-- the second is no end
no_end : (t u : Token) (ts : List Token) → (u ≡ End → ⊥) → has_constant_form (t ∷ u ∷ ts) ≡ false
no_end t End ts not = absurd (not refl)
no_end t _ ts not = refl

-- Tokens that are read, the first apart.

-- the second is no end, and the others are read after it
no_end_pushed : (t u : Token) (read : Tokens) → (u ≡ End → ⊥)
    → has_constant_form (t ∷ tokens_in (read >>= λ x. let y : List Token × List ℕ = (u ∷ x.0, x.1) in Some y)) ≡ false
no_end_pushed t u None not = refl
no_end_pushed t u (Some x) not = no_end t u x.0 not

no_end_then : (t u : Token) (rest : List ℕ) (more : List Bool → Tokens) (o : Option (Option (List Bool))) → (u ≡ End → ⊥)
    → has_constant_form (t ∷ tokens_in (o >>= and_then u rest more)) ≡ false
no_end_then t u rest more None not = refl
no_end_then t u rest more (Some None) not = no_end t u [] not
no_end_then t u rest more (Some (Some now)) not = no_end_pushed t u (more now) not

-- no end is read
no_end_read : (t : Token) (n : ℕ) (s : List Bool) (read : Option (Token × List ℕ)) → ((after : List ℕ) → read ≡ Some (End, after) → ⊥)
    → has_constant_form (t ∷ tokens_in (read >>= λ x. nest s x.0 >>= λ o. and_then x.0 x.1 (λ now. tokens_at n now x.1) o)) ≡ false
no_end_read t n s None not = refl
no_end_read t n s (Some x) not =
    let no : x.0 ≡ End → ⊥ = λ is. not x.1 (ap (λ (u : Token). let y : Token × List ℕ = (u, x.1) in Some y) is) in
    no_end_then t x.0 x.1 (λ now. tokens_at n now x.1) (nest s x.0) no

no_end_there : (t : Token) (n : ℕ) (s : List Bool) (rest : List ℕ) → ((after : List ℕ) → token_at rest ≡ Some (End, after) → ⊥)
    → has_constant_form (t ∷ tokens_in (tokens_at n s rest)) ≡ false
no_end_there t zero s rest not = refl
no_end_there t (suc n) s rest not = no_end_read t n s (token_at rest) not

-- an end is one byte
end_spelled : (rest after : List ℕ) → token_at rest ≡ Some (End, after) → rest ≡ 0x0B ∷ after
end_spelled rest after is =
    let f = token_reads.sound rest End after is in
    f.2 ∙ ap (λ (front : List ℕ). front ++ after) f.1

-- All tokens that are read.

pushed : (t : Token) (read : Tokens) → has_constant_form (t ∷ tokens_in read) ≡ false
    → has_constant_form (tokens_in (read >>= λ x. let y : List Token × List ℕ = (t ∷ x.0, x.1) in Some y)) ≡ false
pushed t None is = refl
pushed t (Some x) is = is

first_then : (t : Token) (rest : List ℕ) (more : List Bool → Tokens) (o : Option (Option (List Bool)))
    → ((now : List Bool) → has_constant_form (t ∷ tokens_in (more now)) ≡ false)
    → has_constant_form (tokens_in (o >>= and_then t rest more)) ≡ false
first_then t rest more None is = refl
first_then t rest more (Some None) is = refl
first_then t rest more (Some (Some now)) is = pushed t (more now) (is now)

no_form : (whole : List ℕ) (t : Token) (rest : List ℕ) → Begins whole t rest
    → ((n : ℕ) (now : List Bool) → has_constant_form (t ∷ tokens_in (tokens_at n now rest)) ≡ false)
    → false ≡ has_constant_form (tokens_read whole)
no_form whole t rest begins is =
    let n = length whole - 1 in
    sym (ap (λ (r : Tokens). has_constant_form (tokens_in r)) (whole_from whole t rest begins)
    ∙ first_then t rest (λ now. tokens_at n now rest) (nest [] t) (is n))

-- the first token is no constant and no global.get
pub other_token : (whole : List ℕ) (t : Token) (rest : List ℕ) → Begins whole t rest → false ≡ is_const_or_get t
    → false ≡ has_constant_form (tokens_read whole)
other_token whole t rest begins is =
    no_form whole t rest begins (λ n now. no_constant t (tokens_in (tokens_at n now rest)) (sym is))

-- no end stands after the first token
pub other_end : (whole : List ℕ) (t : Token) (rest : List ℕ) → Begins whole t rest → ((after : List ℕ) → rest ≢ 0x0B ∷ after)
    → false ≡ has_constant_form (tokens_read whole)
other_end whole t rest begins none =
    no_form whole t rest begins (λ n now. no_end_there t n now rest (λ after is. none after (end_spelled rest after is)))
