-- One loop that reads and judges a body finds the refusal that the definition has (`refusal_few`, `refusal_many`, `refusal_none`).
-- It goes token by token: what is known before a token and what is known after it give the body the same refusal (`TellsSame`).
-- The functions of src/body.rt cite it, `Scratch::pass` of src/passing.rt cites `body_passes`, and KeptPass.antt two lemmas on reading.
use Rattle.std.proofs.Common.{◌≡◌, ℕ, suc, ◌+◌, ◌-◌, ◌<◌, ◌≤◌, Bool, true, false, cond, eqb, leb, ltb, List, [], ◌∷◌, ◌++◌, length, reverse, Option, Some, None, Ok, Err, refl, sym, ap, subst, ◌∙◌, arith}
use Rattle.std.proofs.lemmas.Bool.{eqb-true, ltb-true, ltb-false, leb-true, le-leb}
use Rattle.std.proofs.lemmas.List.{append-nil, nil_from_length}
use Rattle.wnum.specs.Reading.{◌>>=◌}
use Rattle.wsyntax.specs.Modules.{decoded_as}
use Rattle.wsyntax.specs.declared.instructions.Token.{Token as Held}
use Rattle.wsyntax.specs.Instructions.{Token}
use Rattle.wsyntax.specs.declared.module.LocalRun.{LocalRun}
use Rattle.wsyntax.specs.Binary.Production.{whole_at}
use Rattle.wsyntax.specs.Binary.Nesting.{token_at, nest, tokens_at, expression}
use Rattle.wsyntax.specs.Binary.Sections.{locals, body, locals_of}
use Rattle.wsyntax.specs.Binary.Shell.{local_limit}
use Rattle.wsyntax.specs.Validation.Context.{Context, body_context}
use Rattle.wsyntax.specs.Validation.Algorithm.{Frame, when, step, start, alg_from}
use Rattle.wsyntax.specs.Validation.ModuleContext.{function_context}
use Rattle.wsyntax.specs.Validation.Verdict.{result_of}
use Rattle.wcheck.specs.Checking.{Checking, begun, with_frames}
use Rattle.wdecode.specs.declared.fault.Fault.{Fault}
use Rattle.wdecode.specs.declared.fault.Fault.TheVariants as fault
use Rattle.wdecode.specs.Gives.{Fails}
use Rattle.refusal.specs.declared.refusal.BodyRefusal.{BodyRefusal}
use Rattle.refusal.specs.declared.refusal.BodyRefusal.TheVariants.{Malformed, TooManyLocals, IllTyped}
use Rattle.verdict.specs.declared.body.Known.{Known}
use Rattle.verdict.specs.declared.body.Known.TheVariants.{Nothing, Stop, Refusal}
use Rattle.verdict.specs.declared.passing.Passing.{Passing}
use Rattle.verdict.specs.declared.passing.Passing.TheVariants.{Passed, Stopped, Unknown}
use Rattle.verdict.specs.Judged.{typing_refusal, body_refusal_of, read_refusal}
use Rattle.verdict.specs.OnePass.{Reaches, Refuses, StopsAt, TokensPass}
use Rattle.verdict.specs.WholeBodies.{IsKnown, refusal_from, GoesOn, AtEnd, refusal_behind, refusal_read, GivesRefusal, Judges, BodyPasses}
use Rattle.verdict.proofs.OnePass.{not_refused}

is_false : (b : Bool) → (b ≡ true → ⊥) → b ≡ false
is_false true never = absurd (never refl)
is_false false never = refl

not_zero : (n : ℕ) → eqb (suc n) 0 ≡ false
not_zero n = is_false (eqb (suc n) 0) (λ e. let is : suc n ≡ 0 = eqb-true _ _ e in absurd (omega arith))

-- ---- where tokens stop

-- what is left is no longer than what was there
reaches_down : (C : Context) (ts : List Token) (fs gs : List Frame) (bytes rest : List ℕ) → Reaches C fs bytes ts gs rest → length rest ≤ length bytes
reaches_down C [] fs gs bytes rest p = omega (arith, ap length p.1)
reaches_down C (t ∷ ts) fs gs bytes rest p =
    let down : length rest ≤ length p.0 = reaches_down C ts p.1 gs p.0 rest p.5 in
    let lt = p.3 in
    omega arith

-- where that many bytes are left the token is refused
refused_here : (C : Context) (ts : List Token) (fs gs : List Frame) (bytes rest after : List ℕ) (t : Token) → Reaches C fs bytes ts gs rest → Refuses C gs rest → token_at bytes ≡ Some (t, after) → length bytes ≡ length rest → step C t fs ≡ None
refused_here C [] fs gs bytes rest after t p refuses read e = ap (step C t) p.0 ∙ refuses t after (ap token_at (sym p.1) ∙ read)
refused_here C (u ∷ us) fs gs bytes rest after t p refuses read e =
    let down : length rest ≤ length p.0 = reaches_down C us p.1 gs p.0 rest p.5 in
    let lt = p.3 in
    absurd (omega arith)

pub same_read : (x y : Token × List ℕ) (o : Option (Token × List ℕ)) → o ≡ Some x → o ≡ Some y → x ≡ y
same_read x y o a b = let e : Some x ≡ Some y = sym a ∙ b in cc

-- before the stop it is taken
taken_here : (C : Context) (ts : List Token) (fs gs : List Frame) (bytes rest after : List ℕ) (t : Token) → Reaches C fs bytes ts gs rest → token_at bytes ≡ Some (t, after) → (length bytes ≡ length rest → ⊥)
    → (hs : List Frame) × (us : List Token) × (step C t fs ≡ Some hs) × Reaches C hs after us gs rest
taken_here C [] fs gs bytes rest after t p read ne = absurd (ne (ap length p.1))
taken_here C (u ∷ us) fs gs bytes rest after t p read ne =
    let same = same_read (u, p.0) (t, after) (token_at bytes) p.2 read in
    (p.1, us, ap (λ (x : Token × List ℕ). step C x.0 fs) (sym same) ∙ p.4, subst (λ (x : Token × List ℕ). Reaches C p.1 x.1 us gs rest) same p.5)

-- where no bytes are left a frame is open
still_open : (C : Context) (ts : List Token) (fs gs : List Frame) (rest : List ℕ) → Reaches C fs [] ts gs rest → (gs ≡ [] → rest ≡ [] → ⊥) → fs ≡ [] → ⊥
still_open C [] fs gs rest p some none = some (sym p.0 ∙ none) (sym p.1)
still_open C (t ∷ ts) fs gs rest p some none = let lt = p.3 in absurd (omega arith)

-- ---- a look at a token

pub goes_further : (old new : Checking) (k left stop : ℕ) (t : Token) → (left ≡ stop → ⊥) → GoesOn old (Stop stop) k left t new (Stop stop)
goes_further old new k left stop t ne C fs bytes rest is read h =
    let on = taken_here C h.0 fs h.1 bytes h.2 rest t h.3 read (λ e. ne (sym is ∙ e ∙ h.4)) in
    (on.0, (on.1, h.1, h.2, on.3, h.4, h.5, h.6), (λ after. rw on.2 refl))

pub goes_there : (old new : Checking) (k left stop : ℕ) (t : Token) → left ≡ stop → GoesOn old (Stop stop) k left t new (Refusal (IllTyped k))
goes_there old new k left stop t there C fs bytes rest is read h =
    let refused = refused_here C h.0 fs h.1 bytes h.2 rest t h.3 h.5 read (is ∙ there ∙ sym h.4) in
    (fs, tt, (λ after. rw refused refl))

pub goes_taken : (old new : Checking) (k left : ℕ) (t : Token) (ok : Bool) → step old.inside t old.frames ≡ when ok (Some new.frames) → ok ≡ true → new ≡ with_frames old new.frames → GoesOn old Nothing k left t new Nothing
goes_taken old new k left t ok step_is taken same C fs bytes rest is read h =
    let on : step C t fs ≡ Some new.frames = ap (λ (x : Context). step x t fs) (sym h.0) ∙ ap (step old.inside t) (sym h.1) ∙ step_is ∙ ap (λ (x : Bool). when x (Some new.frames)) taken in
    (new.frames, (ap (λ (x : Checking). x.inside) same ∙ h.0, refl), (λ after. rw on refl))

-- ---- after the last token

open_refused : (C : Context) (fs : List Frame) (count : ℕ) → (fs ≡ [] → ⊥) → Some (IllTyped count) ≡ typing_refusal (alg_from C [] fs count)
open_refused C [] count some = absurd (some refl)
open_refused C (f ∷ fs) count some = refl

pub ends_stopped : (x : Checking) (count stop : ℕ) → AtEnd x (Stop stop) count (Some (IllTyped count))
ends_stopped x count stop C fs h = open_refused C fs count (still_open C h.0 fs h.1 h.2 h.3 h.6)

-- ---- the loop

-- what is known with the token t, and the frames after it, tell the same of the tokens that come
abbrev KeepsRefusal : Context → Known → List Frame → ℕ → Token → Known → List Frame → Type 0
KeepsRefusal C known fs k t now gs = (ts : List Token) → refusal_from C known fs k (t ∷ ts) ≡ refusal_from C now gs (k + 1) ts

one_more : (C : Context) (known now : Known) (fs gs : List Frame) (k : ℕ) (t : Token) (o : Option (List Token × List ℕ)) → KeepsRefusal C known fs k t now gs → refusal_read C known fs k (o >>= λ x. Some (t ∷ x.0, x.1)) ≡ refusal_read C now gs (k + 1) o
one_more C known now fs gs k t None on = refl
one_more C known now fs gs k t (Some x) on = ap (refusal_behind x.1) (on x.0)

-- the token moves what is open
abbrev pub Moves : List Bool → List Bool → Token → Bool → Type 0
Moves s now t ends = nest s t ≡ Some (cond ends None (Some now))

-- a token is read after which blocks stay open, or the body
reads_on : (C : Context) (known now : Known) (fs gs : List Frame) (k fuel m : ℕ) (s inner : List Bool) (rest after : List ℕ) (t : Token) (ends : Bool) → fuel ≡ suc m → token_at rest ≡ Some (t, after) → Moves s inner t ends → ends ≡ false → KeepsRefusal C known fs k t now gs
    → refusal_read C now gs (k + 1) (tokens_at m inner after) ≡ refusal_read C known fs k (tokens_at fuel s rest)
reads_on C known now fs gs k fuel m s inner rest after t ends e read moves open_still on =
    let opened : nest s t ≡ Some (Some inner) = moves ∙ ap (λ (b : Bool). Some (cond b None (Some inner))) open_still in
    let one : tokens_at fuel s rest ≡ (tokens_at m inner after >>= λ x. Some (t ∷ x.0, x.1)) = rw (e, read, opened) refl in
    sym (ap (refusal_read C known fs k) one ∙ one_more C known now fs gs k t (tokens_at m inner after) on)

-- a token is read that closes the body
reads_last : (C : Context) (known now : Known) (fs gs : List Frame) (k fuel m : ℕ) (s inner : List Bool) (rest after : List ℕ) (t : Token) (ends : Bool) → fuel ≡ suc m → token_at rest ≡ Some (t, after) → Moves s inner t ends → ends ≡ true → KeepsRefusal C known fs k t now gs
    → refusal_read C known fs k (tokens_at fuel s rest) ≡ refusal_behind after (refusal_from C now gs (k + 1) [])
reads_last C known now fs gs k fuel m s inner rest after t ends e read moves at_end on =
    let closed : nest s t ≡ Some None = moves ∙ ap (λ (b : Bool). Some (cond b None (Some inner))) at_end in
    let one : tokens_at fuel s rest ≡ Some (t ∷ [], after) = rw (e, read, closed) refl in
    ap (refusal_read C known fs k) one ∙ ap (refusal_behind after) (on [])

-- bytes are left
left_over : (bytes : List ℕ) (c : Option BodyRefusal) → eqb (length bytes) 0 ≡ false → refusal_behind bytes c ≡ Some Malformed
left_over [] c e = absurd cc
left_over (b ∷ bytes) c e = refl

-- no token is read
reads_none : (C : Context) (known : Known) (fs : List Frame) (k fuel m : ℕ) (s : List Bool) (rest : List ℕ) (e : Fault) → fuel ≡ suc m → Fails e (token_at rest) → GivesRefusal (Err e) (refusal_read C known fs k (tokens_at fuel s rest))
reads_none C known fs k fuel m s rest fault.Memory is fails = tt
reads_none C known fs k fuel m s rest fault.Malformed is fails =
    let one : tokens_at fuel s rest ≡ None = rw (is, fails) refl in
    ap (refusal_read C known fs k) one

-- a token is read that cannot stand there
stands_nowhere : (C : Context) (known : Known) (fs : List Frame) (k fuel m : ℕ) (s : List Bool) (rest after : List ℕ) (t : Token) (e : Fault) → fuel ≡ suc m → token_at rest ≡ Some (t, after) → Fails e (nest s t) → GivesRefusal (Err e) (refusal_read C known fs k (tokens_at fuel s rest))
stands_nowhere C known fs k fuel m s rest after t fault.Memory is read fails = tt
stands_nowhere C known fs k fuel m s rest after t fault.Malformed is read fails =
    let one : tokens_at fuel s rest ≡ None = rw (is, read, fails) refl in
    ap (refusal_read C known fs k) one

-- nothing is read yet
begin_reading : (C : Context) (known : Known) (fs : List Frame) (bytes : List ℕ) (opened : List Bool) → opened ≡ [] → refusal_read C known fs 0 (tokens_at (length bytes - 0) (reverse opened) bytes) ≡ refusal_read C known fs 0 (expression.read bytes)
unfolding expression
begin_reading C known fs bytes opened e =
    let all : length bytes - 0 ≡ length bytes = omega arith in
    ap (λ (n : ℕ). refusal_read C known fs 0 (tokens_at n (reverse opened) bytes)) all ∙ ap (λ (s : List Bool). refusal_read C known fs 0 (tokens_at (length bytes) (reverse s) bytes)) e

-- what was known of the tokens in these bytes tells the same as what is known now, before the token k
abbrev pub TellsSame : Checking → Known → List ℕ → Checking → Known → ℕ → ℕ → List Bool → List ℕ → Type 0
TellsSame x known bytes y now k fuel s rest =
    (C : Context) (fs : List Frame) → IsKnown C fs x bytes known → (gs : List Frame) × IsKnown C gs y rest now × (refusal_read C now gs k (tokens_at fuel s rest) ≡ refusal_read C known fs 0 (expression.read bytes))

pub begins : (x : Checking) (known : Known) (bytes : List ℕ) (opened : List Bool) → opened ≡ [] → TellsSame x known bytes x known 0 (length bytes - 0) (reverse opened) bytes
begins x known bytes opened e C fs h = (fs, h, begin_reading C known fs bytes opened e)

-- the token t is read and looked at, and the body goes on
pub reads_one : (x y z : Checking) (known now next : Known) (bytes rest after : List ℕ) (k fuel m left : ℕ) (s inner : List Bool) (t : Token) (ends : Bool) → fuel ≡ suc m → length rest ≡ left → token_at rest ≡ Some (t, after) → GoesOn y now k left t z next → Moves s inner t ends → ends ≡ false
    → TellsSame x known bytes y now k fuel s rest → TellsSame x known bytes z next (k + 1) m inner after
reads_one x y z known now next bytes rest after k fuel m left s inner t ends e is read goes moves open_still so C fs h =
    let o = so C fs h in
    let g = goes C o.0 rest after is read o.1 in
    (g.0, g.1, reads_on C now next o.0 g.0 k fuel m s inner rest after t ends e read moves open_still g.2 ∙ o.2)

-- the token t is read and looked at, and closes the body
pub closes_body : (x y z : Checking) (known now next : Known) (bytes rest after : List ℕ) (k fuel m left : ℕ) (s inner : List Bool) (t : Token) (ends : Bool) (given : Option BodyRefusal) → fuel ≡ suc m → length rest ≡ left → token_at rest ≡ Some (t, after) → GoesOn y now k left t z next → Moves s inner t ends → ends ≡ true → eqb (length after) 0 ≡ true → AtEnd z next (k + 1) given
    → TellsSame x known bytes y now k fuel s rest → Judges x known bytes (Ok given)
closes_body x y z known now next bytes rest after k fuel m left s inner t ends given e is read goes moves at_end empty end so C fs h =
    let o = so C fs h in
    let g = goes C o.0 rest after is read o.1 in
    let none : after ≡ [] = nil_from_length after (eqb-true _ _ empty) in
    sym o.2 ∙ reads_last C now next o.0 g.0 k fuel m s inner rest after t ends e read moves at_end g.2 ∙ ap (λ (r : List ℕ). refusal_behind r (refusal_from C next g.0 (k + 1) [])) none
    ∙ sym (end C g.0 (subst (λ (r : List ℕ). IsKnown C g.0 z r next) none g.1))

-- bytes are left after the token that closes the body
pub closes_early : (x y z : Checking) (known now next : Known) (bytes rest after : List ℕ) (k fuel m left : ℕ) (s inner : List Bool) (t : Token) (ends : Bool) → fuel ≡ suc m → length rest ≡ left → token_at rest ≡ Some (t, after) → GoesOn y now k left t z next → Moves s inner t ends → ends ≡ true → eqb (length after) 0 ≡ false
    → TellsSame x known bytes y now k fuel s rest → Judges x known bytes (Err fault.Malformed)
closes_early x y z known now next bytes rest after k fuel m left s inner t ends e is read goes moves at_end some so C fs h =
    let o = so C fs h in
    let g = goes C o.0 rest after is read o.1 in
    sym o.2 ∙ reads_last C now next o.0 g.0 k fuel m s inner rest after t ends e read moves at_end g.2 ∙ left_over after (refusal_from C next g.0 (k + 1) []) some

-- no token is there
pub none_there : (x y : Checking) (known now : Known) (bytes rest : List ℕ) (k fuel m : ℕ) (s : List Bool) (f : Fault) → fuel ≡ suc m → Fails f (token_at rest) → TellsSame x known bytes y now k fuel s rest → Judges x known bytes (Err f)
none_there x y known now bytes rest k fuel m s f e fails so C fs h =
    let o = so C fs h in
    subst (λ (c : Option BodyRefusal). GivesRefusal (Err f) c) o.2 (reads_none C now o.0 k fuel m s rest f e fails)

-- the token cannot stand there
pub cannot_stand : (x y : Checking) (known now : Known) (bytes rest after : List ℕ) (k fuel m : ℕ) (s : List Bool) (t : Token) (f : Fault) → fuel ≡ suc m → token_at rest ≡ Some (t, after) → Fails f (nest s t) → TellsSame x known bytes y now k fuel s rest → Judges x known bytes (Err f)
cannot_stand x y known now bytes rest after k fuel m s t f e read fails so C fs h =
    let o = so C fs h in
    subst (λ (c : Option BodyRefusal). GivesRefusal (Err f) c) o.2 (stands_nowhere C now o.0 k fuel m s rest after t f e read fails)

-- the body is not closed
pub unclosed : (x y : Checking) (known now : Known) (bytes rest : List ℕ) (k fuel : ℕ) (s : List Bool) → fuel ≡ 0 → TellsSame x known bytes y now k fuel s rest → Judges x known bytes (Err fault.Malformed)
unclosed x y known now bytes rest k fuel s e so C fs h =
    let o = so C fs h in
    sym o.2 ∙ ap (λ (n : ℕ). refusal_read C now o.0 k (tokens_at n s rest)) e

-- the token that is read, seen by what was lent
pub read_lent : (rest after labels lent : List ℕ) (token : Held) → token_at rest ≡ Some (decoded_as (labels ++ []) token, after) → lent ≡ labels → token_at rest ≡ Some (decoded_as lent token, after)
read_lent rest after labels lent token read is =
    read ∙ ap (λ (x : List ℕ). Some (decoded_as x token, after)) (append-nil labels ∙ sym is)

-- ---- the body

lt-not-le : (n : ℕ) → local_limit < n → leb n local_limit ≡ false
lt-not-le n lt = is_false (leb n local_limit) (λ e. let le : n ≤ local_limit = leb-true _ _ e in absurd (omega arith))

-- what is read as an expression, and the runs, are the body, if no byte is after
whole_many : (C : Context) (f : ℕ) (runs : List LocalRun) (D : Context) (fs : List Frame) (o : Option (List Token × List ℕ)) → leb (locals_of runs) local_limit ≡ false
    → read_refusal C f (o >>= λ x. cond (eqb (length x.1) 0) (Some record { runs = runs; code = x.0 }) None) ≡ refusal_read D (Refusal TooManyLocals) fs 0 o
whole_many C f runs D fs None many = refl
whole_many C f runs D fs (Some (ts, [])) many = rw many refl
whole_many C f runs D fs (Some (ts, b ∷ bs)) many = rw (not_zero (length bs)) refl

whole_few : (C : Context) (f : ℕ) (runs : List LocalRun) (o : Option (List Token × List ℕ)) → leb (locals_of runs) local_limit ≡ true
    → read_refusal C f (o >>= λ x. cond (eqb (length x.1) 0) (Some record { runs = runs; code = x.0 }) None) ≡ refusal_read (body_context (result_of C f) (function_context C f runs)) Nothing (start (result_of C f)) 0 o
whole_few C f runs None few = refl
whole_few C f runs (Some (ts, [])) few = rw few refl
whole_few C f runs (Some (ts, b ∷ bs)) few = rw (not_zero (length bs)) refl

pub body_read : (bytes rest : List ℕ) (runs : List LocalRun) (o : Option (List Token × List ℕ)) → locals.read bytes ≡ Some (runs, rest) → expression.read rest ≡ o
    → whole_at body.read bytes ≡ (o >>= λ x. cond (eqb (length x.1) 0) (Some record { runs = runs; code = x.0 }) None)
unfolding body
body_read bytes rest runs None a b = rw (a, b) refl
body_read bytes rest runs (Some x) a b = rw (a, b) refl

-- the body is refused for its locals, if its bytes spell one
pub refusal_many : (C : Context) (f : ℕ) (bytes rest : List ℕ) (runs : List LocalRun) (D : Context) (fs : List Frame) → locals.read bytes ≡ Some (runs, rest) → ltb local_limit (locals_of runs) ≡ true → body_refusal_of C f bytes ≡ refusal_read D (Refusal TooManyLocals) fs 0 (expression.read rest)
unfolding body_refusal_of
refusal_many C f bytes rest runs D fs a many =
    let no : leb (locals_of runs) local_limit ≡ false = lt-not-le (locals_of runs) (ltb-true _ _ many) in
    ap (read_refusal C f) (body_read bytes rest runs (expression.read rest) a refl) ∙ whole_many C f runs D fs (expression.read rest) no

-- the body is judged by its tokens
pub refusal_few : (C : Context) (f : ℕ) (bytes rest : List ℕ) (runs lent : List LocalRun) (x : Checking) → locals.read bytes ≡ Some (runs, rest) → ltb local_limit (locals_of runs) ≡ false → lent ≡ runs → x ≡ begun C f lent → body_refusal_of C f bytes ≡ refusal_read x.inside Nothing x.frames 0 (expression.read rest)
unfolding body_refusal_of
refusal_few C f bytes rest runs lent x a few is e =
    let le : leb (locals_of runs) local_limit ≡ true = le-leb _ _ (ltb-false _ _ few) in
    ap (read_refusal C f) (body_read bytes rest runs (expression.read rest) a refl) ∙ whole_few C f runs (expression.read rest) le
    ∙ ap (λ (y : List LocalRun). refusal_read (body_context (result_of C f) (function_context C f y)) Nothing (start (result_of C f)) 0 (expression.read rest)) (sym is)
    ∙ ap (λ (y : Checking). refusal_read y.inside Nothing y.frames 0 (expression.read rest)) (sym e)

-- no token is refused before the stop
as_stopped : (C : Context) (left : ℕ) (fs : List Frame) (o : Option (List Token × List ℕ)) → refusal_read C Nothing fs 0 o ≡ refusal_read C (Stop left) fs 0 o
as_stopped C left fs None = refl
as_stopped C left fs (Some x) = refl

-- what one loop says of the tokens of the body
pub body_passes : (C : Context) (f : ℕ) (bytes rest : List ℕ) (runs lent : List LocalRun) (x : Checking) (given : Passing) → locals.read bytes ≡ Some (runs, rest) → ltb local_limit (locals_of runs) ≡ false → lent ≡ runs → x ≡ begun C f lent → TokensPass x.inside x.frames rest given → BodyPasses C f bytes given
body_passes C f bytes rest runs lent x Passed a few is e h =
    refusal_few C f bytes rest runs lent x a few is e ∙ not_refused x.inside (result_of C f) x.frames rest h.0 (ap (λ (y : Checking). y.frames) e) h.1
body_passes C f bytes rest runs lent x (Stopped tokens left) a few is e h =
    let same : rest ≡ tokens.now = sym h.0 in (
      x.inside,
      x.frames,
      subst (λ (r : List ℕ). StopsAt x.inside x.frames r left) same h.1,
      refusal_few C f bytes rest runs lent x a few is e ∙ as_stopped x.inside left x.frames (expression.read rest) ∙ ap (λ (r : List ℕ). refusal_read x.inside (Stop left) x.frames 0 (expression.read r)) same,
    )
body_passes C f bytes rest runs lent x Unknown a few is e h = tt

-- no runs of locals are read
pub refusal_none : (C : Context) (f : ℕ) (bytes : List ℕ) (e : Fault) → Fails e (locals.read bytes) → GivesRefusal (Err e) (body_refusal_of C f bytes)
unfolding body_refusal_of body
refusal_none C f bytes fault.Memory fails = tt
refusal_none C f bytes fault.Malformed fails = rw fails refl
