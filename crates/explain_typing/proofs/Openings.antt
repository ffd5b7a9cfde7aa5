-- What opened the open blocks, token by token.
use Rattle.std.proofs.Common.{◌≡◌, ℕ, zero, suc, ◌+◌, ◌-◌, List, [], ◌∷◌, ◌++◌, length, reverse, Option, Some, refl, sym, ap, ◌∙◌, subst, add-one, arith}
use Rattle.std.specs.Prelude.{Result, Ok, Err, IfOk, IfSome, slice_get}
use Rattle.std.proofs.lemmas.List.{length-append, length-reverse, reverse-reverse}
use Rattle.wsyntax.specs.declared.module.LocalRun.{LocalRun}
use Rattle.wsyntax.specs.Binary.Sections.{locals}
use Rattle.wdecode.specs.declared.fault.Fault.{Fault}
use Rattle.wsyntax.specs.Instructions.{Token}
use Rattle.wsyntax.specs.Binary.Nesting.{token_at}
use Rattle.explanation.specs.declared.typing.OpenBlock.{OpenBlock}
use Rattle.explanation.specs.declared.typing.OpenBlocks.{OpenBlocks}
use Rattle.explanation.specs.declared.typing.Opening.{Opening}
use Rattle.explain_bytes.specs.Locations.{left_after}
use Rattle.explain_typing.specs.declared.trail.Trail.{Trail}
use Rattle.explain_typing.specs.Typed.{opened_by, opened_next, opened_after, IsOpening, AreKept, AreOpenAfter, AreOpenings, AreOutermost, KeepsCode}

-- by the token that stands at the front
pub opened_read : (bytes after opened new : List ℕ) (t : Token) (at : ℕ) → ◌≡◌ {A = Option (Token × List ℕ)} (token_at bytes) (Some (t, after)) → new ≡ opened_by t at opened
    → new ≡ opened_next (token_at bytes) at opened
opened_read bytes after opened new t at e h = h ∙ ap (λ (x : Option (Token × List ℕ)). opened_next x at opened) (sym e)

-- one token more
pub opened_more : (n : ℕ) (code same bytes opened new : List ℕ) → left_after n code ≡ Some bytes → same ≡ code → opened ≡ opened_after n code
    → new ≡ opened_next (token_at bytes) (length same - length bytes) opened → new ≡ opened_after (n + 1) code
opened_more n code same bytes opened new l s o h =
    let one : opened_after (n + 1) code ≡ opened_next (token_at bytes) (length code - length bytes) (opened_after n code) = rw (add-one, l) refl in
    h ∙ ap (λ z. opened_next (token_at bytes) (length z - length bytes) opened) s ∙ ap (opened_next (token_at bytes) (length code - length bytes)) o ∙ sym one

pub each_more : {X : Type 0} (P : ℕ → X → Type 0) (xs : List X) (x : X) → ((k : ℕ) (y : X) → slice_get xs k ≡ Some y → P k y) → P (length xs) x
    → (k : ℕ) (y : X) → slice_get (xs ++ x ∷ []) k ≡ Some y → P k y
each_more P [] x h p zero y e = let same : x ≡ y = cc in subst (P 0) same p
each_more P [] x h p (suc k) y e = absurd (let no : ⊥ = cc in no)
each_more P (z ∷ xs) x h p zero y e = h zero y e
each_more P (z ∷ xs) x h p (suc k) y e = each_more (λ i w. P (suc i) w) xs x (λ i w g. h (suc i) w g) p k y e

-- no block yet
pub none_opened : (code : List ℕ) (start : ℕ) (opened : List ℕ) → AreOpenings code start opened []
none_opened code start opened = λ k b e. let no : ⊥ = cc in absurd no

-- one block more
pub openings_more : (code : List ℕ) (start : ℕ) (opened : List ℕ) (blocks new : List OpenBlock) (b : OpenBlock) (n : ℕ) → new ≡ blocks ++ b ∷ [] → length blocks ≡ n
    → IfSome b.opening (IsOpening code start opened n) → AreOpenings code start opened blocks → AreOpenings code start opened new
openings_more code start opened blocks new b n e l told before =
    let here : IfSome b.opening (IsOpening code start opened (length blocks)) = subst (λ i. IfSome b.opening (IsOpening code start opened i)) (sym l) told in
    let all : AreOpenings code start opened (blocks ++ b ∷ []) = each_more (λ i (w : OpenBlock). IfSome w.opening (IsOpening code start opened i)) blocks b before here in
    subst (λ (z : List OpenBlock). AreOpenings code start opened z) (sym e) all

-- the outermost of them, the outermost first

pub no_outermost : (code : List ℕ) (start : ℕ) (opened : List ℕ) (blocks : List Opening) → blocks ≡ [] → AreOutermost code start opened blocks
no_outermost code start opened blocks e = subst (λ (z : List Opening). AreOutermost code start opened z) (sym e) (λ k o g. let no : ⊥ = cc in absurd no)

pub outermost_more : (code : List ℕ) (start : ℕ) (opened : List ℕ) (blocks new : List Opening) (o : Opening) (n : ℕ) → new ≡ blocks ++ o ∷ [] → length blocks ≡ n
    → IsOpening code start opened n o → AreOutermost code start opened blocks → AreOutermost code start opened new
outermost_more code start opened blocks new o n e l told before =
    let here : IsOpening code start opened (length blocks) o = subst (λ i. IsOpening code start opened i o) (sym l) told in
    let all : AreOutermost code start opened (blocks ++ o ∷ []) = each_more (λ i (w : Opening). IsOpening code start opened i w) blocks o before here in
    subst (λ (z : List Opening). AreOutermost code start opened z) (sym e) all

-- one item more
pub one_longer : {X : Type 0} (xs ys : List X) (x : X) (n : ℕ) → ys ≡ xs ++ x ∷ [] → length xs ≡ n → length ys ≡ n + 1
one_longer xs ys x n e l = omega (arith, ap length e, length-append xs (x ∷ []), l)

-- what is told by what is kept is so of the code
pub kept_told : (new now : Trail) (code : List ℕ) (begins start n : ℕ) (blocks : List OpenBlock) → new.code.now ≡ code → new.start ≡ begins → begins ≡ start → KeepsCode new now
    → reverse now.opened.items ≡ opened_after n code → AreKept now blocks → AreOpenings code start (opened_after n code) blocks
kept_told new now code begins start n blocks c s b same opened kept =
    let one : AreOpenings code now.start (reverse now.opened.items) blocks = subst (λ (z : List ℕ). AreOpenings z now.start (reverse now.opened.items) blocks) (same.0 ∙ c) kept in
    let two : AreOpenings code start (reverse now.opened.items) blocks = subst (λ (z : ℕ). AreOpenings code z (reverse now.opened.items) blocks) (same.1 ∙ s ∙ b) one in
    subst (λ (z : List ℕ). AreOpenings code start z blocks) opened two

pub open_told : (new now : Trail) (code : List ℕ) (body : List ℕ) (begins start n : ℕ) (runs : List LocalRun) (blocks : Result OpenBlocks Fault) → locals.read body ≡ Some (runs, code)
    → new.code.now ≡ code → new.start ≡ begins → begins ≡ start + (length body - length code) → KeepsCode new now → reverse now.opened.items ≡ opened_after n code
    → IfOk blocks (λ o. o.count ≡ length now.opened.items) → IfOk blocks (λ o. AreOutermost now.code.now now.start now.opened.items o.outermost.items)
    → IfOk blocks (AreOpenAfter body start n)
open_told new now code body begins start n runs (Ok o) declared c s b same opened count told =
    let from = start + (length body - length code) in
    let one = subst (λ (z : List ℕ). AreOutermost z now.start now.opened.items o.outermost.items) (same.0 ∙ c) told in
    let two = subst (λ (z : ℕ). AreOutermost code z now.opened.items o.outermost.items) (same.1 ∙ s ∙ b) one in
    record {
      runs = runs;
      code = code;
      declared = declared;
      count = count ∙ sym (length-reverse now.opened.items) ∙ ap length opened;
      outermost = subst (λ (z : List ℕ). AreOutermost code from z o.outermost.items) (sym (reverse-reverse now.opened.items) ∙ ap reverse opened) two;
    }
open_told new now code body begins start n runs (Err f) declared c s b same opened count told = tt
