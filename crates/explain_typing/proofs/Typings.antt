-- What a token takes, and what the tokens before it left in the open blocks, is found by running the check over them one by one.
use Rattle.std.proofs.Common.{◌≡◌, ℕ, zero, suc, ◌+◌, ◌-◌, ◌<◌, Bool, true, false, List, [], ◌∷◌, ◌++◌, map, reverse, take, drop, option_map, Option, Some, None, refl, sym, ap, ◌∙◌, subst, append_assoc, add-one, arith}
use Rattle.std.proofs.lemmas.List.{reverse-append, map-append, reverse-reverse}
use Rattle.wsyntax.specs.declared.ValType.{ValType}
use Rattle.wsyntax.specs.declared.ValType.TheVariants.{I32}
use Rattle.wsyntax.specs.Types.{FuncType}
use Rattle.wsyntax.specs.Instructions.{Token, Do, OpenBlock, OpenLoop, OpenIf, Else, End}
use Rattle.wsyntax.specs.declared.instructions.BlockType.{BlockType}
use Rattle.wsyntax.specs.declared.module.LocalRun.{LocalRun}
use Rattle.wsyntax.specs.declared.instructions.Token.{Token as Held}
use Rattle.wsyntax.specs.Modules.{decoded_as}
use Rattle.std.specs.Bool.{IsTrue}
use Rattle.wsyntax.specs.Binary.Nesting.{token_at}
use Rattle.wsyntax.specs.Validation.Context.{Context, enter, block_sig}
use Rattle.wsyntax.specs.Validation.Algorithm.{Operands, Frame, Rule, on, when, run, step, context_in, pop_any}
use Rattle.wcheck.specs.Checking.{Checking, begun, with_frames}
use Rattle.wcheck.specs.Inspected.{IsInnermost, TakesOperand}
use Rattle.wcheck.specs.declared.checker.inspect.OpenFrame.{OpenFrame}
use Rattle.wcheck.specs.OperandRules.{indexed}
use Rattle.wcheck.specs.Views.{token_rule}
use Rattle.explain_bytes.specs.Locations.{left_after}
use Rattle.explain_typing.specs.Typed.{asked, pops, first_tokens, PassesTo, StepsTo, topmost, and_others, frame_type, block_types}

-- ---- the tokens before

on_into : {A B D : Type 0} (x : Option A) (f : A → Option B) (g : B → Option D) (h : A → Option D) → ((y : A) → h y ≡ on (f y) g) → on x h ≡ on (on x f) g
on_into None f g h e = refl
on_into (Some y) f g h e = e y

run-append : (C : Context) (ts us : List Token) (fs : List Frame) → run C (ts ++ us) fs ≡ on (run C ts fs) (run C us)
run-append C [] us fs = refl
run-append C (t ∷ ts) us fs = on_into (step C t fs) (run C ts) (run C us) (run C (ts ++ us)) (λ gs. run-append C ts us gs)

-- no token yet
pub none_passed : (now : Checking) (code : List ℕ) → PassesTo now code 0 now
none_passed now code = record { tokens = []; read = refl; reached = refl; same = refl }

one_read : (n : ℕ) (code bytes after : List ℕ) (ts : List Token) (t : Token) → first_tokens n code ≡ Some ts → left_after n code ≡ Some bytes
    → ◌≡◌ {A = Option (Token × List ℕ)} (token_at bytes) (Some (t, after)) → first_tokens (n + 1) code ≡ Some (ts ++ t ∷ [])
one_read n code bytes after ts t read left next = rw (add-one, read, left, next) refl

one_run : (C D : Context) (ts : List Token) (t : Token) (fs gs hs : List Frame) → D ≡ C → run C ts fs ≡ Some gs → step D t gs ≡ Some hs → run C (ts ++ t ∷ []) fs ≡ Some hs
one_run C D ts t fs gs hs e r s = run-append C ts (t ∷ []) fs ∙ rw (r, ← e, s) refl

-- one token more
pub pass_more : (old now new : Checking) (code bytes after : List ℕ) (n : ℕ) → left_after n code ≡ Some bytes → PassesTo old code n now → StepsTo bytes now after new
    → PassesTo old code (n + 1) new
pass_more old now new code bytes after n left p s = record {
  tokens = p.tokens ++ s.token ∷ [];
  read = one_read n code bytes after p.tokens s.token p.read left s.next;
  reached = one_run old.inside now.inside p.tokens s.token old.frames now.frames new.frames (ap (λ x. x.inside) p.same) p.reached s.step;
  same = s.same ∙ ap (λ x. with_frames x new.frames) p.same;
}

-- the check took the token, whose labels these are
pub stepped : (C : Context) (t : Held) (us ts : List ℕ) (fs gs : List Frame) (ok : Bool) → step C (decoded_as us t) fs ≡ when ok (Some gs) → us ≡ ts → ok ≡ true → step C (decoded_as ts t) fs ≡ Some gs
stepped C t us ts fs gs ok e l k = ap (λ z. step C (decoded_as z t) fs) (sym l) ∙ e ∙ ap (λ b. when b (Some gs)) k

-- the body has not ended
pub not_ended : (b : Bool) (fs : List Frame) → (fs ≡ [] → IsTrue b) → b ≡ false → fs ≡ [] → ⊥
not_ended true fs f e k = absurd cc
not_ended false fs f e k = let h : false ≡ true = f k in cc h

-- the beginning of the body, by its parts
pub from_beginning : (C D : Context) (f : ℕ) (runs other : List LocalRun) (code : List ℕ) (n : ℕ) (old now : Checking) → PassesTo old code n now → old ≡ begun D f other → D ≡ C → other ≡ runs
    → PassesTo (begun C f runs) code n now
from_beginning C D f runs other code n old now p e d r =
    subst (λ (z : Checking). PassesTo z code n now) (e ∙ ap (λ z. begun z f other) d ∙ ap (λ z. begun C f z) r) p

-- ---- the operands

map-reverse : {A B : Type 0} (f : A → B) (xs : List A) → map f (reverse xs) ≡ reverse (map f xs)
map-reverse f [] = refl
map-reverse f (x ∷ xs) =
    ap (map f) (reverse-append (x ∷ []) xs) ∙ map-append f (reverse xs) (x ∷ []) ∙ ap (λ z. z ++ f x ∷ []) (map-reverse f xs) ∙ sym (reverse-append (f x ∷ []) (map f xs))

pub listed_alone : (ts : List ValType) → reverse (map Some ts) ≡ map Some (reverse ts)
listed_alone ts = sym (map-reverse Some ts)

pub listed_indexed : (ts : List ValType) → reverse (map Some ts ++ Some I32 ∷ []) ≡ Some I32 ∷ map Some (reverse ts)
listed_indexed ts = reverse-append (map Some ts) (Some I32 ∷ []) ∙ ap (λ z. Some I32 ∷ z) (listed_alone ts)

-- one operand is taken: the others are taken after it
pub one_taken : (fs gs : List Frame) (x : Option ValType) (i n : ℕ) → i < n → TakesOperand fs gs (Some x) → topmost (n - i) fs ≡ x ∷ topmost (n - (i + 1)) gs
one_taken fs gs x i n lt e =
    let k : n - i ≡ suc (n - (i + 1)) = omega arith in
    rw k (ap (λ z. and_others z (topmost (n - (i + 1)))) e)

-- none is there
pub none_taken : (fs gs : List Frame) (n : ℕ) → TakesOperand fs gs None → topmost n fs ≡ []
none_taken fs gs zero e = refl
none_taken fs gs (suc n) e = ap (λ z. and_others z (topmost n)) e.0

abbrev others_of : List Frame → Option (Option ValType × List Frame) → List Frame
others_of d None = d
others_of d (Some x) = x.1

top_types : (f : Frame) (fs gs : List Frame) (x : Option ValType) (r : Option (Option ValType × Operands)) → ◌≡◌ {A = Option (Option ValType × List Frame)} (on r (λ y. Some (y.0, record f { operands = y.1 } ∷ fs))) (Some (x, gs))
    → map frame_type gs ≡ map frame_type (f ∷ fs)
top_types f fs gs x None e = absurd cc
top_types f fs gs x (Some y) e = let F : Option (Option ValType × List Frame) → List FuncType = λ z. map frame_type (others_of gs z) in sym (ap F e)

-- to take an operand changes no frame's type
pub taken_types : (fs gs : List Frame) (r : Option (Option ValType)) → TakesOperand fs gs r → map frame_type gs ≡ map frame_type fs
taken_types fs gs None e = ap (map frame_type) e.1
taken_types [] gs (Some x) e = absurd cc
taken_types (f ∷ fs) gs (Some x) e = top_types f fs gs x (pop_any f.operands) e

-- ---- the blocks

-- the innermost of two frames is a block
pub one_left : (f : Frame) (fs gs : List Frame) (i : ℕ) → i < 8 → (gs ≡ [] → ⊥) → gs ≡ fs → take (8 - i) (block_types (f ∷ fs)) ≡ frame_type f ∷ take (8 - (i + 1)) (block_types gs)
one_left f [] gs i lt some e = absurd (some e)
one_left f (g ∷ fs) gs i lt some e =
    let k : 8 - i ≡ suc (8 - (i + 1)) = omega arith in
    rw (k, e) refl

-- the type of a block that is told
told_type : (f : Frame) (starts gives : List ValType) → reverse starts ≡ f.starts → reverse gives ≡ f.gives → ◌≡◌ {A = FuncType} (record { params = starts; results = gives }) (frame_type f)
told_type f starts gives s g = rw (← s, ← g, reverse-reverse starts, reverse-reverse gives) refl

-- the innermost frame, which is not the function's, is left
pub block_left : (fs gs : List Frame) (g : OpenFrame) (t : FuncType) (i : ℕ) → i < 8 → IsInnermost fs g → gs ≡ drop 1 fs → (gs ≡ [] → ⊥)
    → t ≡ record { params = g.starts.now; results = g.gives.now } → take (8 - i) (block_types fs) ≡ t ∷ take (8 - (i + 1)) (block_types gs)
block_left fs gs g t i lt inner left some e =
    let k : gs ≡ inner.rest = left ∙ ap (drop 1) inner.frames in
    let h : t ≡ frame_type inner.frame = e ∙ told_type inner.frame g.starts.now g.gives.now inner.starts inner.gives in
    ap (λ z. take (8 - i) (block_types z)) inner.frames ∙ one_left inner.frame inner.rest gs i lt some k ∙ ap (λ z. z ∷ take (8 - (i + 1)) (block_types gs)) (sym h)

-- one more of a list is told
pub one_told : {A B : Type 0} (f : A → B) (xs ys : List A) (x : A) (us vs ws : List B) → ys ≡ xs ++ x ∷ [] → us ≡ f x ∷ vs → map f xs ++ us ≡ ws → map f ys ++ vs ≡ ws
one_told f xs ys x us vs ws e h w =
    ap (λ z. map f z ++ vs) e ∙ ap (λ z. z ++ vs) (map-append f xs (x ∷ [])) ∙ append_assoc (map f xs) (f x ∷ []) vs ∙ ap (λ z. map f xs ++ z) (sym h) ∙ w

-- ---- what is taken

-- what a token takes that opens a block
pub entered_block : (C : Context) (b : BlockType) (fs : List Frame) (g : OpenFrame) → IsInnermost fs g
    → option_map (λ s. map Some (indexed false (enter s))) (block_sig C.types b) ≡ pops C (OpenBlock b) fs
entered_block C b fs g i = rw i.frames refl

pub entered_loop : (C : Context) (b : BlockType) (fs : List Frame) (g : OpenFrame) → IsInnermost fs g
    → option_map (λ s. map Some (indexed false (enter s))) (block_sig C.types b) ≡ pops C (OpenLoop b) fs
entered_loop C b fs g i = rw i.frames refl

pub entered_if : (C : Context) (b : BlockType) (fs : List Frame) (g : OpenFrame) → IsInnermost fs g
    → option_map (λ s. map Some (indexed true (enter s))) (block_sig C.types b) ≡ pops C (OpenIf b) fs
entered_if C b fs g i = rw i.frames refl

rule_pops : (C : Context) (t : Token) (f : Frame) (fs : List Frame) (r : Rule) → Some r ≡ token_rule (context_in C (f ∷ fs)) t → pops C t (f ∷ fs) ≡ Some (asked r)
rule_pops C (Do i) f fs r e = ap (option_map asked) (sym e)
rule_pops C (OpenBlock b) f fs r e = absurd cc
rule_pops C (OpenLoop b) f fs r e = absurd cc
rule_pops C (OpenIf b) f fs r e = absurd cc
rule_pops C Else f fs r e = absurd cc
rule_pops C End f fs r e = absurd cc

-- what a token takes that has a rule
pub ruled : (C : Context) (t : Token) (fs : List Frame) (g : OpenFrame) (r : Rule) (p : List (Option ValType)) → IsInnermost fs g → Some r ≡ token_rule (context_in C fs) t → p ≡ asked r
    → Some p ≡ pops C t fs
ruled C t fs g r p i e h =
    let k : Some r ≡ token_rule (context_in C (i.frame ∷ i.rest)) t = e ∙ ap (λ z. token_rule (context_in C z) t) i.frames in
    ap Some h ∙ sym (rule_pops C t i.frame i.rest r k) ∙ ap (pops C t) (sym i.frames)
