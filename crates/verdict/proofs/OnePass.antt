-- A body that passes in one loop is accepted: the theorem is `not_refused`.
-- The frames tell which blocks are open, by cases of the token (`follows`); by induction over the tokens all are read, and each is taken.
-- Functions of src/passing.rt and src/front_token.rt cite it, and so do WholeBodies.antt, KeptPass.antt and FrontTokens.antt.
use Rattle.std.proofs.Common.{Bor, ◌≡◌, ℕ, zero, suc, ◌+◌, ◌-◌, get_or, take, drop, ◌<◌, ◌≤◌, Bool, true, false, List, [], ◌∷◌, ◌++◌, length, Option, Some, None, Result, Ok, Err, IfOk, refl, sym, ap, subst, ◌∙◌, arith}
use Rattle.std.proofs.lemmas.List.{append-nil, take_rest}
use Rattle.wnum.specs.Reading.{◌>>=◌}
use Rattle.wsyntax.specs.Instructions.{Token, Do, Drop, Select, Return, Unreachable, Nop, OpenBlock, OpenLoop, OpenIf, Else, End}
use Rattle.wsyntax.specs.Types.{FuncType}
use Rattle.wsyntax.specs.declared.ValType.TheVariants.{I32}
use Rattle.wsyntax.specs.Modules.{decoded_as}
use Rattle.wsyntax.specs.declared.instructions.Token.{Token as Held}
use Rattle.wsyntax.specs.Table.{opcode_of}
use Rattle.wsyntax.specs.Binary.Instructions.{plain_instruction}
use Rattle.wsyntax.specs.Binary.Nesting.{token_at, nest, and_then, tokens_at, expression}
use Rattle.wsyntax.specs.Validation.Context.{Stack, Context, enter, leave, block_sig}
use Rattle.wsyntax.specs.Validation.Algorithm.{Accepted, Operands, Frame, on, when, rule, apply, pop_all, pop_one, open_frame, ends_with, may_lack_else, pass_on, context_in, push_list, fresh, step, start, alg_from}
use Rattle.wcheck.specs.Checking.{Checking, with_frames}
use Rattle.wdecode.specs.Gives.{ReadsPlain, ReadsBracket}
use Rattle.verdict.specs.Judged.{typing_refusal}
use Rattle.verdict.specs.OnePass.{Takes, Passes, first_token, Reaches, PassesAs}
use Rattle.verdict.specs.declared.passing.FirstToken.{FirstToken}
use Rattle.verdict.specs.WholeBodies.{refusal_read}
use Rattle.verdict.specs.declared.body.Known.TheVariants.{Nothing}

some_is : {A : Type 0} (a c : A) → Some a ≡ Some c → a ≡ c
some_is a c e = cc

on_some : {A B : Type 0} (o : Option A) (f : A → Option B) (y : B) → on o f ≡ Some y → (x : A) × (f x ≡ Some y)
on_some None f y e = absurd cc
on_some (Some x) f y e = (x, e)

when_some : {A : Type 0} (b : Bool) (o : Option A) (y : A) → when b o ≡ Some y → (b ≡ true) × (o ≡ Some y)
when_some true o y e = (refl, e)
when_some false o y e = absurd cc

-- ---- what is open, by the frames

-- of each open block, whether an else may still come; the function's own frame is none
abbrev pub flags : List Frame → List Bool
flags [] = []
flags (f ∷ []) = []
flags (f ∷ g ∷ fs) = f.is_then ∷ flags (g ∷ fs)

-- no else comes in the function's own frame
abbrev pub Grounded : List Frame → Type 0
Grounded [] = Unit {0}
Grounded (f ∷ []) = f.is_then ≡ false
Grounded (f ∷ g ∷ fs) = Grounded (g ∷ fs)

-- what a token makes of the open blocks is what it makes of the frames
abbrev pub Follows : Option (Option (List Bool)) → List Frame → Type 0
Follows None gs = ⊥
Follows (Some None) gs = gs ≡ []
Follows (Some (Some inner)) [] = ⊥
Follows (Some (Some inner)) (g ∷ gs) = (inner ≡ flags (g ∷ gs)) × Grounded (g ∷ gs)

same_flags : (f g : Frame) (fs : List Frame) → f.is_then ≡ g.is_then → flags (f ∷ fs) ≡ flags (g ∷ fs)
same_flags f g [] e = refl
same_flags f g (h ∷ hs) e = ap (λ (b : Bool). b ∷ flags (h ∷ hs)) e

still_grounded : (f g : Frame) (fs : List Frame) → f.is_then ≡ g.is_then → Grounded (f ∷ fs) → Grounded (g ∷ fs)
still_grounded f g [] e h = sym e ∙ h
still_grounded f g (k ∷ ks) e h = h

-- the innermost frame stays, with other operands
stays : (f : Frame) (fs gs : List Frame) (o : Operands) → Grounded (f ∷ fs) → record f { operands = o } ∷ fs ≡ gs → Follows (Some (Some (flags (f ∷ fs)))) gs
stays f fs gs o h e = subst (Follows (Some (Some (flags (f ∷ fs))))) e (same_flags f (record f { operands = o }) fs refl, still_grounded f (record f { operands = o }) fs refl h)

opens : (b : Bool) (f : Frame) (fs gs : List Frame) (g : Frame) (o : Operands) → g.is_then ≡ b → Grounded (f ∷ fs) → g ∷ record f { operands = o } ∷ fs ≡ gs → Follows (Some (Some (b ∷ flags (f ∷ fs)))) gs
opens b f fs gs g o is h e =
    let w : Frame = record f { operands = o } in
    subst (Follows (Some (Some (b ∷ flags (f ∷ fs))))) e
    (ap (λ (c : Bool). c ∷ flags (f ∷ fs)) (sym is) ∙ ap (λ (inner : List Bool). g.is_then ∷ inner) (same_flags f w fs refl), still_grounded f w fs refl h)

-- a frame more
opened : (b : Bool) (label : Stack) (s : FuncType) (f : Frame) (fs gs : List Frame) (o : Operands) → Grounded (f ∷ fs) → open_frame b label s f fs o ≡ Some gs → Follows (Some (Some (b ∷ flags (f ∷ fs)))) gs
opened b label s f fs gs o h e =
    let a = on_some (pop_all (enter s) o) (λ o1. Some (record { is_then = b; label = label; starts = enter s; gives = leave s; operands = fresh (enter s) } ∷ record f { operands = o1 } ∷ fs)) gs e in
    opens b f fs gs record { is_then = b; label = label; starts = enter s; gives = leave s; operands = fresh (enter s) } a.0 refl h (some_is _ _ a.1)

-- an else
parts : (b : Bool) (f : Frame) (fs gs : List Frame) → f.is_then ≡ b → Grounded (f ∷ fs) → when f.is_then (when (ends_with f.gives f.operands) (Some (record f { is_then = false; operands = fresh f.starts } ∷ fs))) ≡ Some gs → Follows (nest (flags (f ∷ fs)) Else) gs
parts b f [] gs is h e = let w = when_some f.is_then _ gs e in let never : true ≡ false = sym w.0 ∙ h in absurd cc
parts true f (g ∷ hs) gs is h e =
    let w = when_some f.is_then _ gs e in
    let v = when_some (ends_with f.gives f.operands) _ gs w.1 in
    subst (λ (c : Bool). Follows (nest (c ∷ flags (g ∷ hs)) Else) gs) (sym is)
    (subst (Follows (Some (Some (false ∷ flags (g ∷ hs))))) (some_is _ _ v.1) (refl, h))
parts false f (g ∷ hs) gs is h e = let w = when_some f.is_then _ gs e in let never : true ≡ false = sym w.0 ∙ is in absurd cc

-- an end
closes : (f : Frame) (fs gs : List Frame) → Grounded (f ∷ fs) → when (ends_with f.gives f.operands) (when (may_lack_else f) (Some (pass_on f.gives fs))) ≡ Some gs → Follows (nest (flags (f ∷ fs)) End) gs
closes f [] gs h e =
    let w = when_some (ends_with f.gives f.operands) _ gs e in
    let v = when_some (may_lack_else f) _ gs w.1 in
    sym (some_is _ _ v.1)
closes f (g ∷ hs) gs h e =
    let w = when_some (ends_with f.gives f.operands) _ gs e in
    let v = when_some (may_lack_else f) _ gs w.1 in
    stays g hs gs (push_list f.gives g.operands) h (some_is _ _ v.1)

pub follows : (C : Context) (t : Token) (f : Frame) (fs gs : List Frame) → Grounded (f ∷ fs) → step C t (f ∷ fs) ≡ Some gs → Follows (nest (flags (f ∷ fs)) t) gs
follows C (Do i) f fs gs h e =
    let a = on_some (rule (context_in C (f ∷ fs)) i) (λ r. on (apply r f.operands) (λ o. Some (record f { operands = o } ∷ fs))) gs e in
    let b = on_some (apply a.0 f.operands) (λ o. Some (record f { operands = o } ∷ fs)) gs a.1 in
    stays f fs gs b.0 h (some_is _ _ b.1)
follows C (OpenBlock t) f fs gs h e =
    let a = on_some (block_sig C.types t) (λ s. open_frame false (leave s) s f fs f.operands) gs e in
    opened false (leave a.0) a.0 f fs gs f.operands h a.1
follows C (OpenLoop t) f fs gs h e =
    let a = on_some (block_sig C.types t) (λ s. open_frame false (enter s) s f fs f.operands) gs e in
    opened false (enter a.0) a.0 f fs gs f.operands h a.1
follows C (OpenIf t) f fs gs h e =
    let a = on_some (block_sig C.types t) (λ s. on (pop_one I32 f.operands) (open_frame true (leave s) s f fs)) gs e in
    let b = on_some (pop_one I32 f.operands) (open_frame true (leave a.0) a.0 f fs) gs a.1 in
    opened true (leave a.0) a.0 f fs gs b.0 h b.1
follows C Else f fs gs h e = parts f.is_then f fs gs refl h e
follows C End f fs gs h e = closes f fs gs h e

-- ---- what is read, and how it is judged

-- after the last token no frame is open
no_more : (C : Context) (ts : List Token) (bytes : List ℕ) → PassesAs C [] bytes ts → (ts ≡ []) × (bytes ≡ [])
no_more C [] bytes p = (refl, p.1)
no_more C (t ∷ ts) bytes p = let never : None ≡ Some p.1 = p.4 in absurd cc

read_behind : (C : Context) (t : Token) (ts : List Token) (inner : List Bool) (rest : List ℕ) (n : ℕ) (gs : List Frame) (o : Option (Option (List Bool))) → nest inner t ≡ o → Follows o gs → PassesAs C gs rest ts → ((g : Frame) (hs : List Frame) → Grounded (g ∷ hs) → PassesAs C (g ∷ hs) rest ts → tokens_at n (flags (g ∷ hs)) rest ≡ Some (ts, [])) → (nest inner t >>= and_then t rest (λ now. tokens_at n now rest)) ≡ Some (t ∷ ts, [])
read_behind C t ts inner rest n gs None is w q more = absurd w
read_behind C t ts inner rest n [] (Some None) is w q more = let none = no_more C ts rest q in rw (is, none.0, none.1) refl
read_behind C t ts inner rest n (g ∷ hs) (Some None) is w q more = absurd cc
read_behind C t ts inner rest n [] (Some (Some now)) is w q more = absurd w
read_behind C t ts inner rest n (g ∷ hs) (Some (Some now)) is w q more = rw (is, w.0, more g hs w.1 q) refl

-- the frames tell what is read
reads : (C : Context) (ts : List Token) (f : Frame) (fs : List Frame) (bytes : List ℕ) (n : ℕ) → Grounded (f ∷ fs) → PassesAs C (f ∷ fs) bytes ts → length bytes ≤ n → tokens_at n (flags (f ∷ fs)) bytes ≡ Some (ts, [])
reads C [] f fs bytes n h p le = let never = p.0 in absurd cc
reads C (t ∷ ts) f fs bytes zero h p le =
    let lt = p.3 in
    absurd (omega arith)
reads C (t ∷ ts) f fs bytes (suc n) h p le =
    let lt = p.3 in
    let small : length p.0 ≤ n = omega arith in
    rw p.2 (read_behind C t ts (flags (f ∷ fs)) p.0 n p.1 (nest (flags (f ∷ fs)) t) refl (follows C t f fs p.1 h p.4) p.5 (λ g hs k q. reads C ts g hs p.0 n k q small))

-- each token is taken
accepts : (C : Context) (ts : List Token) (fs : List Frame) (bytes : List ℕ) (k : ℕ) → PassesAs C fs bytes ts → alg_from C ts fs k ≡ Accepted
accepts C [] fs bytes k p = rw p.0 refl
accepts C (t ∷ ts) fs bytes k p = rw p.4 (accepts C ts p.1 p.0 (k + 1) p.5)

-- ---- the body

expression_read : (C : Context) (r : Stack) (rest : List ℕ) (ts : List Token) → PassesAs C (start r) rest ts → expression.read rest ≡ Some (ts, [])
unfolding expression
expression_read C r rest ts p = reads C ts _ [] rest (length rest) refl p (omega arith)

-- tokens that pass are not refused
pub not_refused : (C : Context) (r : Stack) (fs : List Frame) (rest : List ℕ) (ts : List Token) → fs ≡ start r → PassesAs C fs rest ts → refusal_read C Nothing fs 0 (expression.read rest) ≡ None
not_refused C r fs rest ts e p =
    let began : PassesAs C (start r) rest ts = subst (λ (x : List Frame). PassesAs C x rest ts) e p in
    ap (refusal_read C Nothing fs 0) (expression_read C r rest ts began) ∙ ap typing_refusal (accepts C ts fs rest 0 p)

-- ---- the loop

-- one token more
one_more : (C : Context) (ts : List Token) (fs gs hs : List Frame) (bytes rest after : List ℕ) (t : Token) → Reaches C fs bytes ts gs rest → token_at rest ≡ Some (t, after) → length after < length rest → step C t gs ≡ Some hs → Reaches C fs bytes (ts ++ t ∷ []) hs after
one_more C [] fs gs hs bytes rest after t p a lt b =
    (after, hs, ap token_at p.1 ∙ a, omega (arith, ap length p.1), ap (step C t) p.0 ∙ b, (refl, refl))
one_more C (u ∷ us) fs gs hs bytes rest after t p a lt b =
    (p.0, p.1, p.2, p.3, p.4, one_more C us p.1 gs hs p.0 rest after t p.5 a lt b)

-- tokens that were taken lead there
abbrev pub Leads : Context → List Frame → List ℕ → List Frame → List ℕ → Type 0
Leads C fs bytes gs rest = (ts : List Token) × Reaches C fs bytes ts gs rest

pub takes_on : (C : Context) (fs : List Frame) (bytes rest after : List ℕ) (old new : Checking) → old.inside ≡ C → Leads C fs bytes old.frames rest → Takes rest old new after → Leads C fs bytes new.frames after
takes_on C fs bytes rest after old new same so h =
    (so.0 ++ h.0 ∷ [], one_more C so.0 fs old.frames new.frames bytes rest after h.0 so.1 h.1 h.2 (ap (λ (x : Context). step x h.0 old.frames) (sym same) ∙ h.3))

-- ---- the token at the front

in_front : (bytes : List ℕ) → 1 ≤ length bytes → get_or bytes 0 0 ∷ take (length bytes - 1) (drop 1 bytes) ≡ bytes
in_front [] le = absurd (omega arith)
in_front (b ∷ bytes) le = ap (λ (x : List ℕ). b ∷ x) (take_rest (b ∷ bytes) 1)

-- the token t is at the front, and the checker looked at it
pub told : {E : Type 0} (old new : Checking) (bytes : List ℕ) (after : Bor (List ℕ)) (t : Token) (r : Result Bool E) → token_at bytes ≡ Some (t, after.now) → length after.now < length bytes → IfOk r (λ ok. step old.inside t old.frames ≡ when ok (Some new.frames)) → IfOk r (λ _. new ≡ with_frames old new.frames) → Passes bytes old new (first_token r after)
told old new bytes after t (Ok true) read lt step_is same = (t, read, lt, step_is, same)
told old new bytes after t (Ok false) read lt step_is same =
    λ u rest e. ap (λ (x : Token × List ℕ). step old.inside x.0 old.frames) (some_is _ _ (sym e ∙ read)) ∙ step_is
told old new bytes after t (Err e) read lt step_is same = tt

pub front : (bytes : List ℕ) (b : ℕ) → 1 ≤ length bytes → get_or bytes 0 0 ≡ b → b ∷ take (length bytes - 1) (drop 1 bytes) ≡ bytes
front bytes b some is = ap (λ (x : ℕ). x ∷ take (length bytes - 1) (drop 1 bytes)) (sym is) ∙ in_front bytes some

-- a frequent instruction that is read and looked at
pub looked : {E : Type 0} (old new : Checking) (bytes : List ℕ) (after : Bor (List ℕ)) (lent : List ℕ) (b : ℕ) (token : Held) (r : Result Bool E) (given : FirstToken) → 1 ≤ length bytes → get_or bytes 0 0 ≡ b → ReadsPlain (b ∷ take (length bytes - 1) (drop 1 bytes)) token after.now → IfOk r (λ ok. step old.inside (decoded_as lent token) old.frames ≡ when ok (Some new.frames)) → IfOk r (λ _. new ≡ with_frames old new.frames) → given ≡ first_token r after → Passes bytes old new given
looked old new bytes after lent b token r given some is read step_is same e =
    let front_read : ReadsPlain bytes token after.now = subst (λ (x : List ℕ). ReadsPlain x token after.now) (front bytes b some is) read in
    let i = front_read.2 lent in
    rw e (told old new bytes after (Do i.0) r i.2 front_read.0 (subst (λ (t : Token). IfOk r (λ ok. step old.inside t old.frames ≡ when ok (Some new.frames))) i.1 step_is) same)

-- the beginning of a block that is read and looked at
pub looked_open : {E : Type 0} (old new : Checking) (bytes : List ℕ) (after : Bor (List ℕ)) (lent : List ℕ) (b : ℕ) (token : Held) (r : Result Bool E) (given : FirstToken) → 1 ≤ length bytes → get_or bytes 0 0 ≡ b → ReadsBracket (b ∷ take (length bytes - 1) (drop 1 bytes)) token after.now → IfOk r (λ ok. step old.inside (decoded_as lent token) old.frames ≡ when ok (Some new.frames)) → IfOk r (λ _. new ≡ with_frames old new.frames) → given ≡ first_token r after → Passes bytes old new given
looked_open old new bytes after lent b token r given some is read step_is same e =
    let front_read : ReadsBracket bytes token after.now = subst (λ (x : List ℕ). ReadsBracket x token after.now) (front bytes b some is) read in
    rw e (told old new bytes after (decoded_as lent token) r (front_read.1 lent) front_read.0 step_is same)

-- a token of one byte that is looked at
pub looked_one : {E : Type 0} (old new : Checking) (bytes : List ℕ) (after : Bor (List ℕ)) (b : ℕ) (t : Token) (r : Result Bool E) (given : FirstToken) → 1 ≤ length bytes → get_or bytes 0 0 ≡ b → after.now ≡ take (length bytes - 1) (drop 1 bytes) → ((rest : List ℕ) → token_at (b ∷ rest) ≡ Some (t, rest)) → IfOk r (λ ok. step old.inside t old.frames ≡ when ok (Some new.frames)) → IfOk r (λ _. new ≡ with_frames old new.frames) → given ≡ first_token r after → Passes bytes old new given
looked_one old new bytes after b t r given some is rest_is read step_is same e =
    let whole : b ∷ after.now ≡ bytes = ap (λ (x : List ℕ). b ∷ x) rest_is ∙ front bytes b some is in
    rw e (told old new bytes after t r (ap token_at (sym whole) ∙ read after.now) (omega (arith, ap length whole)) step_is same)

-- a token, whichever it is, that is read and looked at
pub looked_any : {E : Type 0} (old new : Checking) (bytes : List ℕ) (after : Bor (List ℕ)) (lent labels : List ℕ) (token : Held) (r : Result Bool E) (given : FirstToken) → token_at bytes ≡ Some (decoded_as (labels ++ []) token, after.now) → lent ≡ labels → length after.now < length bytes → IfOk r (λ ok. step old.inside (decoded_as lent token) old.frames ≡ when ok (Some new.frames)) → IfOk r (λ _. new ≡ with_frames old new.frames) → given ≡ first_token r after → Passes bytes old new given
looked_any old new bytes after lent labels token r given read is lt step_is same e =
    let look : decoded_as (labels ++ []) token ≡ decoded_as lent token = ap (λ (x : List ℕ). decoded_as x token) (append-nil labels ∙ sym is) in
    rw e (told old new bytes after (decoded_as lent token) r (read ∙ ap (λ (x : Token). Some (x, after.now)) look) lt step_is same)

-- what is read and taken after a byte
pub looked_behind : (old new : Checking) (bytes after : List ℕ) (token : Held) → ReadsPlain bytes token after → step old.inside (decoded_as [] token) old.frames ≡ Some new.frames → new ≡ with_frames old new.frames → Takes bytes old new after
looked_behind old new bytes after token read step_is same =
    let i = read.2 [] in (Do i.0, i.2, read.0, ap (λ (t : Token). step old.inside t old.frames) (sym i.1) ∙ step_is, same)

-- a frequent instruction that is read and taken
pub looked_known : (old new : Checking) (bytes after : List ℕ) (b : ℕ) (token : Held) → 1 ≤ length bytes → get_or bytes 0 0 ≡ b → ReadsPlain (b ∷ take (length bytes - 1) (drop 1 bytes)) token after → step old.inside (decoded_as [] token) old.frames ≡ Some new.frames → new ≡ with_frames old new.frames → Takes bytes old new after
looked_known old new bytes after b token some is read step_is same =
    looked_behind old new bytes after token (subst (λ (x : List ℕ). ReadsPlain x token after) (front bytes b some is) read) step_is same

pub end_read : (rest : List ℕ) → token_at (0x0B ∷ rest) ≡ Some (End, rest)
unfolding token_at
end_read rest = refl

pub else_read : (rest : List ℕ) → token_at (0x05 ∷ rest) ≡ Some (Else, rest)
unfolding token_at
else_read rest = refl

pub drop_read : (rest : List ℕ) → token_at (0x1A ∷ rest) ≡ Some (Do Drop, rest)
unfolding token_at plain_instruction opcode_of
drop_read rest = refl

pub select_read : (rest : List ℕ) → token_at (0x1B ∷ rest) ≡ Some (Do Select, rest)
unfolding token_at plain_instruction opcode_of
select_read rest = refl

pub return_read : (rest : List ℕ) → token_at (0x0F ∷ rest) ≡ Some (Do Return, rest)
unfolding token_at plain_instruction opcode_of
return_read rest = refl

pub unreachable_read : (rest : List ℕ) → token_at (0x00 ∷ rest) ≡ Some (Do Unreachable, rest)
unfolding token_at plain_instruction opcode_of
unreachable_read rest = refl

pub nop_read : (rest : List ℕ) → token_at (0x01 ∷ rest) ≡ Some (Do Nop, rest)
unfolding token_at plain_instruction opcode_of
nop_read rest = refl
