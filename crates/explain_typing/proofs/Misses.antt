-- Each cause alone refuses the token: where it holds, the algorithm takes no step (`refused`).
-- It goes by the causes, and for operands and indices by the tokens that take or name them.
-- `find_told` of src/recheck.rt cites `refused`; `end_cause` of src/causes.rt cites `lacks`, the case of an if without an else.
use Rattle.std.proofs.Common.{◌≡◌, inl, inr, ℕ, zero, suc, ◌<◌, ◌≤◌, ◌^◌, Bool, true, false, ◌&&◌, List, [], ◌∷◌, ◌++◌, map, reverse, length, slice_get, Option, Some, None, refl, sym, ap, ◌∙◌, subst, arith}
use Rattle.std.specs.Prelude.{nat_le, cond, option_map, IsSomeAnd}
use Rattle.std.proofs.lemmas.Bool.{lt-leb}
use Rattle.std.proofs.lemmas.List.{reverse-reverse}
use Rattle.std.proofs.lemmas.Option.{slice_get_past}
use Rattle.std.proofs.Math.Pow.{pow-lt}
use Rattle.wsyntax.specs.declared.ValType.{ValType}
use Rattle.wsyntax.specs.declared.ValType.TheVariants.{I32, I64, F32, F64}
use Rattle.wsyntax.specs.declared.types.GlobalType.{GlobalType}
use Rattle.wsyntax.specs.Types.{FuncType, same_type, same_types}
use Rattle.wsyntax.specs.declared.instructions.BlockType.TheVariants.{Index}
use Rattle.wsyntax.specs.Instructions.{Op, Access, Token, Do, OpenBlock, OpenLoop, OpenIf, Else, End, Br, BrIf, BrTable, Call, CallIndirect, Select, LocalGet, LocalSet, LocalTee, GlobalGet, GlobalSet, MemoryLoad, MemoryStore, MemorySize, MemoryGrow}
use Rattle.wsyntax.specs.Validation.Context.{Stack, Context, enter, leave, block_sig}
use Rattle.wsyntax.specs.Validation.Algorithm.{Rule, Takes, Ends, Drops, Selects, rule, Operands, fits, pop_any, pop_one, pop_all, push_list, fresh, join, apply, is_used_up, ends_with, takes, all_take, Frame, on, when, context_in, may_lack_else, pass_on, step}
use Rattle.wcheck.specs.declared.checker.inspect.OpenFrame.{OpenFrame}
use Rattle.wcheck.specs.Inspected.{IsInnermost, labels_of}
use Rattle.explanation.specs.declared.explanation.FunctionSignature.{FunctionSignature}
use Rattle.explanation.specs.declared.cause.Space.{Space}
use Rattle.explanation.specs.declared.cause.Space.TheVariants.{Types, Functions, Globals, Locals, Labels}
use Rattle.explanation.specs.declared.cause.Cause.{Cause}
use Rattle.explanation.specs.declared.cause.Cause.TheVariants as cause
use Rattle.explain_typing.specs.Typed.{asked, pops}
use Rattle.explain_typing.specs.Causes.{IsCause, LacksElse, Names, size_of, operand_at, left_over}

-- ---- what goes no further

on_none : {A B : Type 0} (x : Option A) (k : A → Option B) → x ≡ None → on x k ≡ None
on_none None k e = refl
on_none (Some y) k e = absurd cc

on_on : {A B D : Type 0} (x : Option A) (g : A → Option B) (k : B → Option D) → on x g ≡ None → on x (λ y. on (g y) k) ≡ None
on_on None g k e = refl
on_on (Some y) g k e = on_none (g y) k e

when_false : {A : Type 0} (b : Bool) (x : Option A) → b ≡ false → when b x ≡ None
when_false true x e = absurd cc
when_false false x e = refl

when_when : {A : Type 0} (a b : Bool) (x : Option A) → b ≡ false → when a (when b x) ≡ None
when_when true b x e = when_false b x e
when_when false b x e = refl

on_when : {A B : Type 0} (b : Bool) (y : A) (k : A → Option B) → k y ≡ None → on (when b (Some y)) k ≡ None
on_when true y k e = e
on_when false y k e = refl

some_and : {A : Type 0} (x : Option A) (P : A → Type 0) → IsSomeAnd x P → (y : A) × (x ≡ Some y) × P y
some_and None P h = absurd h
some_and (Some y) P h = (y, refl, h)

-- ---- operands

abbrev these : List (Option ValType) → Bool → Operands
these known d = record { known = known; is_dead = d }

wrong_fits : (x : Option ValType) (t w u : ValType) → t ≡ w → x ≡ Some u → same_type u w ≡ false → fits x t ≡ false
wrong_fits x t w u e h n = ap (λ z. fits z t) h ∙ ap (same_type u) e ∙ n

-- one is of another type
wrong_taken : (ts : Stack) (position : ℕ) (w u : ValType) (known : List (Option ValType)) (d : Bool) → slice_get (map Some ts) position ≡ Some (Some w) → slice_get known position ≡ Some (Some u) → same_type u w ≡ false
    → pop_all ts (these known d) ≡ None
wrong_taken [] position w u known d e h n = absurd cc
wrong_taken (t ∷ ts) position w u [] d e h n = absurd cc
wrong_taken (t ∷ ts) zero w u (x ∷ xs) d e h n =
    let et : t ≡ w = cc in let ex : x ≡ Some u = cc in
    ap (λ b. on (when b (Some (these xs d))) (pop_all ts)) (wrong_fits x t w u et ex n)
wrong_taken (t ∷ ts) (suc k) w u (x ∷ xs) d e h n = on_when (fits x t) (these xs d) (pop_all ts) (wrong_taken ts k w u xs d e h n)

-- one is missing
missing_taken : (ts : Stack) (position : ℕ) (w : Option ValType) (known : List (Option ValType)) → slice_get (map Some ts) position ≡ Some w → length known ≡ position → pop_all ts (these known false) ≡ None
missing_taken [] position w known e h = absurd cc
missing_taken (t ∷ ts) position w [] e h = refl
missing_taken (t ∷ ts) zero w (x ∷ xs) e h = absurd (omega (arith, h))
missing_taken (t ∷ ts) (suc k) w (x ∷ xs) e h = on_when (fits x t) (these xs false) (pop_all ts) (missing_taken ts k w xs e (omega (arith, h)))

-- what a token takes cannot be taken of these operands
record Refuses (ps : List (Option ValType)) (o : Operands) : Type 0 where
  lists : (ts : Stack) → map Some ts ≡ ps → pop_all ts o ≡ None
  drops : None ∷ [] ≡ ps → pop_any o ≡ None
  selects : Some I32 ∷ None ∷ None ∷ [] ≡ ps → apply Selects o ≡ None

abbrev selected : List (Option ValType)
selected = Some I32 ∷ None ∷ None ∷ []

none_wrong : (position : ℕ) (w : ValType) → slice_get (None ∷ []) position ≡ Some (Some w) → ⊥
none_wrong zero w e = cc
none_wrong (suc k) w e = cc

one_none : (x : Option Operands) → on x (pop_all []) ≡ None → x ≡ None
one_none None e = refl
one_none (Some o) e = absurd cc

wrong_select : (position : ℕ) (w u : ValType) (known : List (Option ValType)) (d : Bool) → slice_get selected position ≡ Some (Some w) → slice_get known position ≡ Some (Some u) → same_type u w ≡ false → apply Selects (these known d) ≡ None
wrong_select zero w u known d e h n =
    on_none (pop_one I32 (these known d)) _ (one_none (pop_one I32 (these known d)) (wrong_taken (I32 ∷ []) zero w u known d e h n))
wrong_select (suc zero) w u known d e h n = absurd cc
wrong_select (suc (suc zero)) w u known d e h n = absurd cc
wrong_select (suc (suc (suc k))) w u known d e h n = absurd cc

missing_select : (position : ℕ) (w : Option ValType) (known : List (Option ValType)) → slice_get selected position ≡ Some w → length known ≡ position → apply Selects (these known false) ≡ None
missing_select position w [] e h = refl
missing_select position w (x ∷ []) e h = on_when (fits x I32) (these [] false) _ refl
missing_select position w (x ∷ y ∷ []) e h = on_when (fits x I32) (these (y ∷ []) false) _ refl
missing_select position w (x ∷ y ∷ z ∷ r) e h = let q : slice_get selected (length (x ∷ y ∷ z ∷ r)) ≡ Some w = ap (slice_get selected) h ∙ e in absurd cc

missing_drop : (position : ℕ) (w : Option ValType) (known : List (Option ValType)) → slice_get (None ∷ []) position ≡ Some w → length known ≡ position → pop_any (these known false) ≡ None
missing_drop position w [] e h = refl
missing_drop position w (x ∷ xs) e h =
    let q : slice_get (None ∷ []) (length (x ∷ xs)) ≡ Some w = ap (slice_get (None ∷ [])) h ∙ e in absurd cc

wrong_refuses : (ps : List (Option ValType)) (position : ℕ) (w u : ValType) (o : Operands) → slice_get ps position ≡ Some (Some w) → slice_get o.known position ≡ Some (Some u) → same_type u w ≡ false → Refuses ps o
wrong_refuses ps position w u o e h n = record {
  lists = λ ts q. wrong_taken ts position w u o.known o.is_dead (ap (λ z. slice_get z position) q ∙ e) h n;
  drops = λ q. absurd (none_wrong position w (ap (λ z. slice_get z position) q ∙ e));
  selects = λ q. wrong_select position w u o.known o.is_dead (ap (λ z. slice_get z position) q ∙ e) h n;
}

missing_refuses : (ps : List (Option ValType)) (position : ℕ) (w : Option ValType) (o : Operands) → slice_get ps position ≡ Some w → length o.known ≡ position → o.is_dead ≡ false → Refuses ps o
missing_refuses ps position w o e h d =
    subst (λ b. Refuses ps (these o.known b)) (sym d) record {
      lists = λ ts q. missing_taken ts position w o.known (ap (λ z. slice_get z position) q ∙ e) h;
      drops = λ q. missing_drop position w o.known (ap (λ z. slice_get z position) q ∙ e) h;
      selects = λ q. missing_select position w o.known (ap (λ z. slice_get z position) q ∙ e) h;
    }

-- ---- a token that cannot take them

rule_refused : (x : Option Rule) (ps : List (Option ValType)) (o : Operands) (k : Operands → Option (List Frame)) → option_map asked x ≡ Some ps → Refuses ps o → on x (λ r. on (apply r o) k) ≡ None
rule_refused None ps o k e r = absurd cc
rule_refused (Some (Takes p q)) ps o k e r =
    let h : map Some p ≡ ps = cc in on_none (apply (Takes p q) o) k (on_none (pop_all p o) (λ o1. Some (push_list q o1)) (r.lists p h))
rule_refused (Some (Ends p)) ps o k e r =
    let h : map Some p ≡ ps = cc in on_none (apply (Ends p) o) k (on_none (pop_all p o) (λ o1. Some (these [] true)) (r.lists p h))
rule_refused (Some Drops) ps o k e r =
    let h : None ∷ [] ≡ ps = cc in on_none (apply Drops o) k (on_none (pop_any o) (λ x. Some x.1) (r.drops h))
rule_refused (Some Selects) ps o k e r = let h : selected ≡ ps = cc in on_none (apply Selects o) k (r.selects h)

block_refused : (x : Option FuncType) (ps : List (Option ValType)) (o : Operands) (k : FuncType → Operands → Option (List Frame)) → option_map (λ s. map Some (enter s)) x ≡ Some ps → Refuses ps o
    → on x (λ s. on (pop_all (enter s) o) (k s)) ≡ None
block_refused None ps o k e r = absurd cc
block_refused (Some s) ps o k e r = let h : map Some (enter s) ≡ ps = cc in on_none (pop_all (enter s) o) (k s) (r.lists (enter s) h)

if_refused : (x : Option FuncType) (ps : List (Option ValType)) (o : Operands) (k : FuncType → Operands → Option (List Frame)) → option_map (λ s. Some I32 ∷ map Some (enter s)) x ≡ Some ps → Refuses ps o
    → on x (λ s. on (pop_one I32 o) (λ o1. on (pop_all (enter s) o1) (k s))) ≡ None
if_refused None ps o k e r = absurd cc
if_refused (Some s) ps o k e r =
    let h : map Some (I32 ∷ enter s) ≡ ps = cc in on_on (pop_one I32 o) (pop_all (enter s)) (k s) (r.lists (I32 ∷ enter s) h)

-- the frames once one is opened
abbrev within : Bool → Stack → Frame → List Frame → FuncType → Operands → Option (List Frame)
within is_then label f fs s o1 = Some (record { is_then = is_then; label = label; starts = enter s; gives = leave s; operands = fresh (enter s) } ∷ record f { operands = o1 } ∷ fs)

step_refused : (C : Context) (t : Token) (f : Frame) (fs : List Frame) (ps : List (Option ValType)) → pops C t (f ∷ fs) ≡ Some ps → Refuses ps f.operands → step C t (f ∷ fs) ≡ None
step_refused C (Do i) f fs ps e r = rule_refused (rule (context_in C (f ∷ fs)) i) ps f.operands (λ o. Some (record f { operands = o } ∷ fs)) e r
step_refused C (OpenBlock b) f fs ps e r = block_refused (block_sig C.types b) ps f.operands (λ s. within false (leave s) f fs s) e r
step_refused C (OpenLoop b) f fs ps e r = block_refused (block_sig C.types b) ps f.operands (λ s. within false (enter s) f fs s) e r
step_refused C (OpenIf b) f fs ps e r = if_refused (block_sig C.types b) ps f.operands (λ s. within true (leave s) f fs s) e r
step_refused C Else f fs ps e r =
    let h : map Some f.gives ≡ ps = cc in when_when f.is_then (ends_with f.gives f.operands) _ (ap is_used_up (r.lists f.gives h))
step_refused C End f fs ps e r = let h : map Some f.gives ≡ ps = cc in when_false (ends_with f.gives f.operands) _ (ap is_used_up (r.lists f.gives h))

-- ---- the end of a block

used_when : (b : Bool) (ts : Stack) (o : Operands) → is_used_up (pop_all ts o) ≡ false → is_used_up (on (when b (Some o)) (pop_all ts)) ≡ false
used_when true ts o e = e
used_when false ts o e = refl

some_left : (ts : Stack) (known : List (Option ValType)) (d : Bool) → length ts < length known → is_used_up (pop_all ts (these known d)) ≡ false
some_left [] [] d lt = absurd (omega (arith, lt))
some_left [] (x ∷ xs) d lt = refl
some_left (t ∷ ts) [] d lt = absurd (omega (arith, lt))
some_left (t ∷ ts) (x ∷ xs) d lt = used_when (fits x t) ts (these xs d) (some_left ts xs d (omega (arith, lt)))

else_left : (C : Context) (fs : List Frame) (n : ℕ) → n ≡ left_over fs → 0 < n → step C Else fs ≡ None
else_left C [] n e lt = refl
else_left C (f ∷ fs) n e lt =
    when_when f.is_then (ends_with f.gives f.operands) _ (some_left f.gives f.operands.known f.operands.is_dead (omega (arith, e, lt)))

end_left : (C : Context) (fs : List Frame) (n : ℕ) → n ≡ left_over fs → 0 < n → step C End fs ≡ None
end_left C [] n e lt = refl
end_left C (f ∷ fs) n e lt = when_false (ends_with f.gives f.operands) _ (some_left f.gives f.operands.known f.operands.is_dead (omega (arith, e, lt)))

-- ---- what is not there

unruled : (C : Context) (i : Op) (fs : List Frame) → rule (context_in C fs) i ≡ None → step C (Do i) fs ≡ None
unruled C i [] e = refl
unruled C i (f ∷ fs) e = on_none (rule (context_in C (f ∷ fs)) i) _ e

past : {A : Type 0} (xs : List A) (x n : ℕ) → n ≡ length xs → n ≤ x → slice_get xs x ≡ None
past xs x n e le = slice_get_past xs x (omega (arith, e, le))

block_unknown : (C : Context) (y : ℕ) (fs : List Frame) → slice_get C.types y ≡ None → step C (OpenBlock (Index y)) fs ≡ None
block_unknown C y [] e = refl
block_unknown C y (f ∷ fs) e = on_none (slice_get C.types y) _ e

loop_unknown : (C : Context) (y : ℕ) (fs : List Frame) → slice_get C.types y ≡ None → step C (OpenLoop (Index y)) fs ≡ None
loop_unknown C y [] e = refl
loop_unknown C y (f ∷ fs) e = on_none (slice_get C.types y) _ e

if_unknown : (C : Context) (y : ℕ) (fs : List Frame) → slice_get C.types y ≡ None → step C (OpenIf (Index y)) fs ≡ None
if_unknown C y [] e = refl
if_unknown C y (f ∷ fs) e = on_none (slice_get C.types y) _ e

and_false : (a b : Bool) → b ≡ false → (a && b) ≡ false
and_false true b e = e
and_false false b e = refl

-- one of the labels does not take r
all_false : (labels : List Stack) (r : Stack) (ls : List ℕ) (k l : ℕ) → slice_get ls k ≡ Some l → takes (slice_get labels l) r ≡ false → all_take labels r ls ≡ false
all_false labels r [] k l e h = absurd cc
all_false labels r (m ∷ ls) zero l e h =
    let q : m ≡ l = cc in ap (λ z. takes (slice_get labels z) r && all_take labels r ls) q ∙ ap (λ b. b && all_take labels r ls) h
all_false labels r (m ∷ ls) (suc k) l e h = and_false (takes (slice_get labels m) r) (all_take labels r ls) (all_false labels r ls k l e h)

table_stuck : (x : Option Stack) (labels : List Stack) (ls : List ℕ) (g : Stack → Rule) → ((r : Stack) → x ≡ Some r → all_take labels r ls ≡ false) → on x (λ r. when (all_take labels r ls) (Some (g r))) ≡ None
table_stuck None labels ls g h = refl
table_stuck (Some r) labels ls g h = when_false (all_take labels r ls) (Some (g r)) (h r refl)

table_unknown : (C : Context) (fs : List Frame) (ls : List ℕ) (d k l : ℕ) → slice_get (d ∷ ls) k ≡ Some l → slice_get (labels_of fs) l ≡ None → step C (Do (BrTable ls d)) fs ≡ None
table_unknown C fs ls d zero l e h =
    let q : d ≡ l = cc in unruled C (BrTable ls d) fs (on_none (slice_get (labels_of fs) d) _ (ap (slice_get (labels_of fs)) q ∙ h))
table_unknown C fs ls d (suc k) l e h =
    unruled C (BrTable ls d) fs (table_stuck (slice_get (labels_of fs) d) (labels_of fs) ls (λ r. Ends (I32 ∷ r)) (λ r q. all_false (labels_of fs) r ls k l e (ap (λ z. takes z r) h)))

name_refused : (C : Context) (t : Token) (fs : List Frame) (space : Space) (x n : ℕ) → Names t space x → n ≡ size_of space C fs → n ≤ x → step C t fs ≡ None
name_refused C t fs Types y n (inl e) k le =
    subst (λ z. step C z fs ≡ None) (sym e) (unruled C (CallIndirect y) fs (when_on C.has_table (slice_get C.types y) _ (past C.types y n k le)))
  where
    when_on : (b : Bool) (z : Option FuncType) (g : FuncType → Option Rule) → z ≡ None → when b (on z g) ≡ None
    when_on true z g q = on_none z g q
    when_on false z g q = refl
name_refused C t fs Types y n (inr (inl e)) k le = subst (λ z. step C z fs ≡ None) (sym e) (block_unknown C y fs (past C.types y n k le))
name_refused C t fs Types y n (inr (inr (inl e))) k le = subst (λ z. step C z fs ≡ None) (sym e) (loop_unknown C y fs (past C.types y n k le))
name_refused C t fs Types y n (inr (inr (inr e))) k le = subst (λ z. step C z fs ≡ None) (sym e) (if_unknown C y fs (past C.types y n k le))
name_refused C t fs Functions x n e k le =
    subst (λ z. step C z fs ≡ None) (sym e) (unruled C (Call x) fs (on_none (slice_get C.functions x) _ (past C.functions x n k le)))
name_refused C t fs Globals x n (inl e) k le =
    subst (λ z. step C z fs ≡ None) (sym e) (unruled C (GlobalGet x) fs (on_none (slice_get C.globals x) _ (past C.globals x n k le)))
name_refused C t fs Globals x n (inr e) k le =
    subst (λ z. step C z fs ≡ None) (sym e) (unruled C (GlobalSet x) fs (on_none (slice_get C.globals x) _ (past C.globals x n k le)))
name_refused C t fs Locals x n (inl e) k le =
    subst (λ z. step C z fs ≡ None) (sym e) (unruled C (LocalGet x) fs (on_none (slice_get C.locals x) _ (past C.locals x n k le)))
name_refused C t fs Locals x n (inr (inl e)) k le =
    subst (λ z. step C z fs ≡ None) (sym e) (unruled C (LocalSet x) fs (on_none (slice_get C.locals x) _ (past C.locals x n k le)))
name_refused C t fs Locals x n (inr (inr e)) k le =
    subst (λ z. step C z fs ≡ None) (sym e) (unruled C (LocalTee x) fs (on_none (slice_get C.locals x) _ (past C.locals x n k le)))
name_refused C t fs Labels x n (inl e) k le =
    subst (λ z. step C z fs ≡ None) (sym e) (unruled C (Br x) fs (on_none (slice_get (labels_of fs) x) _ (past (labels_of fs) x n k le)))
name_refused C t fs Labels x n (inr (inl e)) k le =
    subst (λ z. step C z fs ≡ None) (sym e) (unruled C (BrIf x) fs (on_none (slice_get (labels_of fs) x) _ (past (labels_of fs) x n k le)))
name_refused C t fs Labels x n (inr (inr (ls, d, position, e, h))) k le =
    subst (λ z. step C z fs ≡ None) (sym e) (table_unknown C fs ls d position x h (past (labels_of fs) x n k le))

-- ---- labels that differ

both_true : (a b : Bool) → (a && b) ≡ true → (a ≡ true) × (b ≡ true)
both_true true b e = (refl, e)
both_true false b e = absurd cc

same_type-true : (t u : ValType) → same_type t u ≡ true → t ≡ u
same_type-true I32 I32 e = refl
same_type-true I64 I64 e = refl
same_type-true F32 F32 e = refl
same_type-true F64 F64 e = refl
same_type-true I32 I64 e = absurd cc
same_type-true I32 F32 e = absurd cc
same_type-true I32 F64 e = absurd cc
same_type-true I64 I32 e = absurd cc
same_type-true I64 F32 e = absurd cc
same_type-true I64 F64 e = absurd cc
same_type-true F32 I32 e = absurd cc
same_type-true F32 I64 e = absurd cc
same_type-true F32 F64 e = absurd cc
same_type-true F64 I32 e = absurd cc
same_type-true F64 I64 e = absurd cc
same_type-true F64 F32 e = absurd cc

same_types-true : (a b : Stack) → same_types a b ≡ true → a ≡ b
same_types-true [] [] e = refl
same_types-true [] (u ∷ b) e = absurd cc
same_types-true (t ∷ a) [] e = absurd cc
same_types-true (t ∷ a) (u ∷ b) e =
    let h = both_true (same_type t u) (same_types a b) e in
    let p = same_type-true t u h.0 in let q = same_types-true a b h.1 in cc

-- two lists of types that are not equal are not the same
other_types : (a b : Stack) → (a ≡ b → ⊥) → same_types a b ≡ false
other_types a b ne = go (same_types a b) refl
  where
    go : (v : Bool) → same_types a b ≡ v → v ≡ false
    go true e = absurd (ne (same_types-true a b e))
    go false e = refl

reversed_differ : (a b : Stack) → (a ≡ b → ⊥) → reverse a ≡ reverse b → ⊥
reversed_differ a b ne e = ne (sym (reverse-reverse a) ∙ ap reverse e ∙ reverse-reverse b)

table_differs : (C : Context) (fs : List Frame) (ls : List ℕ) (d k l : ℕ) (a b : Stack) → slice_get ls k ≡ Some l → slice_get (labels_of fs) l ≡ Some (reverse a) → slice_get (labels_of fs) d ≡ Some (reverse b) → (a ≡ b → ⊥)
    → step C (Do (BrTable ls d)) fs ≡ None
table_differs C fs ls d k l a b e ha hb ne =
    unruled C (BrTable ls d) fs (table_stuck (slice_get (labels_of fs) d) (labels_of fs) ls (λ r. Ends (I32 ∷ r)) (λ r q. all_false (labels_of fs) r ls k l e (not_taken r q)))
  where
    not_taken : (r : Stack) → slice_get (labels_of fs) d ≡ Some r → takes (slice_get (labels_of fs) l) r ≡ false
    not_taken r q =
        let same : reverse b ≡ r = cc in
        ap (λ z. takes z r) ha ∙ ap (same_types (reverse a)) (sym same) ∙ other_types (reverse a) (reverse b) (reversed_differ a b ne)

-- ---- the rest

immutable : (x : Option GlobalType) → IsSomeAnd x (λ g. g.mutable ≡ false) → on x (λ g. when g.mutable (Some (Takes (g.val_type ∷ []) []))) ≡ None
immutable None h = absurd h
immutable (Some g) h = when_false g.mutable (Some (Takes (g.val_type ∷ []) [])) h

unaligned : (m : Access) (a n : ℕ) → m.align ≡ a → m.width ≡ 2 ^ n → n < a → nat_le (2 ^ m.align) m.width ≡ false
unaligned m a n ea en lt = ap (λ z. nat_le (2 ^ z) m.width) ea ∙ ap (nat_le (2 ^ a)) en ∙ lt-leb (2 ^ a) (2 ^ n) (pow-lt lt)

select_unlike : (known : List (Option ValType)) (d : Bool) (a b : ValType) → slice_get known 1 ≡ Some (Some a) → slice_get known 2 ≡ Some (Some b) → same_type a b ≡ false → apply Selects (these known d) ≡ None
select_unlike [] d a b ea eb n = absurd cc
select_unlike (x ∷ []) d a b ea eb n = absurd cc
select_unlike (x ∷ y ∷ []) d a b ea eb n = absurd cc
select_unlike (x ∷ y ∷ z ∷ r) d a b ea eb n =
    let ey : y ≡ Some a = cc in let ez : z ≡ Some b = cc in
    on_when (fits x I32) (these (y ∷ z ∷ r) d) _ (on_none (join y z) _ (ap (λ u. join u z) ey ∙ ap (join (Some a)) ez ∙ when_false (same_type a b) (Some (Some a)) n))

selects_refused : (C : Context) (fs : List Frame) (a b : ValType) → operand_at fs 1 ≡ Some (Some a) → operand_at fs 2 ≡ Some (Some b) → same_type a b ≡ false → step C (Do Select) fs ≡ None
selects_refused C [] a b ea eb n = refl
selects_refused C (f ∷ fs) a b ea eb n = on_none (apply Selects f.operands) _ (select_unlike f.operands.known f.operands.is_dead a b ea eb n)

lacks_else : (C : Context) (f : Frame) (fs : List Frame) → may_lack_else f ≡ false → step C End (f ∷ fs) ≡ None
lacks_else C f fs e = when_when (ends_with f.gives f.operands) (may_lack_else f) (Some (pass_on f.gives fs)) e

-- an empty else gives what the if takes only where both are the same
ends_more : (t u : ValType) (r s : Stack) (v : Bool) → (is_used_up (pop_all r (these (map Some s) false)) ≡ true → s ≡ r) → same_type u t ≡ v → is_used_up (on (when v (Some (these (map Some s) false))) (pop_all r)) ≡ true
    → (u ∷ s) ≡ (t ∷ r)
ends_more t u r s true more q h = let a = same_type-true u t q in let b = more h in cc
ends_more t u r s false more q h = absurd cc

ends_same : (r s : Stack) → is_used_up (pop_all r (these (map Some s) false)) ≡ true → s ≡ r
ends_same [] [] e = refl
ends_same [] (u ∷ s) e = absurd cc
ends_same (t ∷ r) [] e = absurd cc
ends_same (t ∷ r) (u ∷ s) e = ends_more t u r s (same_type u t) (ends_same r s) refl e

no_nil : {A : Type 0} (xs : List A) → xs ++ [] ≡ xs
no_nil [] = refl
no_nil (x ∷ xs) = ap (λ z. x ∷ z) (no_nil xs)

ends_not : (r s : Stack) → (s ≡ r → ⊥) → ends_with r (fresh s) ≡ false
ends_not r s ne = go (ends_with r (fresh s)) refl
  where
    go : (v : Bool) → ends_with r (fresh s) ≡ v → v ≡ false
    go true e = absurd (ne (ends_same r s (ap (λ z. is_used_up (pop_all r (these z false))) (sym (no_nil (map Some s))) ∙ e)))
    go false e = refl

may_else : (b x : Bool) → b ≡ true → x ≡ false → elim b [ true ↦ x | false ↦ true ] ≡ false
may_else true x e h = h
may_else false x e h = absurd cc

pub lacks : (g : OpenFrame) (fs : List Frame) (s : FunctionSignature) (is_end : Bool) → is_end ≡ true → g.is_then ≡ true → (g.starts.now ≡ g.gives.now → ⊥) → s.params.items ≡ g.starts.now → s.results.items ≡ g.gives.now → IsInnermost fs g
    → (cond is_end End Else ≡ End) × LacksElse s fs
lacks g fs s is_end e th ne p q i =
    let a : reverse s.params.items ≡ i.frame.starts = ap reverse p ∙ i.starts in
    let b : reverse s.results.items ≡ i.frame.gives = ap reverse q ∙ i.gives in
    let other : i.frame.starts ≡ i.frame.gives → ⊥ = λ z. reversed_differ g.starts.now g.gives.now ne (i.starts ∙ z ∙ sym i.gives) in
    let lacking : may_lack_else i.frame ≡ false = may_else i.frame.is_then (ends_with i.frame.gives (fresh i.frame.starts)) (sym i.is_then ∙ th) (ends_not i.frame.gives i.frame.starts other) in
    (ap (λ z. cond z End Else) e, subst (LacksElse s) (sym i.frames) (a, b, lacking))

-- each cause alone refuses the token
pub refused : (C : Context) (t : Token) (fs : List Frame) (c : Cause) → IsCause C t fs c → step C t fs ≡ None
refused C t [] (cause.Operand position wanted found) h = absurd (let e = h.1 in cc)
refused C t (f ∷ fs) (cause.Operand position wanted found) h =
    let s = some_and (pops C t (f ∷ fs)) (λ ps. slice_get ps position ≡ Some (Some wanted)) h.0 in
    step_refused C t f fs s.0 s.1 (wrong_refuses s.0 position wanted found f.operands s.2 h.1 h.2)
refused C t [] (cause.Missing position wanted) h = absurd h.1
refused C t (f ∷ fs) (cause.Missing position wanted) h =
    let s = some_and (pops C t (f ∷ fs)) (λ ps. slice_get ps position ≡ Some wanted) h.0 in
    step_refused C t f fs s.0 s.1 (missing_refuses s.0 position wanted f.operands s.2 h.1.0 h.1.1)
refused C t fs (cause.LeftOver count) (inl e, h, lt) = subst (λ z. step C z fs ≡ None) (sym e) (else_left C fs count h lt)
refused C t fs (cause.LeftOver count) (inr e, h, lt) = subst (λ z. step C z fs ≡ None) (sym e) (end_left C fs count h lt)
refused C t [] (cause.NoElse signature) h = absurd h.1
refused C t (f ∷ fs) (cause.NoElse signature) h = subst (λ z. step C z (f ∷ fs) ≡ None) (sym h.0) (lacks_else C f fs h.1.2)
refused C t fs (cause.NoIndex space index count) h = name_refused C t fs space index count h.0 h.1 h.2
refused C t fs (cause.Immutable global) h =
    subst (λ z. step C z fs ≡ None) (sym h.0) (unruled C (GlobalSet global) fs (immutable (slice_get C.globals global) h.1))
refused C t fs cause.NoMemory (inl (m, inl e), h) = subst (λ z. step C z fs ≡ None) (sym e) (unruled C (MemoryLoad m) fs (when_false C.has_memory _ h))
refused C t fs cause.NoMemory (inl (m, inr e), h) = subst (λ z. step C z fs ≡ None) (sym e) (unruled C (MemoryStore m) fs (when_false C.has_memory _ h))
refused C t fs cause.NoMemory (inr (inl e), h) = subst (λ z. step C z fs ≡ None) (sym e) (unruled C MemorySize fs (when_false C.has_memory _ h))
refused C t fs cause.NoMemory (inr (inr e), h) = subst (λ z. step C z fs ≡ None) (sym e) (unruled C MemoryGrow fs (when_false C.has_memory _ h))
refused C t fs cause.NoTable ((y, e), h) = subst (λ z. step C z fs ≡ None) (sym e) (unruled C (CallIndirect y) fs (when_false C.has_table _ h))
refused C t fs (cause.Alignment align largest) ((m, inl e, ea, en), lt) =
    subst (λ z. step C z fs ≡ None) (sym e) (unruled C (MemoryLoad m) fs (when_when C.has_memory (nat_le (2 ^ m.align) m.width) _ (unaligned m align largest ea en lt)))
refused C t fs (cause.Alignment align largest) ((m, inr e, ea, en), lt) =
    subst (λ z. step C z fs ≡ None) (sym e) (unruled C (MemoryStore m) fs (when_when C.has_memory (nat_le (2 ^ m.align) m.width) _ (unaligned m align largest ea en lt)))
refused C t fs (cause.Labels label asks others) (ls, d, k, e, h, ha, hb, ne) =
    subst (λ z. step C z fs ≡ None) (sym e) (table_differs C fs ls d k label asks.items others.items h ha hb ne)
refused C t fs (cause.Select above below) h = subst (λ z. step C z fs ≡ None) (sym h.0) (selects_refused C fs above below h.1 h.2 h.3)
