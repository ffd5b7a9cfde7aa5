-- Appendix 7.3, the validation algorithm: one pass over the tokens, with control frames and unknown operands. Each frame has its own operands here, where the appendix has one stack with heights.
use Rattle.std.specs.Prelude.{ℕ, ◌+◌, ◌^◌, nat_le, Bool, true, false, ◌&&◌, List, [], ◌∷◌, ◌++◌, Option, Some, None, slice_get, map, reverse}
use Rattle.wsyntax.specs.Types.{ValType, I32, FuncType, same_type, same_types}
use Rattle.wsyntax.specs.Instructions.{Op, Unreachable, Nop, Return, Br, BrIf, Call, CallIndirect, BrTable, Drop, Select, LocalGet, LocalSet, LocalTee, GlobalGet, GlobalSet, MemoryLoad, MemoryStore, MemorySize, MemoryGrow, Const, Numeric, Token, Do, OpenBlock, OpenLoop, OpenIf, Else, End}
use Rattle.wsyntax.specs.Validation.Context.{Stack, enter, leave, Context, body_context, block_sig}
use Rattle.wsyntax.specs.Validation.Typing.{operands, results}

-- goes on with the value, if there is one
abbrev pub on : {A B : Type 0} → Option A → (A → Option B) → Option B
on None f = None
on (Some x) f = f x

-- goes on if the test holds
abbrev pub when : {A : Type 0} → Bool → Option A → Option A
when true x = x
when false x = None

-- the label is there and takes r
abbrev pub takes : Option Stack → Stack → Bool
takes None r = false
takes (Some s) r = same_types s r

-- the labels all take r
abbrev pub all_take : List Stack → Stack → List ℕ → Bool
all_take labels r [] = true
all_take labels r (l ∷ ls) = takes (slice_get labels l) r && all_take labels r ls

-- 7.3 what an instruction does to the operands. Ours: one of four, which takes and leaves, ends, drops or selects
pub data Rule : Type 0 where
  -- takes the first from the stack, and leaves the second
  Takes : Stack → Stack → Rule
  -- takes this, and what comes after it is not reached
  Ends : Stack → Rule
  Drops : Rule
  Selects : Rule

-- 7.3 the rule of an instruction, if what it names is there
abbrev pub rule : Context → Op → Option Rule
-- 3.3.5 control instructions
rule C Unreachable = Some (Ends [])
rule C Nop = Some (Takes [] [])
rule C (Br l) = on (slice_get C.labels l) (λ r. Some (Ends r))
rule C (BrIf l) = on (slice_get C.labels l) (λ r. Some (Takes (I32 ∷ r) r))
rule C (BrTable ls d) = on (slice_get C.labels d) (λ r. when (all_take C.labels r ls) (Some (Ends (I32 ∷ r))))
rule C Return = on C.return (λ r. Some (Ends r))
rule C (Call x) = on (slice_get C.functions x) (λ s. Some (Takes (enter s) (leave s)))
rule C (CallIndirect y) = when C.has_table (on (slice_get C.types y) (λ s. Some (Takes (I32 ∷ enter s) (leave s))))
-- 3.3.2 parametric instructions
rule C Drop = Some Drops
rule C Select = Some Selects
-- 3.3.3 variable instructions
rule C (LocalGet x) = on (slice_get C.locals x) (λ t. Some (Takes [] (t ∷ [])))
rule C (LocalSet x) = on (slice_get C.locals x) (λ t. Some (Takes (t ∷ []) []))
rule C (LocalTee x) = on (slice_get C.locals x) (λ t. Some (Takes (t ∷ []) (t ∷ [])))
rule C (GlobalGet x) = on (slice_get C.globals x) (λ g. Some (Takes [] (g.val_type ∷ [])))
rule C (GlobalSet x) = on (slice_get C.globals x) (λ g. when g.mutable (Some (Takes (g.val_type ∷ []) [])))
-- 3.3.4 memory instructions
rule C (MemoryLoad m) = when C.has_memory (when (nat_le (2 ^ m.align) m.width) (Some (Takes (I32 ∷ []) (m.of_type ∷ []))))
rule C (MemoryStore m) = when C.has_memory (when (nat_le (2 ^ m.align) m.width) (Some (Takes (m.of_type ∷ I32 ∷ []) [])))
rule C MemorySize = when C.has_memory (Some (Takes [] (I32 ∷ [])))
rule C MemoryGrow = when C.has_memory (Some (Takes (I32 ∷ []) (I32 ∷ [])))
-- 3.3.1 numeric instructions
rule C (Const t n) = Some (Takes [] (t ∷ []))
rule C (Numeric f) = Some (Takes (reverse (operands f)) (reverse (results f)))

-- 7.3 the operands of one frame. Ours: each frame has its own, and unknown ones are `None`
pub record Operands : Type 0 where
  -- the types above the frame's height, the topmost first, None where a type is not known
  pub known : List (Option ValType)
  -- whether what follows cannot be reached: then there are unknown operands below
  pub is_dead : Bool

-- the operand may be of this type
abbrev pub fits : Option ValType → ValType → Bool
fits None t = true
fits (Some u) t = same_type u t

-- the topmost operand, and the others
abbrev pub split : List (Option ValType) → Bool → Option (Option ValType × Operands)
split [] false = None
split [] true = Some (None, record { known = []; is_dead = true })
split (x ∷ xs) d = Some (x, record { known = xs; is_dead = d })

-- the topmost operand and the others, whatever its type
abbrev pub pop_any : Operands → Option (Option ValType × Operands)
pop_any o = split o.known o.is_dead

-- the operands without the topmost, which is of this type
abbrev pub pop_one : ValType → Operands → Option Operands
pop_one t o = on (pop_any o) (λ x. when (fits x.0 t) (Some x.1))

-- the operands without these
abbrev pub pop_all : Stack → Operands → Option Operands
pop_all [] o = Some o
pop_all (t ∷ ts) o = on (pop_one t o) (pop_all ts)

-- the operands with these on top
abbrev pub push_list : Stack → Operands → Operands
push_list ts o = record { known = map Some ts ++ o.known; is_dead = o.is_dead }

-- the operands at the beginning of a frame
abbrev pub fresh : Stack → Operands
fresh ts = push_list ts record { known = []; is_dead = false }

-- the type of both operands of a select, if they may be of one type
abbrev pub join : Option ValType → Option ValType → Option (Option ValType)
join None y = Some y
join (Some t) None = Some (Some t)
join (Some t) (Some u) = when (same_type t u) (Some (Some t))

-- 7.3 what a rule makes of the operands
abbrev pub apply : Rule → Operands → Option Operands
apply (Takes p q) o = on (pop_all p o) (λ o1. Some (push_list q o1))
apply (Ends p) o = on (pop_all p o) (λ o1. Some record { known = []; is_dead = true })
apply Drops o = on (pop_any o) (λ x. Some x.1)
apply Selects o =
    on (pop_one I32 o) (λ o1. on (pop_any o1) (λ x. on (pop_any x.1) (λ y. on (join x.0 y.0) (λ z. Some record { known = z ∷ y.1.known; is_dead = y.1.is_dead }))))

-- nothing is there
abbrev pub is_nil : {A : Type 0} → List A → Bool
is_nil [] = true
is_nil (x ∷ xs) = false

-- no operand is left
abbrev pub is_used_up : Option Operands → Bool
is_used_up None = false
is_used_up (Some o) = is_nil o.known

-- the operands are exactly these
abbrev pub ends_with : Stack → Operands → Bool
ends_with r o = is_used_up (pop_all r o)

-- 7.3 a control frame: an open block, a loop, a branch of an if, or the function
pub record Frame : Type 0 where
  -- whether it is an if whose else may still come
  pub is_then : Bool
  -- what a branch to it takes
  pub label : Stack
  -- what it takes at its beginning, and what it gives
  pub starts : Stack
  pub gives : Stack
  pub operands : Operands

-- the context inside these frames, the innermost first
abbrev pub context_in : Context → List Frame → Context
context_in C fs = record C { labels = map (λ f. f.label) fs }

-- a frame more, whose parameters are taken from the operands
abbrev pub open_frame : Bool → Stack → FuncType → Frame → List Frame → Operands → Option (List Frame)
open_frame is_then label s f fs o =
    on (pop_all (enter s) o) (λ o1. Some (record { is_then = is_then; label = label; starts = enter s; gives = leave s; operands = fresh (enter s) } ∷ record f { operands = o1 } ∷ fs))

-- where the else was not written, the empty branch gives what the if takes
abbrev pub may_lack_else : Frame → Bool
may_lack_else f = elim f.is_then [ true ↦ ends_with f.gives (fresh f.starts) | false ↦ true ]

-- the results of a frame go to the one outside
abbrev pub pass_on : Stack → List Frame → List Frame
pass_on r [] = []
pass_on r (f ∷ fs) = record f { operands = push_list r f.operands } ∷ fs

-- 7.3 one token, under these frames. Ours: an end that closes an if without else also asks that the empty else fits
abbrev pub step : Context → Token → List Frame → Option (List Frame)
step C t [] = None
step C (Do i) (f ∷ fs) =
    on (rule (context_in C (f ∷ fs)) i) (λ r. on (apply r f.operands) (λ o. Some (record f { operands = o } ∷ fs)))
step C (OpenBlock t) (f ∷ fs) = on (block_sig C.types t) (λ s. open_frame false (leave s) s f fs f.operands)
step C (OpenLoop t) (f ∷ fs) = on (block_sig C.types t) (λ s. open_frame false (enter s) s f fs f.operands)
step C (OpenIf t) (f ∷ fs) =
    on (block_sig C.types t) (λ s. on (pop_one I32 f.operands) (open_frame true (leave s) s f fs))
step C Else (f ∷ fs) =
    when f.is_then (when (ends_with f.gives f.operands) (Some (record f { is_then = false; operands = fresh f.starts } ∷ fs)))
step C End (f ∷ fs) = when (ends_with f.gives f.operands) (when (may_lack_else f) (Some (pass_on f.gives fs)))

-- how the algorithm ends: accepted, or the position of the first token that is refused
pub data Verdict : Type 0 where
  Accepted : Verdict
  -- the position of the first token that is refused
  Refused : ℕ → Verdict

-- refuses the token at this position, or goes on
abbrev pub refused_or : ℕ → Option (List Frame) → (List Frame → Verdict) → Verdict
refused_or k None go = Refused k
refused_or k (Some fs) go = go fs

-- the tokens from the one at this position on; where they end inside a frame, the end that is missing is refused
abbrev pub alg_from : Context → List Token → List Frame → ℕ → Verdict
alg_from C [] [] k = Accepted
alg_from C [] (f ∷ fs) k = Refused k
alg_from C (t ∷ ts) fs k = refused_or k (step C t fs) (λ gs. alg_from C ts gs (k + 1))

-- the frame of a function's body with the results r
abbrev pub start : Stack → List Frame
start r = record { is_then = false; label = r; starts = []; gives = r; operands = fresh [] } ∷ []

-- 7.3 the verdict on the tokens of a body with the results r, under the locals of C
abbrev pub alg : Context → Stack → List Token → Verdict
alg C r tokens = alg_from (body_context r C) tokens (start r) 0

-- the frames after some tokens, if none of them is refused
abbrev pub run : Context → List Token → List Frame → Option (List Frame)
run C [] fs = Some fs
run C (t ∷ ts) fs = on (step C t fs) (run C ts)
