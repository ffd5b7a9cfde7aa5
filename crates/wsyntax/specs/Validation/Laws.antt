-- What is proved of the typing rules and of the algorithm.
use Rattle.std.specs.Prelude.{◌⊎◌, ◌≡◌, ℕ, ◌<◌, ◌↔◌, List, length, ◌++◌, false, [], ◌∷◌, Some, None, map}
use Rattle.wsyntax.specs.Instructions.{Code, Token, flat_body, follow}
use Rattle.wsyntax.specs.Validation.Context.{Stack, Context, body_context}
use Rattle.wsyntax.specs.Validation.Typing.{Typed, BodyTyped}
use Rattle.wsyntax.specs.Validation.Algorithm.{Operands, Frame, start, step, run, Accepted, Refused, alg}
use Rattle.wsyntax.specs.Validation.FirstFault.{FirstFault}

-- a body that the algorithm accepts is typed
abbrev pub AcceptedIsTyped : Type 0
AcceptedIsTyped = (C : Context) (r : Stack) (body : Code) → alg C r (flat_body body) ≡ Accepted → BodyTyped C r body

-- a typed body is accepted
abbrev pub TypedIsAccepted : Type 0
TypedIsAccepted = (C : Context) (r : Stack) (body : Code) → BodyTyped C r body → alg C r (flat_body body) ≡ Accepted

-- the verdict by the frames: accepted where every token is taken and no frame is left, refused at the first token that is not taken, or after the last one where a frame is still open
pub record RunsDecide : Type 0 where
  pub accepts : (C : Context) (r : Stack) (tokens : List Token) → run (body_context r C) tokens (start r) ≡ Some [] → alg C r tokens ≡ Accepted
  pub refuses : (C : Context) (r : Stack) (front rest : List Token) (t : Token) (fs : List Frame) → run (body_context r C) front (start r) ≡ Some fs → step (body_context r C) t fs ≡ None → alg C r (front ++ t ∷ rest) ≡ Refused (length front)
  pub lacks : (C : Context) (r : Stack) (tokens : List Token) (f : Frame) (fs : List Frame) → run (body_context r C) tokens (start r) ≡ Some (f ∷ fs) → alg C r tokens ≡ Refused (length tokens)

-- the algorithm refuses a body at a token exactly where that token is the first fault
abbrev pub RefusedAtFirstFault : Type 0
RefusedAtFirstFault = (C : Context) (r : Stack) (body : Code) (k : ℕ) → (alg C r (flat_body body) ≡ Refused k) ↔ FirstFault C r body k

-- a body is typed exactly where it has no first fault
abbrev pub TypedWhereNoFault : Type 0
TypedWhereNoFault = (C : Context) (r : Stack) (body : Code) → ((k : ℕ) → FirstFault C r body k → ⊥) ↔ BodyTyped C r body

-- a body is typed, or it has a first fault
abbrev pub TypedOrFault : Type 0
TypedOrFault = (C : Context) (r : Stack) (body : Code) → BodyTyped C r body ⊎ ((k : ℕ) × FirstFault C r body k)

-- a body has at most one first fault
abbrev pub OneFault : Type 0
OneFault = (C : Context) (r : Stack) (body : Code) (j k : ℕ) → FirstFault C r body j → FirstFault C r body k → j ≡ k

-- the first fault is one of the body's tokens
abbrev pub FaultInside : Type 0
FaultInside = (C : Context) (r : Stack) (body : Code) (k : ℕ) → FirstFault C r body k → k < length (flat_body body)

-- 3.3.6 composition: what comes second takes its operands from the top, and leaves those below as they were. The standard states it where u is one instruction
abbrev pub Composes : Type 0
Composes = (C : Context) (s u : Code) (a b c d : Stack) → Typed C s a (b ++ c) → Typed C u b d → Typed C (follow s u) a (d ++ c)

-- 3.3.6 the other way: a sequence in two parts is typed only if its parts are
abbrev pub Splits : Type 0
Splits = (C : Context) (s u : Code) (a z : Stack) → Typed C (follow s u) a z → (b : Stack) × Typed C s a b × Typed C u b z

-- where the code can be reached, the type of each operand of a frame is known
abbrev pub IsKnown : Operands → Type 0
IsKnown o = o.is_dead ≡ false → (ts : Stack) × (o.known ≡ map Some ts)

-- and so in every frame
abbrev pub AreKnown : List Frame → Type 0
AreKnown [] = Unit {0}
AreKnown (f ∷ fs) = IsKnown f.operands × AreKnown fs

-- unknown types stand only in code that cannot be reached, after every front that is not refused
abbrev pub ReachedIsKnown : Type 0
ReachedIsKnown = (C : Context) (r : Stack) (front : List Token) (fs : List Frame) → run (body_context r C) front (start r) ≡ Some fs → AreKnown fs

-- a body's tokens are those of no other tree
abbrev pub UniqueTree : Type 0
UniqueTree = (a b : Code) → flat_body a ≡ flat_body b → a ≡ b
