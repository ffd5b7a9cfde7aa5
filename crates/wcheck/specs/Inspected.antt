-- What is asked of a checker between two tokens.
use Rattle.std.specs.Prelude.{◌≡◌, List, [], ◌∷◌, Option, Some, None, length, map, reverse}
use Rattle.wsyntax.specs.declared.ValType.{ValType}
use Rattle.wsyntax.specs.Validation.Context.{Stack, Context}
use Rattle.wsyntax.specs.Validation.Algorithm.{Frame, on, pop_any}
use Rattle.wcheck.specs.declared.checker.inspect.OpenFrame.{OpenFrame}

-- the first frame is this one, its operands apart
pub record IsInnermost (fs : List Frame) (g : OpenFrame) : Type 0 where
  pub frame : Frame
  pub rest : List Frame
  pub frames : fs ≡ frame ∷ rest
  pub is_then : g.is_then ≡ frame.is_then
  pub label : reverse g.label.now ≡ frame.label
  pub starts : reverse g.starts.now ≡ frame.starts
  pub gives : reverse g.gives.now ≡ frame.gives
  pub height : g.height ≡ length frame.operands.known
  pub is_unreachable : g.is_unreachable ≡ frame.operands.is_dead

-- 7.3 pop_val: the topmost operand of the first frame, and the frames without it
abbrev pub take_top : List Frame → Option (Option ValType × List Frame)
take_top [] = None
take_top (f ∷ fs) = on (pop_any f.operands) (λ x. Some (x.0, record f { operands = x.1 } ∷ fs))

-- an operand is taken from the first frame, or there is none
abbrev pub TakesOperand : List Frame → List Frame → Option (Option ValType) → Type 0
TakesOperand old new None = (take_top old ≡ None) × (new ≡ old)
TakesOperand old new (Some x) = take_top old ≡ Some (x, new)

-- 3.1.1 what a branch to each label takes, the innermost first
abbrev pub labels_of : List Frame → List Stack
labels_of fs = map (λ f. f.label) fs

-- 3.4.1 inside a body all but the locals, the labels and the return type is as outside
abbrev pub SharesSpaces : Context → Context → Type 0
SharesSpaces outside inside = inside ≡ record outside { locals = inside.locals; labels = inside.labels; return = inside.return }
