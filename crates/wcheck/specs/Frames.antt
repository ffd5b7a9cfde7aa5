-- The open frames, in the code.
use Rattle.std.specs.Prelude.{◌≡◌, false, List, [], ◌∷◌, Option, Some, reverse, cond, length}
use Rattle.wsyntax.specs.Types.{FuncType}
use Rattle.wsyntax.specs.declared.ValType.TheVariants.{I32}
use Rattle.wsyntax.specs.declared.instructions.BlockType.{BlockType}
use Rattle.wsyntax.specs.Validation.Context.{Stack, block_sig}
use Rattle.wsyntax.specs.Validation.Algorithm.{Frame, Operands, when, on, pop_one, open_frame, ends_with, may_lack_else, pass_on, fresh}
use Rattle.wcontext.specs.Lists.{list_of}
use Rattle.wcontext.specs.declared.lists.TypeList.{TypeList}
use Rattle.side_table.specs.declared.label.Opener.{Opener}
use Rattle.side_table.specs.Pass.{is_loop, is_if}
use Rattle.wcheck.specs.declared.frames.ControlFrame.{ControlFrame}
use Rattle.wcheck.specs.declared.frames.OuterFrame.{OuterFrame}
use Rattle.wcheck.specs.declared.control.Control.{Control}
use Rattle.wcheck.specs.Heights.{Stacked}
use Rattle.wcheck.specs.Views.{frame_of, cut, under_all}

abbrev pub innermost_of : Control → Frame
innermost_of x = frame_of x.operands.types x.top x.operands.above

-- the frames outside the innermost one, the innermost of them first
abbrev pub outside_of : Control → List Frame
outside_of x = cut x.operands.types (reverse x.outer.items) x.operands.below

-- the innermost frame first
abbrev pub inner_of : Control → List Frame
inner_of x = innermost_of x ∷ outside_of x

-- the same: none after the function's end
abbrev pub frames_of : Control → List Frame
frames_of x = cond x.is_open (inner_of x) []

-- nothing lies under the outermost frame
abbrev pub IsTight : Control → Type 0
IsTight x = under_all (reverse x.outer.items) x.operands.below ≡ []

-- the innermost frame, once another one is pushed
abbrev pub outer_frame_of : ControlFrame → Stacked → OuterFrame
outer_frame_of top operands = record { frame = top; unreachable = operands.above.is_dead; height = length operands.below }

-- the same, once the frame outside it was taken off the others
abbrev pub gone_back : OuterFrame → Control → List Frame
gone_back outer x =
    pass_on (innermost_of x).gives (cut x.operands.types (outer ∷ reverse x.outer.items) x.operands.below)

-- what a branch to a frame with that opener takes
abbrev pub label_by : Opener → FuncType → Stack
label_by opener s = cond (is_loop opener) (reverse s.params) (reverse s.results)

abbrev pub pair_of : Control → TypeList → TypeList → FuncType
pair_of x params results = record { params = list_of x.operands.types params; results = list_of x.operands.types results }

-- 7.3 push_ctrl: a frame is pushed, where its parameters are there
abbrev pub opened : Opener → TypeList → TypeList → Control → Option (List Frame)
opened opener params results x =
    open_frame (is_if opener) (label_by opener (pair_of x params results)) (pair_of x params results) (innermost_of x) (outside_of x) x.operands.above

-- what is left of the operands once an opener has taken its condition
abbrev pub after_condition : Opener → Operands → Option Operands
after_condition opener o = cond (is_if opener) (pop_one I32 o) (Some o)

-- 7.3 block, loop and if: a frame is pushed, where the block type names a function type
abbrev pub entered : Opener → BlockType → Control → Option (List Frame)
entered opener block x =
    on (block_sig x.operands.types block) (λ s.
    on (after_condition opener x.operands.above) (open_frame (is_if opener) (label_by opener s) s (innermost_of x) (outside_of x)))

-- 7.3 else: the first branch of an if is closed, and the second one goes on in its place
abbrev pub switched : Frame → List Frame → Option (List Frame)
switched f fs = when f.is_then (when (ends_with f.gives f.operands) (Some (record f { is_then = false; operands = fresh f.starts } ∷ fs)))

-- 7.3 end: the innermost frame is popped, and its results go to the one outside
abbrev pub closed : Frame → List Frame → Option (List Frame)
closed f fs = when (ends_with f.gives f.operands) (when (may_lack_else f) (Some (pass_on f.gives fs)))
