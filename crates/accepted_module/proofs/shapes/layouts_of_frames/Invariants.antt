use Rattle.std.proofs.Common.{◌≡◌, take}
use Rattle.accepted_module.specs.FrameLayouts.{frame_layouts}
use Rattle.accepted_module.proofs.shapes.layouts_of_frames.Given as goal

abbrev pub invariant-loop-position : goal.invariant-loop-position
invariant-loop-position l = l.shapes.items ≡ frame_layouts l.types l.type_ids (take l.position l.functions) l.bodies
