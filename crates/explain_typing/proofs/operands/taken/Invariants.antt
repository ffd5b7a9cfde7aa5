use Rattle.std.proofs.Common.{◌≡◌, ◌-◌, ◌++◌, map}
use Rattle.explain_typing.specs.Typed.{frame_type, topmost}
use Rattle.explain_typing.proofs.operands.taken.Given as goal

abbrev pub invariant-loop-at : goal.invariant-loop-at
invariant-loop-at l = record {
  taken : l.operands.items ++ topmost (l.count - l.at) l.checker.frames ≡ topmost l.count l.initial.checker.frames;
  types : map frame_type l.checker.frames ≡ map frame_type l.initial.checker.frames;
}
