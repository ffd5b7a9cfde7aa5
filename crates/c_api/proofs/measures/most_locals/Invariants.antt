use Rattle.std.proofs.Common.{◌≡◌, max, drop}
use Rattle.c_api.specs.Measures.{frame_locals, most_by}
use Rattle.c_api.proofs.measures.most_locals.Given as goal

abbrev pub invariant-loop-shape : goal.invariant-loop-shape
invariant-loop-shape l = max l.most (most_by frame_locals (drop l.shape-index l.shapes)) ≡ most_by frame_locals l.shapes
