use Rattle.verdict.proofs.SegmentBytes.{segments_are_bytes}
use Rattle.verdict.proofs.laws.segments_hold_bytes.Goals as goal

pub returns : goal.returns
returns c = segments_are_bytes
