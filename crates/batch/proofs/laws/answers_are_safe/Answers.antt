use Rattle.batch.proofs.Safe.{is_safe}
use Rattle.batch.proofs.laws.answers_are_safe.Goals as goal

pub returns : goal.returns
returns c bytes text l below = is_safe record {
  one_body = c.bodies_are_determined.ensures;
  one_shell = c.shells_are_determined.ensures;
  plain = c.start_is_plain.ensures;
  typed = c.calls_typed.ensures;
  safe = c.calls_are_safe.ensures;
  never = c.never_stuck.ensures;
  bytes = c.segments_hold_bytes.ensures;
} bytes text l below
