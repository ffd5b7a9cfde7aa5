-- The turns of the machine follow from the laws of the reduction.
use Rattle.refinement.specs.Reduction.{ReductionLaws}
use Rattle.refinement.proofs.OneTurn.Labels.{block_turn, loop_turn, end_turn, leave_turn, no_fuel_at_loop}
use Rattle.refinement.proofs.OneTurn.Branches.{branch_turn, branch_if_turn, pass_turn, branch_table_turn}
use Rattle.refinement.proofs.OneTurn.Tests.{then_turn, else_turn}
use Rattle.refinement.proofs.OneTurn.Straight.{straight_turn, trap_ends, unreachable_ends}
use Rattle.refinement.proofs.OneTurn.Tee.{tee_turn}
use Rattle.refinement.proofs.OneTurn.Calls.{call_turn, no_fuel_at_call, no_frames_at_call}
use Rattle.refinement.proofs.OneTurn.Returns.{return_turn, past_last_turn, return_ends_call, past_last_ends_call}
use Rattle.refinement.proofs.OneTurn.Indirect.{call_indirect_turn, undefined_ends, uninitialized_ends, mismatch_ends, no_fuel_at_indirect, no_frames_at_indirect}
use Rattle.refinement.proofs.Kept.Premises.{Turning}

pub turning_of : ReductionLaws → Turning
turning_of laws = record {
  straight = straight_turn laws;
  tee = tee_turn laws;
  block = block_turn laws;
  loop = loop_turn laws;
  «end» = end_turn laws;
  leave = leave_turn laws;
  branch = branch_turn laws;
  branch_if = branch_if_turn laws;
  pass = pass_turn laws;
  branch_table = branch_table_turn laws;
  return = return_turn laws;
  call = call_turn laws;
  call_indirect = call_indirect_turn laws;
  then = then_turn laws;
  «else» = else_turn laws;
  past_last = past_last_turn laws;
  trap_ends = trap_ends laws;
  unreachable_ends = unreachable_ends laws;
  return_ends = return_ends_call laws;
  past_last_ends = past_last_ends_call laws;
  no_fuel_at_loop = no_fuel_at_loop laws;
  no_fuel_at_call = no_fuel_at_call laws;
  no_frames_at_call = no_frames_at_call laws;
  undefined_ends = undefined_ends laws;
  uninitialized_ends = uninitialized_ends laws;
  mismatch_ends = mismatch_ends laws;
  no_fuel_at_indirect = no_fuel_at_indirect laws;
  no_frames_at_indirect = no_frames_at_indirect laws;
}
