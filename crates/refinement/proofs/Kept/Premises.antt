-- What each turn of the machine does beside the configuration, all together.
use Rattle.refinement.specs.Turns.{StraightTurn, TeeTurn, BlockTurn, LoopTurn, EndTurn, LeaveTurn, BranchTurn, BranchIfTurn, PassTurn, BranchTableTurn, ReturnTurn, CallTurn, CallIndirectTurn, ThenTurn, ElseTurn, PastLastTurn, TrapEnds, UnreachableEnds, ReturnEndsCall, PastLastEndsCall, NoFuelAtLoop, NoFuelAtCall, NoFramesAtCall, UndefinedEnds, UninitializedEnds, MismatchEnds, NoFuelAtIndirect, NoFramesAtIndirect}

-- one law a turn
pub record Turning : Type 0 where
  pub straight : StraightTurn
  pub tee : TeeTurn
  pub block : BlockTurn
  pub loop : LoopTurn
  pub «end» : EndTurn
  pub leave : LeaveTurn
  pub branch : BranchTurn
  pub branch_if : BranchIfTurn
  pub pass : PassTurn
  pub branch_table : BranchTableTurn
  pub return : ReturnTurn
  pub call : CallTurn
  pub call_indirect : CallIndirectTurn
  pub then : ThenTurn
  pub «else» : ElseTurn
  pub past_last : PastLastTurn
  pub trap_ends : TrapEnds
  pub unreachable_ends : UnreachableEnds
  pub return_ends : ReturnEndsCall
  pub past_last_ends : PastLastEndsCall
  pub no_fuel_at_loop : NoFuelAtLoop
  pub no_fuel_at_call : NoFuelAtCall
  pub no_frames_at_call : NoFramesAtCall
  pub undefined_ends : UndefinedEnds
  pub uninitialized_ends : UninitializedEnds
  pub mismatch_ends : MismatchEnds
  pub no_fuel_at_indirect : NoFuelAtIndirect
  pub no_frames_at_indirect : NoFramesAtIndirect
