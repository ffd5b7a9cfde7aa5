-- The examples of block types by index and of several values compute.
use Rattle.std.proofs.Common.{refl}
use Rattle.std.specs.Fmt.{digits}
use Rattle.wsyntax.specs.Execution.Step.{step}
use Rattle.soundness.specs.BlockTypes.{IndexedBlocks, IndexedLoops, IndexedIfs, IndexedLabels, SeveralResults}
use Rattle.soundness.specs.SeveralValues.{SeveralExamples, TwoResults}

pub indexed_blocks : IndexedBlocks
indexed_blocks = record {
  takes_and_gives = refl;
  params_in_order = refl;
  param_missing = refl;
  lower_is_not_seen = refl;
  lower_is_kept = refl;
  results_in_order = refl;
  results_as_given = refl;
  result_missing = refl;
  one_too_many = refl;
  no_type_of_block = refl;
  no_type_of_loop = refl;
  no_type_of_if = refl;
  no_type_unreached = refl;
  unreached_params = refl;
  unreached_last_param = refl;
}

pub indexed_loops : IndexedLoops
indexed_loops = record {
  branch_takes_params = refl;
  branch_without_params = refl;
  branch_with_results = refl;
  ends_with_results = refl;
  ends_with_params = refl;
  param_missing = refl;
  br_if_leaves = refl;
  from_inside = refl;
  from_inside_without = refl;
}

pub indexed_ifs : IndexedIfs
indexed_ifs = record {
  both_take_params = refl;
  both_give_results = refl;
  only_condition = refl;
  keeps_without_else = refl;
  keeps_with_else = refl;
  gives_without_else = refl;
  takes_without_else = refl;
  changes_without_else = refl;
  turns_without_else = refl;
  unreached_without_else = refl;
}

pub indexed_labels : IndexedLabels
indexed_labels = record {
  takes_two = refl;
  in_order = refl;
  one_missing = refl;
  lower_is_dropped = refl;
  outer_label = refl;
  inner_label = refl;
  br_if_leaves = refl;
  br_if_in_order = refl;
  br_if_unreached = refl;
  table_of_two = refl;
  table_of_others = refl;
}

pub several_results : SeveralResults
several_results = record {
  ends_with_two = refl;
  ends_in_order = refl;
  branches_with_two = refl;
  branches_with_one = refl;
  returns_two = refl;
  returns_one = refl;
  call_gives_two = refl;
  call_in_order = refl;
  through_the_table = refl;
}

pub several_examples : SeveralExamples
unfolding step
several_examples = record {
  block_gives_two = record { valid = refl; ends = refl };
  block_takes_two = record { valid = refl; ends = refl };
  lower_is_kept = record { valid = refl; ends = refl };
  loop_adds_down = record { valid = refl; ends = refl };
  loop_once = record { valid = refl; ends = refl };
  loop_drops = record { valid = refl; ends = refl };
  if_passes = record { valid = refl; ends = refl };
  if_changes = record { valid = refl; ends = refl };
  first_branch = record { valid = refl; ends = refl };
  second_branch = record { valid = refl; ends = refl };
  branch_taken = record { valid = refl; ends = refl };
  branch_not_taken = record { valid = refl; ends = refl };
  branch_far = record { valid = refl; ends = refl };
  table_to_inner = record { valid = refl; ends = refl };
  table_to_outer = record { valid = refl; ends = refl };
  below_the_block = record { valid = refl; ends = refl };
}

pub two_results : TwoResults
unfolding step digits
two_results = record {
  at_its_end = refl;
  report = refl;
  at_a_return = refl;
  at_a_branch = refl;
  call = record { valid = refl; ends = refl };
  call_of_branch = record { valid = refl; ends = refl };
  through_the_table = record { valid = refl; ends = refl };
}
