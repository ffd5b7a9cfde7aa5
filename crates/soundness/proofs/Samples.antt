-- The examples of src/examples.rt: the definitions, computed on small inputs, give the answers that were written down beforehand.
use Rattle.std.proofs.Common.{refl}
use Rattle.std.specs.Fmt.{digits}
use Rattle.wnum.specs.Arithmetic.{leading, trailing, ones}
use Rattle.wsyntax.specs.Execution.Start.{start_refusal}
use Rattle.wsyntax.specs.Execution.Step.{step}
use Rattle.soundness.specs.Bodies.{ReachedBodies, UnreachedBodies}
use Rattle.soundness.specs.Samples.{ControlExamples, LimitExamples, DivisionExamples, MemoryExamples, TableExamples}
use Rattle.soundness.specs.Instructions.{VariableExamples, BytesExamples, BlockExamples}
use Rattle.soundness.specs.Growth.{GrowthExamples}
use Rattle.soundness.specs.Counts.{CountExamples}
use Rattle.soundness.specs.Operators.{OperatorExamples}
use Rattle.soundness.specs.Floats.{FloatExamples}
use Rattle.soundness.specs.Starts.{RefusalExamples, FreshExamples}
use Rattle.soundness.specs.Reports.{ReportExamples, EndTexts, VerdictTexts}

pub reached_bodies : ReachedBodies
reached_bodies = record { adds = refl; one_too_many = refl; one_missing = refl; with_else = refl; without_else = refl; result_without_else = refl; branch_of_block = refl; branch_of_loop = refl; no_label = refl; outermost_label = refl; lower_of_frame = refl }

pub unreached_bodies : UnreachedBodies
unreached_bodies = record { lower_is_free = refl; free_select = refl; free_selected = refl; known_select = refl; known_result = refl; after_br = refl; after_return = refl; br_if_leaves = refl; table_of_two_types = refl; behind_the_block = refl }

pub control_examples : ControlExamples
unfolding step
control_examples = record { counts_down = refl; counts_through_zero = refl; calls_and_adds = refl; first_entry = refl; second_entry = refl; default_entry = refl }

pub limit_examples : LimitExamples
unfolding step
limit_examples = record { five_units = refl; no_unit = refl; three_frames = refl; fuel_before_frames = refl; one_frame = refl }

pub division_examples : DivisionExamples
unfolding step
division_examples = record { toward_zero = refl; by_zero = refl; least_by_minus_one = refl }

pub memory_examples : MemoryExamples
unfolding step
memory_examples = record { loads_sign = refl; over_the_end = refl; far_offset = refl; far_address = refl }

pub table_examples : TableExamples
unfolding step
table_examples = record { of_its_type = refl; of_other_type = refl; never_set = refl; past_the_end = refl; far_past_the_end = refl }

pub growth_examples : GrowthExamples
unfolding step
growth_examples = record { by_none = refl; to_the_maximum = refl; past_the_maximum = refl; to_the_setting = refl; past_the_setting = refl; to_the_most = refl; past_the_most = refl; far_past_the_most = refl; by_all_ones = refl; has_grown = refl; has_not_grown = refl }

pub count_examples : CountExamples
unfolding step
count_examples = record { of_one_turn = refl; charges = refl; work = refl; work_of_trap = refl }

pub operator_examples : OperatorExamples
unfolding leading trailing ones
operator_examples = record { unary32 = refl; unary64 = refl; sums32 = refl; sums64 = refl; quotients32 = refl; quotients64 = refl; by_zero32 = refl; by_zero64 = refl; least32 = refl; least64 = refl; bits32 = refl; bits64 = refl; shifts32 = refl; shifts64 = refl; tests32 = refl; tests64 = refl; zero_tests = refl; narrower = refl; wider = refl; low32 = refl; low_edges = refl; low64 = refl; other_operands = refl }

pub variable_examples : VariableExamples
unfolding step
variable_examples = record { drops = refl; selects_lower = refl; selects_upper = refl; local_at_first = refl; local_set = refl; local_tee = refl; global_at_first = refl; global_set = refl }

pub bytes_examples : BytesExamples
unfolding step
bytes_examples = record { whole = refl; lowest_byte_first = refl; next_byte = refl; next_by_offset = refl; narrow_store = refl; narrow_store_of_long = refl; no_page = refl }

pub block_examples : BlockExamples
unfolding step
block_examples = record { passes = refl; traps = refl; first_branch = refl; second_branch = refl; only_branch = refl; no_branch = refl; block_ends = refl; loop_ends = refl; branch_drops = refl; branch_out = refl; branch_out_of_all = refl; branch_taken = refl; branch_not_taken = refl; returns = refl; arguments_in_order = refl; lower_are_kept = refl; trap_leaves_frames = refl }

pub float_examples : FloatExamples
float_examples = record { nothing = refl; parameter = refl; result = refl; integer_type = refl; global_type = refl; global_value = refl; integer_global = refl; element_offset = refl; data_offset = refl; integer_offset = refl; declared_local = refl; no_local = refl; integer_local = refl; of_block = refl; of_loop = refl; of_if = refl; integer_blocks = refl; constant = refl; operator = refl; conversion = refl; load = refl; store = refl; integer_code = refl }

pub refusal_examples : RefusalExamples
unfolding start_refusal
refusal_examples = record { no_refusal = refl; nothing_there = refl; imports_first = refl; floats_next = refl; then_table = refl; then_memory = refl; then_elements = refl; least_element = refl; least_data = refl; most_entries = refl; one_entry_more = refl; most_pages = refl; one_page_more = refl; empty_at_end = refl; empty_elements_past_end = refl; empty_data_past_end = refl; far_data = refl }

pub fresh_examples : FreshExamples
fresh_examples = record { later_data = refl; lower_data = refl; later_elements = refl; first_values = refl; no_memory = refl; no_table = refl }

pub report_examples : ReportExamples
unfolding step digits
report_examples = record { add_wraps = record { ends = refl; report = refl }; last_word = record { ends = refl; report = refl }; over_the_end = record { ends = refl; report = refl }; past_the_end = refl; far_past_the_end = refl; four_loads = refl; no_call = refl; no_result = refl; two_results = refl }

pub end_texts : EndTexts
unfolding digits
end_texts = record { out_of_fuel = refl; out_of_frames = refl; reached_unreachable = refl; undefined_element = refl; uninitialized_element = refl; type_mismatch = refl; divide_by_zero = refl; integer_overflow = refl; no_export = refl; not_a_function = refl; bad_arguments = refl; has_imports = refl; has_floats = refl; table_limit = refl; memory_limit = refl; element_outside = refl; data_outside = refl; no_memory = refl; all_counted = refl }

pub verdict_texts : VerdictTexts
unfolding digits
verdict_texts = record { accepted = refl; too_large = refl; malformed = refl; rule_broken = refl; body_malformed = refl; too_many_locals = refl; ill_typed = refl; line = refl }
