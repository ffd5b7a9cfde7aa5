use Rattle.std.proofs.Common.{◌*◌, ◌∙◌, ap, map}
use Rattle.wsyntax.specs.Modules.{module_shape, global_shape}
use Rattle.wsyntax.specs.Execution.Start.{first_value, first_outside}
use Rattle.wsyntax.specs.Execution.Store.{page}
use Rattle.soundness.specs.Slots.{bits}
use Rattle.accepted_module.specs.Segments.{element_segments, data_segments, data_offset}
use Rattle.accepted_module.specs.Sizes.{memory_pages}
use Rattle.accepted_module.proofs.ConstantOffsets.{elements_have_offsets, data_have_offsets}
use Rattle.accepted_module.proofs.Words.{words_of, element_offsets_of, data_offsets_of}
use Rattle.accepted_module.proofs.initial_state.InitialState.of.Goals as goal

pub offsets_of_elements-requires : goal.offsets_of_elements-requires
offsets_of_elements-requires c = elements_have_offsets (module_shape c.args.module.now) c.args.module.now.elements c.requires.elements

pub first_element_outside-requires-clause-offsets : goal.first_element_outside-requires-clause-offsets
first_element_outside-requires-clause-offsets c = elements_have_offsets (module_shape c.args.module.now) c.args.module.now.elements c.requires.elements

pub offsets_of_data-requires : goal.offsets_of_data-requires
offsets_of_data-requires c = data_have_offsets (module_shape c.args.module.now) c.args.module.now.«data».items c.as_slice-segments.result.now c.as_slice-segments.ensures.value c.requires.segments

pub first_data_outside-requires-clause-offsets : goal.first_data_outside-requires-clause-offsets
first_data_outside-requires-clause-offsets c = data_have_offsets (module_shape c.args.module.now) c.args.module.now.«data».items c.as_slice-segments.result.now c.as_slice-segments.ensures.value c.requires.segments

pub returns : goal.returns
returns c =
    let m = c.args.module.now in
    let segments = c.as_slice-segments.ensures.value in
    record {
      globals = c.in_ok-first_words.ensures ∙ ap (map (λ g. bits (first_value (global_shape g)))) c.deref.ensures.value ∙ words_of m.globals.items;
      element_offsets = c.in_ok-offsets_of_elements.ensures ∙ element_offsets_of m.elements;
      data_offsets = c.in_ok-offsets_of_data.ensures ∙ ap (map data_offset) segments ∙ data_offsets_of m.«data».items;
      first_out_of_bounds_elem = c.first_element_outside.ensures ∙ ap (λ n. first_outside 0 n (element_segments m.elements)) c.table_size-entries.ensures;
      data_outside = c.first_data_outside.ensures ∙ ap (λ n. first_outside 0 (n * page) (data_segments c.as_slice-segments.result.now)) c.memory_pages.ensures ∙ ap (λ l. first_outside 0 (memory_pages (module_shape m) * page) (data_segments l)) segments;
    }
