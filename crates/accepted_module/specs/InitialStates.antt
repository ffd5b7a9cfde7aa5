-- 4.5.4 What is computed once a module.
-- It is the definition's `layout_of`: first values without tags, the offsets of segments, and of each kind the first segment outside
-- the minimum.
use Rattle.std.specs.Prelude.{◌≡◌, ◌*◌}
use Rattle.wsyntax.specs.Modules.{ModuleShape}
use Rattle.wsyntax.specs.Execution.Store.{page}
use Rattle.wsyntax.specs.Execution.Start.{layout_of, first_outside}
use Rattle.soundness.specs.Slots.{slots}
use Rattle.accepted_module.specs.Segments.{offsets_of}
use Rattle.accepted_module.specs.Sizes.{table_size, memory_pages}
use Rattle.accepted_module.specs.declared.initial_state.InitialState.{InitialState}

-- the first values of the globals without tags, the offsets of the segments, and of each kind the first segment that does not end within the minimum
pub record IsLayoutOf (m : ModuleShape) (l : InitialState) : Type 0 where
  pub globals : l.globals.items ≡ slots (layout_of m).globals
  pub element_offsets : l.element_offsets.items ≡ offsets_of (layout_of m).elements
  pub data_offsets : l.data_offsets.items ≡ offsets_of (layout_of m).data'
  pub first_out_of_bounds_elem : l.first_out_of_bounds_elem ≡ first_outside 0 (table_size m) (layout_of m).elements
  pub data_outside : l.data_outside ≡ first_outside 0 (memory_pages m * page) (layout_of m).data'
