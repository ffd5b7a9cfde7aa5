-- Where floats stand outside the bodies.
use Rattle.std.specs.Prelude.{Bool, ◌||◌}
use Rattle.wsyntax.specs.Modules.{ModuleShape, GlobalShape}
use Rattle.wsyntax.specs.Execution.Start.{any, is_float, type_has_floats, token_has_floats}

-- in the type of a global
abbrev pub global_has_floats : GlobalShape → Bool
global_has_floats g = is_float g.global_type.val_type

-- in a function type, a global's type or the expressions of globals and segments
abbrev pub declarations_have_floats : ModuleShape → Bool
declarations_have_floats m =
    any type_has_floats m.types
    || any (λ g. is_float g.global_type.val_type || any token_has_floats g.init) m.globals
    || any (λ e. any token_has_floats e.offset) m.elements
    || any (λ d. any token_has_floats d.offset) m.segments
