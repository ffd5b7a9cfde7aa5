-- 4.5.5 The test of the arguments of a call.
use Rattle.std.specs.Prelude.{◌&&◌, nat_eq, List, length, Bool}
use Rattle.std.specs.List.{list_all, zip}
use Rattle.wsyntax.specs.declared.types.ValType.{ValType}
use Rattle.wsyntax.specs.declared.value.Value.{Value}
use Rattle.wsyntax.specs.Types.{same_type}
use Rattle.wsyntax.specs.Execution.Values.{type_of}

-- the value is of the type
abbrev pub is_of_type : Value × ValType → Bool
is_of_type p = same_type (type_of p.0) p.1

-- as many values as types, each of its type
abbrev pub are_of_types : List Value → List ValType → Bool
are_of_types values of_types = nat_eq (length values) (length of_types) && list_all is_of_type (zip values of_types)
