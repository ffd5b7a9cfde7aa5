-- The types so far are written.
use Rattle.std.proofs.Common.{◌≡◌, ◌++◌, string_bytes, take}
use Rattle.std.specs.Prelude.{flat_map}
use Rattle.explain_text.specs.Types.{others_text}
use Rattle.explain_text.proofs.type_text.push_others.Given as goal

abbrev pub invariant-loop-of_type : goal.invariant-loop-of_type
invariant-loop-of_type l = string_bytes l.text ≡ string_bytes l.initial.text ++ flat_map others_text (take l.of_type-index l.types)
