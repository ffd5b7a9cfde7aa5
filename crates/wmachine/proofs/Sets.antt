-- Lists of value types and function types are sets: an equation between two has one proof at most.
use Rattle.std.proofs.Common.{◌≡◌, List, Option, true, subst, ap}
use Rattle.std.proofs.Math.Bool.{Bool-set}
use Rattle.std.proofs.Props.{props}
use mathlib.Core.HLevel.{collapsible→set}
use Rattle.wsyntax.specs.declared.types.ValType.{ValType}
use Rattle.wsyntax.specs.Types.{FuncType, same_types}
use Rattle.soundness.proofs.Chapter3.Basics.{same_types-true, same_types-same}

-- the path that the test gives
abbrev tested : (a b : List ValType) → a ≡ b → a ≡ b
tested a b p = same_types-true a b (subst (λ z. same_types a z ≡ true) p (same_types-same a))

pub types_set : IsSet (List ValType)
types_set = collapsible→set tested (λ a b p q. ap (same_types-true a b) (Bool-set (same_types a b) true (subst (λ z. same_types a z ≡ true) p (same_types-same a)) (subst (λ z. same_types a z ≡ true) q (same_types-same a))))

func_type_set : IsSet FuncType
func_type_set = hlevel types_set

pub found_set : IsSet (Option FuncType)
found_set = hlevel (props, func_type_set)
