-- What an instruction does to the operands, in the code.
use Rattle.std.specs.Prelude.{List, [], ◌∷◌, Bool, reverse, cond}
use Rattle.wsyntax.specs.declared.ValType.TheVariants.{I32}
use Rattle.wsyntax.specs.Types.{FuncType}
use Rattle.wsyntax.specs.Validation.Context.{Stack}
use Rattle.wsyntax.specs.Validation.Algorithm as alg
use Rattle.wsyntax.specs.Validation.Algorithm.{Rule}
use Rattle.wcontext.specs.Lists.{list_of}
use Rattle.wcheck.specs.declared.rule.OperandRule.{OperandRule}
use Rattle.wcheck.specs.declared.rule.OperandRule.TheVariants.{Nothing, Push, Pop, Unary, Binary, Stores, Signature}
use Rattle.wcheck.specs.declared.rule.OperandRule.TheVariants.{Terminates, Drop, Select}

-- with an i32 on top, or not
abbrev pub indexed : Bool → Stack → Stack
indexed has_index ts = cond has_index (I32 ∷ ts) ts

-- its rule, where these are the function types
abbrev pub rule_of : List FuncType → OperandRule → Rule
rule_of types Nothing = alg.Takes [] []
rule_of types (Push t) = alg.Takes [] (t ∷ [])
rule_of types (Pop t) = alg.Takes (t ∷ []) []
rule_of types (Unary t u) = alg.Takes (t ∷ []) (u ∷ [])
rule_of types (Binary t u) = alg.Takes (t ∷ t ∷ []) (u ∷ [])
rule_of types (Stores t) = alg.Takes (t ∷ I32 ∷ []) []
rule_of types (Signature has_index ts us) = alg.Takes (indexed has_index (reverse (list_of types ts))) (reverse (list_of types us))
rule_of types (Terminates has_index ts) = alg.Ends (indexed has_index (reverse (list_of types ts)))
rule_of types Drop = alg.Drops
rule_of types Select = alg.Selects
