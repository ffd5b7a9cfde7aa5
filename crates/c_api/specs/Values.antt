-- The fields of values.
use Rattle.std.specs.Prelude.{◌≡◌, List, [], ◌∷◌, map}
use Rattle.wsyntax.specs.Execution.Values.{IsWord, AreWords}
use Rattle.wsyntax.specs.declared.value.Value.{Value}
use Rattle.wsyntax.specs.declared.value.Value.TheVariants.{I32, I64}
use Rattle.c_api.specs.declared.value.GateValue.{GateValue}

-- of a value
abbrev pub value_fields : Value → GateValue
value_fields (I32 n) = record { width = 32; bits = n }
value_fields (I64 n) = record { width = 64; bits = n }

-- the fields of no value
abbrev pub IsNoValue : GateValue → Type 0
IsNoValue fields = (v : Value) → IsWord v → value_fields v ≡ fields → ⊥

-- the numbers of no arguments
abbrev pub AreNoArguments : List GateValue → Type 0
AreNoArguments numbers = (args : List Value) → AreWords args → map value_fields args ≡ numbers → ⊥

-- those of values over the first of these, as far as there is room
abbrev pub overlay : List Value → List GateValue → List GateValue
overlay [] old = old
overlay (v ∷ vs) [] = []
overlay (v ∷ vs) (x ∷ old) = value_fields v ∷ overlay vs old
