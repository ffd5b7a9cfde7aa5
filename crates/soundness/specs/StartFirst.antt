-- Calls of a module with a start function, which is run first on the fresh store (`Started`, `EndsOn`).
use Rattle.std.specs.Prelude.{ℕ, [], ◌∷◌, true, None, Some}
use Rattle.wsyntax.specs.declared.types.ValType.TheVariants.{I32}
use Rattle.wsyntax.specs.declared.value.Value.TheVariants.{I32 as V32}
use Rattle.wsyntax.specs.declared.value.Trap.TheVariants.{Unreachable as ByUnreachable}
use Rattle.wsyntax.specs.Types.{FuncType}
use Rattle.wsyntax.specs.Instructions.{Width32, Add, OfTwo, GlobalGet, GlobalSet, Const, Numeric, Unreachable, Code, Stop, Plain, Do, End, flat_body}
use Rattle.wsyntax.specs.Modules.{ModuleShape, BodyShape}
use Rattle.wsyntax.specs.Binary.Shell.{empty_module}
use Rattle.wsyntax.specs.Execution.Store.{Module, Store}
use Rattle.wsyntax.specs.Execution.Ends.{Outcome, Values, Trapped, OutOfFuel}
use Rattle.wsyntax.specs.Execution.Start.{InstanceOf}
use Rattle.wsyntax.specs.Texts.Answer.{Limits, Started, EndsOn}
use Rattle.soundness.specs.Samples.{none, const}

-- [] -> [i32]
abbrev pub gives : FuncType
gives = record { params = []; results = I32 ∷ [] }

-- adds 5 to the global
abbrev pub adds_five : Code
adds_five = Plain (GlobalGet 0) (const 5 (Plain (Numeric (OfTwo Width32 Add)) (Plain (GlobalSet 0) Stop)))

-- gives the global
abbrev pub gives_global : Code
gives_global = Plain (GlobalGet 0) Stop

-- function 0 is the start function, function 1 gives the global, which begins with 2
abbrev pub starter : ModuleShape
starter = record empty_module {
  types = none ∷ gives ∷ [];
  functions = 0 ∷ 1 ∷ [];
  globals = (record { global_type = record { val_type = I32; mutable = true }; init = Do (Const I32 2) ∷ End ∷ [] }) ∷ [];
  start = Some 0;
}

-- its instance, with this start function
abbrev pub instance_of : Code → Module
instance_of code = record {
  types = none ∷ gives ∷ [];
  functions = record { func_type = none; locals = []; body = code } ∷ record { func_type = gives; locals = []; body = gives_global } ∷ [];
}

-- a body of this code
abbrev pub body_of : Code → BodyShape
body_of code = record { runs = []; code = flat_body code }

-- a store with nothing but this global
abbrev pub with_global : ℕ → Store
with_global n = record { memory = None; table = None; globals = V32 n ∷ [] }

-- n fuel
abbrev pub fuel : ℕ → Limits
fuel n = record { fuel = n; frames = 1; pages = 1 }

-- how a call of function 1 ends with this start function, and what it costs with it
abbrev pub Ending : Code → ℕ → Outcome → ℕ → Type 0
Ending code n o spent = EndsOn starter (instance_of code) (fuel n) 1 [] o spent

-- the call is run on the store that the start function leaves, with the fuel that it leaves, and both are told as its fuel
pub record StartFirstExamples : Type 0 where
  -- the instance is the one of these bodies
  pub instance : InstanceOf starter (body_of adds_five ∷ body_of gives_global ∷ []) (instance_of adds_five)
  -- the start function leaves 2 + 5, at the cost of its entry
  pub leaves_store : Started starter (instance_of adds_five) (fuel 10) (with_global 7) 1
  -- the call gives what the start function left, and the fuel of both is told
  pub fuel_is_added : Ending adds_five 10 (Values (V32 7 ∷ [])) 2
  -- just enough fuel for both
  pub enough_fuel : Ending adds_five 2 (Values (V32 7 ∷ [])) 2
  -- the start function takes the one unit
  pub fuel_is_shared : Ending adds_five 1 OutOfFuel 1
  -- none is there for the start function
  pub no_fuel : Ending adds_five 0 OutOfFuel 0
  -- a start function that traps ends the call
  pub start_traps : Ending (Plain Unreachable Stop) 10 (Trapped ByUnreachable) 1
  -- the same module without a start function
  pub no_start : EndsOn (record starter { start = None }) (instance_of adds_five) (fuel 10) 1 [] (Values (V32 2 ∷ [])) 1
