-- A module that was judged, with an instance of it: the premises of the laws on instances can be met.
use Rattle.std.specs.Prelude.{[], ◌∷◌, Some, None}
use Rattle.wsyntax.specs.declared.types.ValType.TheVariants.{I32}
use Rattle.wsyntax.specs.Instructions.{Nop, Const, Plain, Stop, Do, End}
use Rattle.wsyntax.specs.Modules.{ModuleShape, BodyShape}
use Rattle.wsyntax.specs.Validation.ModuleContext.{empty_type}
use Rattle.wsyntax.specs.Execution.Store.{Module}
use Rattle.soundness.specs.Instances.{Instantiated}

-- a start function that does nothing, a memory of a page, and two bytes for its last offsets
abbrev pub sole : ModuleShape
sole = record {
  types = empty_type ∷ [];
  imports = [];
  functions = 0 ∷ [];
  tables = [];
  memories = (record { min = 1; max = None }) ∷ [];
  globals = [];
  exports = [];
  start = Some 0;
  elements = [];
  bodies = [];
  segments = (record { memory = 0; offset = Do (Const I32 65534) ∷ End ∷ []; bytes = 7 ∷ 255 ∷ [] }) ∷ [];
}

-- its body
abbrev pub sole_body : BodyShape
sole_body = record { runs = []; code = Do Nop ∷ End ∷ [] }

-- its instance
abbrev pub sole_instance : Module
sole_instance = record { types = empty_type ∷ []; functions = (record { func_type = empty_type; locals = []; body = Plain Nop Stop }) ∷ [] }

-- it is the instance of that module
abbrev pub SoleInstantiated : Type 0
SoleInstantiated = Instantiated sole (sole_body ∷ []) 1 sole_instance
