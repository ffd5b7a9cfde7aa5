-- The end of a call on its own (`EndOf`): what is refused first, and the run.
use Rattle.std.specs.Prelude.{ℕ, List, [], ◌∷◌, codes}
use Rattle.wsyntax.specs.declared.types.ValType.TheVariants.{F32}
use Rattle.wsyntax.specs.declared.module.ExportKind.TheVariants.{Function, Global}
use Rattle.wsyntax.specs.declared.value.Value.{Value}
use Rattle.wsyntax.specs.declared.value.Value.TheVariants.{I32 as V32}
use Rattle.wsyntax.specs.Instructions.{Const, Drop, Plain, Stop}
use Rattle.wsyntax.specs.Modules.{ModuleShape, BodyShape}
use Rattle.wsyntax.specs.Execution.Ends.{Values}
use Rattle.wsyntax.specs.Execution.Start.{HasFloats}
use Rattle.wsyntax.specs.Texts.Report.{CallEnd, Ran, NoExport, NotAFunction, BadArguments, NotStarted, NoMemory}
use Rattle.wsyntax.specs.Texts.Answer.{EndOf}
use Rattle.soundness.specs.CallTexts.{calling}
use Rattle.soundness.specs.StartFirst.{starter, adds_five, gives_global, body_of, fuel}

-- the module with a start function; it exports its function 1 as `get` and its global as `sum`
abbrev pub exporter : ModuleShape
exporter = record starter {
  exports =
      record { item_name = codes "get"; kind = Function; index = 1 } ∷
      record { item_name = codes "sum"; kind = Global; index = 0 } ∷ [];
}

-- its bodies
abbrev pub whole : List BodyShape
whole = body_of adds_five ∷ body_of gives_global ∷ []

-- the same bodies, but a float in the first
abbrev pub floating : List BodyShape
floating = body_of (Plain (Const F32 0) (Plain Drop Stop)) ∷ body_of gives_global ∷ []

-- a call of this name with these arguments ends so, where no allocation fails
abbrev pub Ending : List BodyShape → List ℕ → List Value → CallEnd → Type 0
Ending bodies name args end = EndOf exporter bodies (fuel 10) ⊥ (calling name args) end

-- a call of this name with these arguments ends so, where memory is refused
abbrev pub ShortEnding : List BodyShape → List ℕ → List Value → CallEnd → Type 0
ShortEnding bodies name args end = EndOf exporter bodies (fuel 10) (Unit {0}) (calling name args) end

-- each is asked only where those before it hold
pub record EndExamples : Type 0 where
  -- no export has the name; the module has a float too
  pub no_export : Ending floating (codes "got") (V32 0 ∷ []) NoExport
  -- the name is that of a global
  pub not_a_function : Ending floating (codes "sum") (V32 0 ∷ []) NotAFunction
  -- one argument where there is no parameter
  pub bad_arguments : Ending floating (codes "get") (V32 0 ∷ []) BadArguments
  -- the module mentions a float; memory ran out too
  pub not_started : ShortEnding floating (codes "get") [] (NotStarted HasFloats)
  -- memory ran out
  pub no_memory : ShortEnding whole (codes "get") [] NoMemory
  -- it was run, its start function first
  pub ran : Ending whole (codes "get") [] (Ran (Values (V32 7 ∷ [])) 2)
