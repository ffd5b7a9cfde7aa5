-- 4.5.4 Why no instance of a module starts, and where the reason stands.
use Rattle.std.specs.Prelude.{◌≡◌, ℕ, suc, List, [], ◌∷◌, ◌++◌, Option, Some, None, codes, option_map, position, slice_get, unwrap_or, if◌then◌else◌}
use Rattle.std.specs.List.{between}
use Rattle.wsyntax.specs.Modules.{ModuleShape, BodyShape, import_shape}
use Rattle.wsyntax.specs.Execution.Start.{StartRefusal, body_has_floats, first, or_else, run_has_floats, token_has_floats, type_has_floats}
use Rattle.wsyntax.specs.Execution.Start as meant
use Rattle.wsyntax.specs.Texts.Report.{refusal_text}
use Rattle.wsyntax.specs.Texts.Words.{newline}
use Rattle.accepted_module.specs.Floats.{global_has_floats}
use Rattle.accepted_module.specs.Sizes.{table_size, memory_pages}
use Rattle.explain_bytes.specs.Locations.{IsTokenAt}
use Rattle.explain_text.specs.Texts.{BeginsWith}
use Rattle.explanation.specs.declared.explanation.FoundToken.{FoundToken}
use Rattle.explain_run.specs.declared.starting.FloatLocation.{FloatLocation}
use Rattle.explain_run.specs.declared.starting.FloatLocation.TheVariants as location
use Rattle.explain_run.specs.declared.starting.NotStarting.{NotStarting}
use Rattle.explain_run.specs.declared.starting.NotStarting.TheVariants.{Import, Floats, TableLimit, MemoryLimit, ElementOutside, DataOutside}

-- the reason that is named
abbrev pub refusal_named : NotStarting → StartRefusal
refusal_named (Import i) = meant.HasImports
refusal_named (Floats at) = meant.HasFloats
refusal_named (TableLimit entries) = meant.TableLimit
refusal_named (MemoryLimit pages) = meant.MemoryLimit
refusal_named (ElementOutside k) = meant.ElementOutside k
refusal_named (DataOutside k) = meant.DataOutside k

-- where floats stand first in the body of function f: in a run of locals, else in a token
abbrev pub location_in : ℕ → Option ℕ → ℕ → FloatLocation
location_in f (Some run) token_position = location.Local f run
location_in f None token_position = location.Token f token_position

-- 2.5.3 where floats stand first in the body of function f, which has some
abbrev pub float_in : ℕ → BodyShape → FloatLocation
float_in f b = location_in f (position run_has_floats b.runs) (unwrap_or (position token_has_floats b.code) 0)

-- 2.5.3 the same in the first body that has some; these are the bodies from function f on
abbrev pub first_in : ℕ → List BodyShape → Option FloatLocation
first_in f [] = None
first_in f (b ∷ bs) = if body_has_floats b then Some (float_in f b) else first_in (suc f) bs

-- the first function type with floats, else the first global of a float type, else the first location in a body: in a valid module no float stands elsewhere
abbrev pub first_float : ModuleShape → List BodyShape → Option FloatLocation
first_float m bodies =
    or_else (option_map location.Type (position type_has_floats m.types))
    (or_else (option_map location.Global (position global_has_floats m.globals)) (first_in 0 bodies))

-- the item that is named is the first reason against the start
abbrev pub IsNamed : ModuleShape → List BodyShape → NotStarting → Type 0
IsNamed m bodies (Import i) = first m.imports ≡ Some (import_shape i)
IsNamed m bodies (Floats at) = at ≡ first_float m bodies
IsNamed m bodies (TableLimit entries) = entries ≡ table_size m
IsNamed m bodies (MemoryLimit pages) = pages ≡ memory_pages m
IsNamed m bodies _ = Unit {0}

-- the words of a reason begin the text on it
abbrev pub reason_text : StartRefusal → List ℕ
reason_text r = codes "not-started " ++ refusal_text r

-- the line on the start of an instance: `starts`, or the reason and what is named
abbrev pub IsStartLine : Option StartRefusal → List ℕ → Type 0
IsStartLine None line = line ≡ codes "starts" ++ newline
IsStartLine (Some r) line = BeginsWith (reason_text r) line

-- the bytes in some span are the body of function f, and its token at that position is this one
abbrev pub IsTokenOf : List ℕ → List (List ℕ) → ℕ → ℕ → FoundToken → Type 0
IsTokenOf bytes bodies f token_position token =
    (from : ℕ) × (to : ℕ) × (slice_get bodies f ≡ Some (between from to bytes))
    × IsTokenAt (between from to bytes) from token_position token
