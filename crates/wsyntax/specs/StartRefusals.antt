-- 4.5.4 What a refusal of the code is.
use Rattle.wsyntax.specs.Execution.Start as meant
use Rattle.wsyntax.specs.declared.start_refusal.StartRefusal.{StartRefusal}
use Rattle.wsyntax.specs.declared.start_refusal.StartRefusal.TheVariants.{HasImports, HasFloats, TableLimit, MemoryLimit, ElementOutside, DataOutside}

-- 4.5.4 what a refusal of the code means
abbrev pub refusal_of : StartRefusal → meant.StartRefusal
refusal_of HasImports = meant.HasImports
refusal_of HasFloats = meant.HasFloats
refusal_of TableLimit = meant.TableLimit
refusal_of MemoryLimit = meant.MemoryLimit
refusal_of (ElementOutside k) = meant.ElementOutside k
refusal_of (DataOutside k) = meant.DataOutside k
