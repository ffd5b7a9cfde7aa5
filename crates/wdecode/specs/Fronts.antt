-- 5.5.2, 5.5.14 and 5.5.15 A module in two parts: what its sections before the data section say, and the bytes from that section on.
-- The bytes from the data section on are sections in order after those that were read. With what they hold, the module is the same
-- with these data segments.
use Rattle.std.specs.Prelude.{◌≡◌, ◌<◌, ℕ, Bool, true, ◌&&◌, ◌==◌, List, [], ◌∷◌, length}
use Rattle.wsyntax.specs.Modules.{ModuleShape, DataShape, module_shape}
use Rattle.wsyntax.specs.Binary.Production.{SpellsAll}
use Rattle.wsyntax.specs.Binary.Sections.{SectionShape, section}
use Rattle.wsyntax.specs.Binary.Shell.{IsOrdered, put_all}
use Rattle.wdecode.specs.declared.front.ModuleHead.{ModuleHead}
use Rattle.wdecode.specs.declared.section.TheConstants.{DATA_SECTION}
use Rattle.wdecode.specs.declared.module.Progress.{Progress}

-- the module with these data segments in place of its own
abbrev pub with_segments : ModuleShape → List DataShape → ModuleShape
with_segments m segments = record m { segments = segments }

-- 5.5.2 the bytes are sections in order after the one of id `last`, and what they hold makes the module m the whole one
abbrev pub EndsAs : ℕ → ModuleShape → List ℕ → ModuleShape → Type 0
EndsAs last m rest whole = (ss : List SectionShape) × SpellsAll section.spells rest ss × IsOrdered last ss × (put_all m ss ≡ whole)

-- the same, where the whole one is m with these data segments
abbrev pub Ends : ℕ → ModuleShape → List ℕ → List DataShape → Type 0
Ends last m rest segments = EndsAs last m rest (with_segments m segments)

-- the bytes after a front end its module with these data segments
abbrev pub EndsFront : ModuleHead → List DataShape → Type 0
EndsFront f segments = Ends f.last (module_shape f.module) f.rest.now segments

-- Reading.

-- the bytes still to be read make a module of that progress the whole one
abbrev pub EndsProgress : Progress → ModuleShape → Type 0
EndsProgress p whole = EndsAs p.last (module_shape p.module) p.rest.now whole

-- 5.5.14 no section is left, or the data section is next where reading stops before it
abbrev pub stops : Bool → List ℕ → Bool
stops before_segments [] = true
stops before_segments (id ∷ rest) = before_segments && id == DATA_SECTION

-- no data section was read
abbrev pub IsBeforeSegments : ℕ → ModuleShape → Type 0
IsBeforeSegments last m = (last < DATA_SECTION) × (length m.segments ≡ 0)
