-- Types and sections (5.5) as they are held, without where they lie in memory.
use Rattle.std.specs.Prelude.{List, map}
use Rattle.wsyntax.specs.Types.{FuncType}
use Rattle.wsyntax.specs.declared.ValType.{ValType}
use Rattle.wsyntax.specs.Modules.{import_shape, export_shape, global_shape, element_shape, data_shape}
use Rattle.wsyntax.specs.Binary.Sections.{SectionShape, Custom, Types, Imports, Functions, Tables, Memories, Globals, Exports, Start}
use Rattle.wsyntax.specs.Binary.Sections.{Elements, Bodies, Segments}
use Rattle.wdecode.specs.declared.section.Section.{Section}
use Rattle.wdecode.specs.declared.section.Section.TheVariants as held

-- the type of these parameters and results
abbrev pub type_of : List ValType → List ValType → FuncType
type_of params results = record { params = params; results = results }

-- 5.5 what a section of the code means
abbrev pub section_shape : Section → SectionShape
section_shape held.Custom = Custom
section_shape (held.Types v) = Types v
section_shape (held.Imports v) = Imports (map import_shape v.items)
section_shape (held.Functions v) = Functions v.items
section_shape (held.Tables v) = Tables v.items
section_shape (held.Memories v) = Memories v.items
section_shape (held.Globals v) = Globals (map global_shape v.items)
section_shape (held.Exports v) = Exports (map export_shape v.items)
section_shape (held.Start x) = Start x
section_shape (held.Elements v) = Elements (map element_shape v)
section_shape (held.Code v) = Bodies (map (λ s. s.now) v.items)
section_shape (held.Data v) = Segments (map data_shape v.items)
