-- 5.5.2 to 5.5.14 What sections hold, and function bodies.
use Rattle.std.specs.Prelude.{ℕ, zero, suc, ◌^◌, List, Option, Some, None, ◌==◌, sum_by, nat_lt, if◌then◌else◌}
use Rattle.wsyntax.specs.Types.{FuncType, Limits}
use Rattle.wsyntax.specs.Modules.{ImportShape, ExportShape, GlobalShape, ElementShape, DataShape, BodyShape}
use Rattle.wsyntax.specs.declared.module.Table.{Table}
use Rattle.wsyntax.specs.declared.module.ImportKind.{ImportKind}
use Rattle.wsyntax.specs.declared.module.ImportKind.TheVariants as imports
use Rattle.wsyntax.specs.declared.module.ExportKind.{ExportKind}
use Rattle.wsyntax.specs.declared.module.ExportKind.TheVariants as exports
use Rattle.wsyntax.specs.declared.module.LocalRun.{LocalRun}
use Rattle.wsyntax.specs.Binary.Production.{Production, byte, given, pure, ◌>>=◌, inside, begins}
use Rattle.wsyntax.specs.Binary.Values.{u32, vector, blob, name}
use Rattle.wsyntax.specs.Binary.Types.{val_type, func_type, limits, table_type, global_type}
use Rattle.wsyntax.specs.Binary.Nesting.{expression}

-- 5.5.5 imports
abbrev pub import_kind_of : ℕ → Production ImportKind
import_kind_of zero = u32 >>= λ x. pure (imports.Function x)
import_kind_of (suc zero) = table_type >>= λ t. pure (imports.Table t)
import_kind_of (suc (suc zero)) = limits >>= λ m. pure (imports.Memory m)
import_kind_of (suc (suc (suc zero))) = global_type >>= λ g. pure (imports.Global g)
import_kind_of (suc (suc (suc (suc tag)))) = given None

-- 5.5.5 what an import asks for
unfoldable pub import_kind : Production ImportKind
import_kind = byte >>= import_kind_of

-- 5.5.5 an import
unfoldable pub an_import : Production ImportShape
an_import = do
  m ← name
  i ← name
  k ← import_kind
  pure (record { module_name = m; item_name = i; kind = k })

-- 5.5.9 a global
unfoldable pub global : Production GlobalShape
global = do
  t ← global_type
  e ← expression
  pure (record { global_type = t; init = e })

-- 5.5.10 exports
abbrev pub export_kind_of : ℕ → Option ExportKind
export_kind_of b = if b == 0x00 then Some exports.Function else if b == 0x01 then Some exports.Table else if b == 0x02 then Some exports.Memory else if b == 0x03 then Some exports.Global else None

-- 5.5.10 an export
unfoldable pub an_export : Production ExportShape
an_export = do
  i ← name
  b ← byte
  k ← given (export_kind_of b)
  x ← u32
  pure (record { item_name = i; kind = k; index = x })

-- 5.5.12 an element segment
unfoldable pub element : Production ElementShape
element = do
  t ← u32
  e ← expression
  fs ← vector u32
  pure (record { table = t; offset = e; functions = fs })

-- 5.5.13 a run of declared locals
unfoldable pub run : Production LocalRun
run = do
  n ← u32
  t ← val_type
  pure (record { count = n; val_type = t })

-- how many locals these runs declare
abbrev pub locals_of : List LocalRun → ℕ
locals_of runs = sum_by (λ r. r.count) runs

-- 5.5.13 the runs of declared locals, fewer than 2^32 locals together
unfoldable pub locals : Production (List LocalRun)
locals = do
  runs ← vector run
  given (if nat_lt (locals_of runs) (2 ^ 32) then Some runs else None)

-- 5.5.13 a body: its declared locals and its expression
unfoldable pub body : Production BodyShape
body = do
  runs ← locals
  e ← expression
  pure (record { runs = runs; code = e })

-- 5.5.14 a data segment
unfoldable pub data_segment : Production DataShape
data_segment = do
  m ← u32
  e ← expression
  b ← blob
  pure (record { memory = m; offset = e; bytes = b })

-- 5.5.2 what a section holds
pub data SectionShape : Type 0 where
  Custom : SectionShape
  Types : List FuncType → SectionShape
  Imports : List ImportShape → SectionShape
  Functions : List ℕ → SectionShape
  Tables : List Table → SectionShape
  Memories : List Limits → SectionShape
  Globals : List GlobalShape → SectionShape
  Exports : List ExportShape → SectionShape
  Start : ℕ → SectionShape
  Elements : List ElementShape → SectionShape
  Bodies : List (List ℕ) → SectionShape
  Segments : List DataShape → SectionShape

-- no byte, and all of the bytes s, as a section
abbrev pub filling : {A : Type 0} → List ℕ → Production A → (A → SectionShape) → Production SectionShape
filling s p made = inside s p >>= λ v. pure (made v)

-- 5.5.2 the kinds of sections, by their ids
pub data SectionKind : Type 0 where
  CustomSection TypeSection ImportSection FunctionSection TableSection MemorySection GlobalSection ExportSection StartSection ElementSection CodeSection DataSection : SectionKind

-- 5.5.2 what section an id stands for
abbrev pub kind_of : ℕ → Option SectionKind
kind_of id =
    if id == 0 then Some CustomSection else if id == 1 then Some TypeSection else if id == 2 then Some ImportSection
    else if id == 3 then Some FunctionSection else if id == 4 then Some TableSection else if id == 5 then Some MemorySection
    else if id == 6 then Some GlobalSection else if id == 7 then Some ExportSection else if id == 8 then Some StartSection
    else if id == 9 then Some ElementSection else if id == 10 then Some CodeSection else if id == 11 then Some DataSection else None

-- 5.5.3 to 5.5.14 what fills a section; a custom section is a name, and then any bytes
abbrev pub contents_of : SectionKind → List ℕ → Production SectionShape
contents_of CustomSection s = begins s name >>= λ v. pure Custom
contents_of TypeSection s = filling s (vector func_type) Types
contents_of ImportSection s = filling s (vector an_import) Imports
contents_of FunctionSection s = filling s (vector u32) Functions
contents_of TableSection s = filling s (vector table_type) Tables
contents_of MemorySection s = filling s (vector limits) Memories
contents_of GlobalSection s = filling s (vector global) Globals
contents_of ExportSection s = filling s (vector an_export) Exports
contents_of StartSection s = filling s u32 Start
contents_of ElementSection s = filling s (vector element) Elements
contents_of CodeSection s = filling s (vector blob) Bodies
contents_of DataSection s = filling s (vector data_segment) Segments

-- 5.5.2 what the contents s of a section of this id say
abbrev pub contents : ℕ → List ℕ → Production SectionShape
contents id s = given (kind_of id) >>= λ kind. contents_of kind s

-- 5.5.2 an id, a size, and that many bytes, which the contents fill
unfoldable pub section : Production SectionShape
section = do
  id ← byte
  s ← blob
  contents id s
