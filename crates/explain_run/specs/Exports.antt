-- 2.5.10, 2.5.11 The text of the imports and exports of a module.
use Rattle.std.specs.Prelude.{◌≡◌, ℕ, List, [], ◌++◌, Option, Some, None, codes, decimal, flat_map, slice_get}
use Rattle.wsyntax.specs.Types.{FuncType}
use Rattle.wsyntax.specs.declared.types.GlobalType.{GlobalType}
use Rattle.wsyntax.specs.Modules.{ExportShape, ImportShape, ModuleShape}
use Rattle.wsyntax.specs.Validation.Context.{Context}
use Rattle.wsyntax.specs.Execution.Start.{StartRefusal}
use Rattle.wsyntax.specs.Texts.Words.{newline}
use Rattle.wsyntax.specs.declared.module.ExportKind.{ExportKind}
use Rattle.wsyntax.specs.declared.module.ExportKind.TheVariants.{Function, Table, Memory, Global}
use Rattle.wsyntax.specs.declared.module.ImportKind.{ImportKind}
use Rattle.wsyntax.specs.declared.module.ImportKind.TheVariants as imported
use Rattle.explain_run.specs.declared.customs.CustomSection.{CustomSection}
use Rattle.explain_run.specs.Starting.{IsStartLine}
use Rattle.explain_text.specs.Texts.{name_text}
use Rattle.explain_text.specs.Types.{func_type_text, global_type_text}

-- 2.5.10 the word of what an export names
abbrev pub kind_word : ExportKind → List ℕ
kind_word Function = codes "function"
kind_word Table = codes "table"
kind_word Memory = codes "memory"
kind_word Global = codes "global"

-- 2.3.3 a function type with a blank before it, where there is one
abbrev pub function_text : Option FuncType → List ℕ
function_text None = []
function_text (Some t) = codes " " ++ func_type_text t

-- 2.3.7 a global type with a blank before it
abbrev pub global_text : GlobalType → List ℕ
global_text g = codes " " ++ global_type_text g

-- the same, where there is one
abbrev pub found_global_text : Option GlobalType → List ℕ
found_global_text None = []
found_global_text (Some g) = global_text g

-- 2.5.10 the type of the item of that kind and index, with a blank before it: of a function and of a global
abbrev pub item_text : Context → ExportKind → ℕ → List ℕ
item_text C Function i = function_text (slice_get C.functions i)
item_text C Table i = []
item_text C Memory i = []
item_text C Global i = found_global_text (slice_get C.globals i)

-- 2.5.10 the line of an export: what it names, the index, the name as a string, and the type
abbrev pub export_line : Context → ExportShape → List ℕ
export_line C e =
    kind_word e.kind ++ (codes " " ++ (decimal e.index ++ (codes " " ++ (name_text e.item_name ++ (item_text C e.kind e.index ++ newline)))))

-- 2.5.11 the word of what an import asks for
abbrev pub import_word : ImportKind → List ℕ
import_word (imported.Function y) = codes "function"
import_word (imported.Table t) = codes "table"
import_word (imported.Memory l) = codes "memory"
import_word (imported.Global g) = codes "global"

-- 2.5.11 the type of what is imported, with a blank before it, where these are the types of the module: of a function and of a global
abbrev pub imported_text : List FuncType → ImportKind → List ℕ
imported_text types (imported.Function y) = function_text (slice_get types y)
imported_text types (imported.Table t) = []
imported_text types (imported.Memory l) = []
imported_text types (imported.Global g) = global_text g

-- 2.5.11 the name of the module of an import and its own, as strings
abbrev pub import_names : ImportShape → List ℕ
import_names i = codes "import " ++ (name_text i.module_name ++ (codes " " ++ name_text i.item_name))

-- 2.5.11 the line of an import: its names, what it asks for, and the type
abbrev pub import_line : List FuncType → ImportShape → List ℕ
import_line types i = import_names i ++ (codes " " ++ (import_word i.kind ++ (imported_text types i.kind ++ newline)))

-- 5.5.3 the line of a custom section: its name as a string, and how many bytes follow it
abbrev pub custom_line : CustomSection → List ℕ
custom_line c = codes "custom " ++ (name_text c.name.now ++ (codes " " ++ (decimal c.bytes ++ newline)))

-- the lines of the imports and of the exports in their order, those of some custom sections, and after them the line on the start of an instance
abbrev pub IsExportsText : Context → Option StartRefusal → ModuleShape → List ℕ → Type 0
IsExportsText C refusal m text =
    (customs : List CustomSection) × (line : List ℕ) × IsStartLine refusal line
    × (text ≡ flat_map (import_line m.types) m.imports ++ (flat_map (export_line C) m.exports ++ (flat_map custom_line customs ++ line)))
