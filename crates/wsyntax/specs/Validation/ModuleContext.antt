-- 2.5.1 The index spaces of a module, and 3.4.10 the context that they give.
use Rattle.std.specs.Prelude.{ℕ, List, [], ◌∷◌, ◌++◌, Option, Some, None, length, map, filter_map, replicate, slice_get, nat_lt, unwrap_or}
use Rattle.wsyntax.specs.Types.{ValType, FuncType, Limits, GlobalType}
use Rattle.wsyntax.specs.Modules.{ModuleShape}
use Rattle.wsyntax.specs.Validation.Context.{Context}
use Rattle.wsyntax.specs.declared.module.ImportKind.{ImportKind}
use Rattle.wsyntax.specs.declared.module.ImportKind.TheVariants.{Function, Table, Memory, Global}
use Rattle.wsyntax.specs.declared.module.Table.{Table as TableType}
use Rattle.wsyntax.specs.declared.module.LocalRun.{LocalRun}

-- What an import adds to each index space.

-- 2.5.11 a function, by the index of its type
abbrev pub imported_function : ImportKind → Option ℕ
imported_function (Function y) = Some y
imported_function (Table t) = None
imported_function (Memory l) = None
imported_function (Global g) = None

-- 2.5.11 the table that an import adds
abbrev pub imported_table : ImportKind → Option TableType
imported_table (Function y) = None
imported_table (Table t) = Some t
imported_table (Memory l) = None
imported_table (Global g) = None

-- 2.5.11 the memory that an import adds
abbrev pub imported_memory : ImportKind → Option Limits
imported_memory (Function y) = None
imported_memory (Table t) = None
imported_memory (Memory l) = Some l
imported_memory (Global g) = None

-- 2.5.11 the global that an import adds
abbrev pub imported_global : ImportKind → Option GlobalType
imported_global (Function y) = None
imported_global (Table t) = None
imported_global (Memory l) = None
imported_global (Global g) = Some g

-- What is imported, in the order of the imports.

-- 2.5.1 the imported functions, each by the index of its type
abbrev pub imported_functions : ModuleShape → List ℕ
imported_functions m = filter_map (λ i. imported_function i.kind) m.imports

-- 2.5.1 the imported tables
abbrev pub imported_tables : ModuleShape → List TableType
imported_tables m = filter_map (λ i. imported_table i.kind) m.imports

-- 2.5.1 the imported memories
abbrev pub imported_memories : ModuleShape → List Limits
imported_memories m = filter_map (λ i. imported_memory i.kind) m.imports

-- 2.5.1 the imported globals
abbrev pub imported_globals : ModuleShape → List GlobalType
imported_globals m = filter_map (λ i. imported_global i.kind) m.imports

-- 2.5.1 the index spaces: what is imported, and then what the module defines.

-- 2.5.1 the functions of a module, each by the index of its type, the imported ones first
abbrev pub functions_of : ModuleShape → List ℕ
functions_of m = imported_functions m ++ m.functions

-- 2.5.1 the tables of a module, the imported ones first
abbrev pub tables_of : ModuleShape → List TableType
tables_of m = imported_tables m ++ m.tables

-- 2.5.1 the memories of a module, the imported ones first
abbrev pub memories_of : ModuleShape → List Limits
memories_of m = imported_memories m ++ m.memories

-- 2.5.1 the globals of a module, each by its type, the imported ones first
abbrev pub globals_of : ModuleShape → List GlobalType
globals_of m = imported_globals m ++ map (λ g. g.global_type) m.globals

-- 3.4.10 the context of a module.

-- [] -> []
abbrev pub empty_type : FuncType
empty_type = record { params = []; results = [] }

-- the type of that index; [] -> [] where there is none, which the rules of modules exclude
abbrev pub type_at : List FuncType → ℕ → FuncType
type_at types y = unwrap_or (slice_get types y) empty_type

-- 3.4.10 the context C, under which a module's parts are valid
abbrev pub module_context : ModuleShape → Context
module_context m = record {
  types = m.types;
  functions = map (type_at m.types) (functions_of m);
  has_table = nat_lt 0 (length (tables_of m));
  has_memory = nat_lt 0 (length (memories_of m));
  globals = globals_of m;
  locals = [];
  labels = [];
  return = None;
}

-- the context of a module, and of its functions what the context leaves out
pub record IndexedContext : Type 0 where
  pub context : Context
  -- of each function the index of its type, the imported ones first
  pub function_types : List ℕ
  -- how many functions are imported
  pub imported : ℕ

-- 3.1.1 the context of a module, and the index of each function's type
abbrev pub indexed_context : ModuleShape → IndexedContext
indexed_context m = record {
  context = module_context m;
  function_types = functions_of m;
  imported = length (imported_functions m);
}

-- 3.4.1 the context of a function.

-- 5.5.13 the declared locals, one by one
abbrev pub declared : List LocalRun → List ValType
declared [] = []
declared (run ∷ runs) = replicate run.count run.val_type ++ declared runs

-- 3.4.1 the context of the function of that index, whose declared locals are these: its parameters are its first locals. Its label and its return type come with `body_context`
abbrev pub function_context : Context → ℕ → List LocalRun → Context
function_context C f runs = record C { locals = (type_at C.functions f).params ++ declared runs }
