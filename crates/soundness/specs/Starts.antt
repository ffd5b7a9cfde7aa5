-- What refuses an instance (`start_refusal`), and the store of a fresh one (`fresh_store`).
use Rattle.std.specs.Prelude.{◌≡◌, ℕ, List, [], ◌∷◌, false, Option, Some, None, option_map, take}
use Rattle.wsyntax.specs.declared.types.ValType.TheVariants.{I32, I64, F32}
use Rattle.wsyntax.specs.declared.module.ImportKind.TheVariants.{Function}
use Rattle.wsyntax.specs.declared.value.Value.TheVariants.{I32 as V32, I64 as V64}
use Rattle.wsyntax.specs.Instructions.{Const, Token, Do, End}
use Rattle.wsyntax.specs.Modules.{ModuleShape, ElementShape, DataShape}
use Rattle.wsyntax.specs.Binary.Shell.{empty_module}
use Rattle.wsyntax.specs.Execution.Store.{Store, Unset, SetTo}
use Rattle.wsyntax.specs.Execution.Start.{StartRefusal, HasImports, HasFloats, TableLimit, MemoryLimit, ElementOutside, DataOutside, start_refusal, fresh_store}

-- Parts of modules.

-- the expression of the offset n
abbrev pub at : ℕ → List Token
at n = Do (Const I32 n) ∷ End ∷ []

-- these functions from this offset on
abbrev pub entries : ℕ → List ℕ → ElementShape
entries offset functions = record { table = 0; offset = at offset; functions = functions }

-- these bytes from this offset on
abbrev pub bytes : ℕ → List ℕ → DataShape
bytes offset items = record { memory = 0; offset = at offset; bytes = items }

-- a module with a table of `size` entries, a memory of `pages` pages, and segments
abbrev pub sized : ℕ → ℕ → List ElementShape → List DataShape → ModuleShape
sized size pages elements segments = record empty_module {
  types = (record { params = []; results = [] }) ∷ [];
  tables = (record { limits = record { min = size; max = None } }) ∷ [];
  memories = (record { min = pages; max = None }) ∷ [];
  elements = elements;
  segments = segments;
}

-- the same with an import
abbrev pub importing : ModuleShape → ModuleShape
importing m = record m { imports = (record { module_name = []; item_name = []; kind = Function 0 }) ∷ [] }

-- the same with a float in a type
abbrev pub floating : ModuleShape → ModuleShape
floating m = record m { types = (record { params = F32 ∷ []; results = [] }) ∷ [] }

-- what refuses it, where the setting is 2 pages
abbrev pub refusal : ModuleShape → Option StartRefusal
refusal m = start_refusal 2 m []

-- Refusals.

-- of two, the first in the order of asking; of segments, the least
pub record RefusalExamples : Type 0 where
  -- segments that fit
  pub no_refusal : refusal (sized 2 1 (entries 0 (0 ∷ 0 ∷ []) ∷ []) (bytes 0 (7 ∷ []) ∷ [])) ≡ None
  -- a module without table, memory and segments
  pub nothing_there : refusal empty_module ≡ None
  -- imports and floats
  pub imports_first : refusal (importing (floating (sized 2 1 [] []))) ≡ Some HasImports
  -- floats, and a table that is too large
  pub floats_next : refusal (floating (sized 65537 1 [] [])) ≡ Some HasFloats
  -- a table and a memory that are too large
  pub then_table : refusal (sized 65537 3 [] []) ≡ Some TableLimit
  -- a memory that is too large, and an element segment outside
  pub then_memory : refusal (sized 2 3 (entries 3 [] ∷ []) []) ≡ Some MemoryLimit
  -- an element segment and a data segment outside
  pub then_elements : refusal (sized 2 1 (entries 3 [] ∷ []) (bytes 65537 [] ∷ [])) ≡ Some (ElementOutside 0)
  -- the first segment ends with the table, the two after it are outside
  pub least_element : refusal (sized 2 1 (entries 1 (0 ∷ []) ∷ entries 2 (0 ∷ []) ∷ entries 3 [] ∷ []) []) ≡ Some (ElementOutside 1)
  -- the first segment ends with the memory, the two after it are outside
  pub least_data : refusal (sized 2 1 [] (bytes 65535 (1 ∷ []) ∷ bytes 65535 (1 ∷ 2 ∷ []) ∷ bytes 65536 (1 ∷ []) ∷ [])) ≡ Some (DataOutside 1)
  -- a table of 65,536 entries
  pub most_entries : refusal (sized 65536 1 [] []) ≡ None
  -- one entry more
  pub one_entry_more : refusal (sized 65537 1 [] []) ≡ Some TableLimit
  -- a memory of the setting's pages
  pub most_pages : refusal (sized 2 2 [] []) ≡ None
  -- one page more
  pub one_page_more : refusal (sized 2 3 [] []) ≡ Some MemoryLimit
  -- empty segments at the end
  pub empty_at_end : refusal (sized 2 1 (entries 2 [] ∷ []) (bytes 65536 [] ∷ [])) ≡ None
  -- an empty element segment past the end
  pub empty_elements_past_end : refusal (sized 2 1 (entries 3 [] ∷ []) []) ≡ Some (ElementOutside 0)
  -- an empty data segment past the end
  pub empty_data_past_end : refusal (sized 2 1 [] (bytes 65537 [] ∷ [])) ≡ Some (DataOutside 0)
  -- the offset is read without sign, and nothing wraps
  pub far_data : refusal (sized 2 1 [] (bytes 4294967295 (1 ∷ []) ∷ [])) ≡ Some (DataOutside 0)

-- Fresh stores.

-- the memory's first five bytes
abbrev pub first_bytes : Store → Option (List ℕ)
first_bytes s = option_map (λ m. take 5 m.bytes) s.memory

-- globals with the first values -1 and 3
abbrev pub starting : ModuleShape
starting = record empty_module {
  globals =
      record { global_type = record { val_type = I64; mutable = false }; init = Do (Const I64 18446744073709551615) ∷ End ∷ [] } ∷
      record { global_type = record { val_type = I32; mutable = false }; init = Do (Const I32 3) ∷ End ∷ [] } ∷ [];
}

-- segments are written in order, so the later of two that overlap is what is left
pub record FreshExamples : Type 0 where
  -- two bytes of the first segment are written over
  pub later_data : first_bytes (fresh_store 1 (sized 4 1 [] (bytes 0 (1 ∷ 2 ∷ 3 ∷ []) ∷ bytes 1 (8 ∷ 9 ∷ 7 ∷ []) ∷ []))) ≡ Some (1 ∷ 8 ∷ 9 ∷ 7 ∷ 0 ∷ [])
  -- the same segments, the other way round
  pub lower_data : first_bytes (fresh_store 1 (sized 4 1 [] (bytes 1 (8 ∷ 9 ∷ 7 ∷ []) ∷ bytes 0 (1 ∷ 2 ∷ 3 ∷ []) ∷ []))) ≡ Some (1 ∷ 2 ∷ 3 ∷ 7 ∷ 0 ∷ [])
  -- an entry of the first segment is written over, and the last entry stays unset
  pub later_elements : (fresh_store 1 (sized 4 0 (entries 0 (5 ∷ 6 ∷ []) ∷ entries 1 (7 ∷ 8 ∷ []) ∷ []) [])).table ≡ Some (SetTo 5 ∷ SetTo 7 ∷ SetTo 8 ∷ Unset ∷ [])
  -- the first values of globals, as words of their types
  pub first_values : (fresh_store 1 starting).globals ≡ V64 18446744073709551615 ∷ V32 3 ∷ []
  -- no memory where none is declared
  pub no_memory : (fresh_store 1 empty_module).memory ≡ None
  -- no table where none is declared
  pub no_table : (fresh_store 1 empty_module).table ≡ None
