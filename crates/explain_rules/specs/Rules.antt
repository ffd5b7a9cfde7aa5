-- 3.2 and 3.4 What is told of an item that breaks a module rule is so, and no item before it breaks the rule.
use Rattle.std.specs.Prelude.{◌≡◌, ◌≢◌, ◌⊎◌, ℕ, ◌+◌, ◌<◌, ◌≤◌, Bool, true, false, List, [], ◌∷◌, length, map, take, count_by, Option, Some, None, IfSome, slice_get, option_and_then, option_map}
use Rattle.std.specs.List.{All, AllPairs}
use Rattle.wsyntax.specs.declared.types.ValType.{ValType}
use Rattle.wsyntax.specs.declared.types.ValType.TheVariants.{I32}
use Rattle.wsyntax.specs.declared.types.GlobalType.{GlobalType}
use Rattle.wsyntax.specs.Instructions.{Token, Do, End, Const, GlobalGet}
use Rattle.wsyntax.specs.Initials.{has_constant_form}
use Rattle.wsyntax.specs.Modules.{ModuleShape, ExportShape, ElementShape, DataShape, GlobalShape}
use Rattle.wsyntax.specs.Binary.Shell.{Shell}
use Rattle.wsyntax.specs.Validation.ModuleContext.{imported_functions, imported_tables, imported_memories, imported_globals, functions_of, tables_of, memories_of, empty_type}
use Rattle.wsyntax.specs.Validation.Rules.{InOrder, WithinRange, page_range, ConstantOf, count_of, HasType, ElementValid, DataValid}
use Rattle.wsyntax.specs.declared.module.ExportKind.{ExportKind}
use Rattle.wsyntax.specs.declared.module.ExportKind.TheVariants as exports
use Rattle.wsyntax.specs.declared.module.ImportKind.{ImportKind}
use Rattle.wsyntax.specs.declared.module.ImportKind.TheVariants as imports
use Rattle.wcontext.specs.Firsts.{IsFirst}
use Rattle.explain_bytes.specs.Shells.{IsItemAt}
use Rattle.explanation.specs.declared.broken_item.Initial.{Initial}
use Rattle.explanation.specs.declared.broken_item.Initial.TheVariants.{Constant, Get, Other}
use Rattle.explanation.specs.declared.broken_item.ItemFault.{ItemFault}
use Rattle.explanation.specs.declared.broken_item.ItemFault.TheVariants.{ImportedType, DefinedType, TableLimits, MemoryLimits, SecondTable, SecondMemory, GlobalValue, ExportedIndex, ExportedName, StartMissing, StartTyped, ElementTable, ElementOffset, ElementFunction, DataMemory, DataOffset}
use Rattle.explanation.specs.declared.broken_item.BrokenItem.{BrokenItem}

-- 3.3.7.2 what is told of an expression, under these imported globals
abbrev pub IsInitial : List GlobalType → List Token → Initial → Type 0
IsInitial globals tokens (Constant t) = (n : ℕ) × (tokens ≡ Do (Const t n) ∷ End ∷ [])
IsInitial globals tokens (Get x imported gets) = (tokens ≡ Do (GlobalGet x) ∷ End ∷ []) × (imported ≡ length globals) × (gets ≡ slice_get globals x)
IsInitial globals tokens Other = has_constant_form tokens ≡ false

-- rules 2 and 3: entry `entry` of a list of functions names the type `y`, and there are only `types` types
abbrev pub TellsType : ModuleShape → List ℕ → ℕ → ℕ → ℕ → Type 0
TellsType m functions entry y types = IsFirst (λ z. z < length m.types) functions entry y × (types ≡ length m.types)

-- rule 8: the first value of a global
abbrev pub TellsGlobal : List GlobalType → List GlobalShape → ℕ → ValType → Initial → Type 0
TellsGlobal globals gs position t initial =
    (g : GlobalShape) × IsFirst (λ h. ConstantOf globals h.global_type.val_type h.init) gs position g × (g.global_type.val_type ≡ t) × IsInitial globals g.init initial

-- rule 10: the export at that position has the name of an earlier one, and those before it have different names
pub record IsRepeated (es : List ExportShape) (position : ℕ) (name : List ℕ) (earlier : ℕ) : Type 0 where
  pub order : earlier < position
  pub there : option_map (λ e. e.item_name) (slice_get es position) ≡ Some name
  pub first : option_map (λ e. e.item_name) (slice_get es earlier) ≡ Some name
  pub before : AllPairs (λ a b. a.item_name ≢ b.item_name) (take position es)

-- rule 12: what is wrong with an element segment, of a module with these numbers of tables and functions and these imported globals
abbrev pub IsElementFault : ℕ → ℕ → List GlobalType → ElementShape → ItemFault → Type 0
IsElementFault tables functions globals e (ElementTable table count) = (table ≡ e.table) × (count ≡ tables) × (count ≤ table)
IsElementFault tables functions globals e (ElementOffset offset) = IsInitial globals e.offset offset × (ConstantOf globals I32 e.offset → ⊥)
IsElementFault tables functions globals e (ElementFunction entry f count) = IsFirst (λ g. g < functions) e.functions entry f × (count ≡ functions)
IsElementFault tables functions globals e _ = ⊥

-- rule 13: what is wrong with a data segment, of a module with this number of memories and these imported globals
abbrev pub IsDataFault : ℕ → List GlobalType → DataShape → ItemFault → Type 0
IsDataFault memories globals d (DataMemory memory count) = (memory ≡ d.memory) × (count ≡ memories) × (count ≤ memory)
IsDataFault memories globals d (DataOffset offset) = IsInitial globals d.offset offset × (ConstantOf globals I32 d.offset → ⊥)
IsDataFault memories globals d _ = ⊥

-- 3.4.5 the first element segment that is not valid, and what is wrong with it
abbrev pub TellsElement : ModuleShape → ℕ → ItemFault → Type 0
TellsElement m position fault =
    (e : ElementShape) × IsFirst (ElementValid m) m.elements position e × IsElementFault (length (tables_of m)) (length (functions_of m)) (imported_globals m) e fault

-- 3.4.6 the first data segment that is not valid, and what is wrong with it
abbrev pub TellsData : ModuleShape → ℕ → ItemFault → Type 0
TellsData m position fault =
    (d : DataShape) × IsFirst (DataValid m) m.segments position d × IsDataFault (length (memories_of m)) (imported_globals m) d fault

-- the item at that position of its section is the first that breaks the rule, for that
abbrev pub TellsFault : ModuleShape → ℕ → ItemFault → Type 0
TellsFault m position (ImportedType func y types) = TellsType m (imported_functions m) func y types
TellsFault m position (DefinedType func y types) =
    TellsType m m.functions position y types × (func ≡ length (imported_functions m) + position)
TellsFault m position (TableLimits table limits) = IsFirst (λ t. InOrder t.limits) (tables_of m) table (record { limits = limits })
TellsFault m position (MemoryLimits memory limits) = IsFirst (WithinRange page_range) (memories_of m) memory limits
TellsFault m position (SecondTable tables) = (tables ≡ length (tables_of m)) × (1 < tables)
TellsFault m position (SecondMemory memories) = (memories ≡ length (memories_of m)) × (1 < memories)
TellsFault m position (GlobalValue global t initial) = TellsGlobal (imported_globals m) m.globals position t initial × (global ≡ length (imported_globals m) + position)
TellsFault m position (ExportedIndex name kind index count) =
    IsFirst (λ e. e.index < count_of m e.kind) m.exports position (record { item_name = name.now; kind = kind; index = index }) × (count ≡ count_of m kind)
TellsFault m position (ExportedName name earlier) = IsRepeated m.exports position name.now earlier
TellsFault m position (StartMissing func functions) = (m.start ≡ Some func) × (functions ≡ length (functions_of m)) × (functions ≤ func)
TellsFault m position (StartTyped func s) =
    (m.start ≡ Some func) × HasType m (record { params = s.params.items; results = s.results.items }) func × (HasType m empty_type func → ⊥)
TellsFault m position (ElementTable table count) = TellsElement m position (ElementTable table count)
TellsFault m position (ElementOffset offset) = TellsElement m position (ElementOffset offset)
TellsFault m position (ElementFunction entry f count) = TellsElement m position (ElementFunction entry f count)
TellsFault m position (DataMemory memory count) = TellsData m position (DataMemory memory count)
TellsFault m position (DataOffset offset) = TellsData m position (DataOffset offset)

-- the rule that is broken so
abbrev pub rule_of : ItemFault → ℕ
rule_of (ImportedType func y types) = 2
rule_of (DefinedType func y types) = 3
rule_of (TableLimits table limits) = 4
rule_of (MemoryLimits memory limits) = 5
rule_of (SecondTable tables) = 6
rule_of (SecondMemory memories) = 7
rule_of (GlobalValue global t initial) = 8
rule_of (ExportedIndex name kind index count) = 9
rule_of (ExportedName name earlier) = 10
rule_of (StartMissing func functions) = 11
rule_of (StartTyped func s) = 11
rule_of (ElementTable table count) = 12
rule_of (ElementOffset offset) = 12
rule_of (ElementFunction entry f count) = 12
rule_of (DataMemory memory count) = 13
rule_of (DataOffset offset) = 13

-- ---- the place

-- 2.5.11 whether an import adds to the space of that kind
abbrev pub adds : ExportKind → ImportKind → Bool
adds exports.Function (imports.Function y) = true
adds exports.Table (imports.Table t) = true
adds exports.Memory (imports.Memory l) = true
adds exports.Global (imports.Global g) = true
adds _ _ = false

-- 2.5.11 the import at that position adds the item of that index: as many imports of the kind stand before it
abbrev pub IsImportOf : List ImportKind → ExportKind → ℕ → ℕ → Type 0
IsImportOf kinds kind index position = (option_map (adds kind) (slice_get kinds position) ≡ Some true) × (count_by (adds kind) (take position kinds) ≡ index)

abbrev pub kinds_of : ModuleShape → List ImportKind
kinds_of m = map (λ i. i.kind) m.imports

-- 2.5.1 the item of that index stands there: it is imported, or defined in the section `own` after `imported` imported ones
abbrev pub IsPlaceOf : ModuleShape → ExportKind → ℕ → ℕ → ℕ → ℕ → ℕ → Type 0
IsPlaceOf m kind own imported index section position =
    ((section ≡ 2) × IsImportOf (kinds_of m) kind index position) ⊎ ((section ≡ own) × (index ≡ imported + position))

-- 5.5.2 the section of that id has the item at that position
abbrev pub IsPlace : ModuleShape → ItemFault → ℕ → ℕ → Type 0
IsPlace m (ImportedType func y types) section position = (section ≡ 2) × IsImportOf (kinds_of m) exports.Function func position
IsPlace m (DefinedType func y types) section position = section ≡ 3
IsPlace m (TableLimits table limits) section position = IsPlaceOf m exports.Table 4 (length (imported_tables m)) table section position
IsPlace m (MemoryLimits memory limits) section position = IsPlaceOf m exports.Memory 5 (length (imported_memories m)) memory section position
IsPlace m (SecondTable tables) section position = IsPlaceOf m exports.Table 4 (length (imported_tables m)) 1 section position
IsPlace m (SecondMemory memories) section position = IsPlaceOf m exports.Memory 5 (length (imported_memories m)) 1 section position
IsPlace m (GlobalValue global t initial) section position = section ≡ 6
IsPlace m (ExportedIndex name kind index count) section position = section ≡ 7
IsPlace m (ExportedName name earlier) section position = section ≡ 7
IsPlace m (StartMissing func functions) section position = (section ≡ 8) × (position ≡ 0)
IsPlace m (StartTyped func s) section position = (section ≡ 8) × (position ≡ 0)
IsPlace m (ElementTable table count) section position = section ≡ 9
IsPlace m (ElementOffset offset) section position = section ≡ 9
IsPlace m (ElementFunction entry f count) section position = section ≡ 9
IsPlace m (DataMemory memory count) section position = section ≡ 11
IsPlace m (DataOffset offset) section position = section ≡ 11

-- in that module the item at that position of that section is the first that breaks that rule, for what is told
abbrev pub BreaksAt : ModuleShape → ℕ → ℕ → ℕ → ItemFault → Type 0
BreaksAt m rule section position fault = (rule_of fault ≡ rule) × TellsFault m position fault × IsPlace m fault section position

abbrev pub BreaksIn : ModuleShape → ℕ → BrokenItem → Type 0
BreaksIn m rule item = BreaksAt m rule item.section item.position item.fault

-- it is so in each module that the bytes spell, and the offset that is told is the item's
abbrev pub Breaks : List ℕ → ℕ → BrokenItem → Type 0
Breaks bytes rule item = ((m : ModuleShape) → Shell bytes m → BreaksIn m rule item) × IfSome item.at (IsItemAt bytes item.section item.position)
