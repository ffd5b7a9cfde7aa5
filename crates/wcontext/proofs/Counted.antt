-- The numbers of items in the index spaces.
use Rattle.std.proofs.Common.{◌≡◌, ◌<◌, ◌↔◌, Bool, IsTrue, take, map, subst, sym}
use Rattle.std.specs.List.{All}
use Rattle.std.proofs.Math.Seq.{take-append_seam}
use Rattle.wsyntax.specs.Modules.{ModuleShape, DataShape, ElementShape, ExportShape}
use Rattle.wsyntax.specs.Validation.ModuleContext.{imported_globals}
use Rattle.wsyntax.specs.Validation.Rules.{ConstantOf, DataValid, ElementValid, count_of}
use Rattle.wsyntax.specs.declared.ValType.TheVariants.{I32}
use Rattle.wsyntax.specs.declared.ExportKind.{ExportKind}
use Rattle.wsyntax.specs.declared.ExportKind.TheVariants.{Function, Table, Memory, Global}
use Rattle.wcontext.specs.declared.space_sizes.SpaceSizes.{SpaceSizes}
use Rattle.wcontext.specs.declared.spaces.Spaces.{Spaces}
use Rattle.wcontext.specs.Counted.{AreCountsOf, IsElementValid, IsSegmentValid, counted}
use Rattle.wcontext.specs.Spaces.{AreSpacesOf}

pub count_is : {m : ModuleShape} {c : SpaceSizes} (are : AreCountsOf m c) (k : ExportKind) → counted c k ≡ count_of m k
count_is are Function = are.functions
count_is are Table = are.tables
count_is are Memory = are.memories
count_is are Global = are.globals

-- the imported globals stand first
pub imported_is : {m : ModuleShape} {s : Spaces} (are : AreSpacesOf m s) → take s.imported_globals s.globals.items ≡ imported_globals m
imported_is {m} {s} are =
    rw (are.imported_globals, are.globals) (take-append_seam (imported_globals m) (map (λ g. g.global_type) m.globals))

-- a test by the counts of a module whether what is exported exists is one whether it does in the module
pub export_tested : {m : ModuleShape} {c : SpaceSizes} (are : AreCountsOf m c) (e : ExportShape) (b : Bool) → (IsTrue b ↔ (e.index < counted c e.kind)) → (IsTrue b ↔ (e.index < count_of m e.kind))
export_tested are e b test = subst (λ n. IsTrue b ↔ (e.index < n)) (count_is are e.kind) test

-- and one whether a segment is valid is one whether it is so in the module
pub element_tested : {m : ModuleShape} {c : SpaceSizes} (are : AreCountsOf m c) (s : ElementShape) (b : Bool) → (IsTrue b ↔ IsElementValid c s) → (IsTrue b ↔ ElementValid m s)
element_tested {m} {c} are s b test = (
  λ t. let is = test.0 t in record {
    in_table = subst (λ n. s.table < n) are.tables is.0;
    constant = subst (λ gs. ConstantOf gs I32 s.offset) are.constants is.1;
    functions = subst (λ n. All (λ f. f < n) s.functions) are.functions is.2;
  },
  λ is. test.1 (
    subst (λ n. s.table < n) (sym are.tables) is.in_table,
    subst (λ gs. ConstantOf gs I32 s.offset) (sym are.constants) is.constant,
    subst (λ n. All (λ f. f < n) s.functions) (sym are.functions) is.functions,
  ),
)

pub segment_tested : {m : ModuleShape} {c : SpaceSizes} (are : AreCountsOf m c) (s : DataShape) (b : Bool) → (IsTrue b ↔ IsSegmentValid c s) → (IsTrue b ↔ DataValid m s)
segment_tested {m} {c} are s b test = (
  λ t. let is = test.0 t in record {
    in_memory = subst (λ n. s.memory < n) are.memories is.0;
    constant = subst (λ gs. ConstantOf gs I32 s.offset) are.constants is.1;
  },
  λ is. test.1 (
    subst (λ n. s.memory < n) (sym are.memories) is.in_memory,
    subst (λ gs. ConstantOf gs I32 s.offset) (sym are.constants) is.constant,
  ),
)
