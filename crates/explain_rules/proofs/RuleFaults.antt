-- What is told by the index spaces that were gathered is so of the module.
use Rattle.std.proofs.Common.{◌≡◌, List, length, Option, Some, None, refl, subst, ℕ}
use Rattle.std.specs.Prelude.{Result, Ok, Err, IfOk, IfSome}
use Rattle.std.specs.declared.alloc.AllocError.{AllocError}
use Rattle.wsyntax.specs.Modules.{ModuleShape, ElementShape, module_shape}
use Rattle.wsyntax.specs.Validation.ModuleContext.{functions_of, tables_of}
use Rattle.wsyntax.specs.Validation.Rules.{ElementValid, count_of}
use Rattle.wsyntax.specs.Binary.Shell.{Shell}
use Rattle.wsyntax.specs.declared.module.Module.{Module}
use Rattle.wsyntax.specs.declared.module.ExportKind.{ExportKind}
use Rattle.wsyntax.specs.declared.module.ExportKind.TheVariants.{Function, Table, Memory, Global}
use Rattle.wcontext.specs.declared.space_sizes.SpaceSizes.{SpaceSizes}
use Rattle.explain_bytes.specs.Shells.{IsItemAt}
use Rattle.explanation.specs.declared.broken_item.ItemFault.{ItemFault}
use Rattle.explanation.specs.declared.broken_item.ItemFault.TheVariants.{ElementTable, ElementOffset, ElementFunction}
use Rattle.explanation.specs.declared.broken_item.BrokenItem.{BrokenItem}
use Rattle.explain_rules.specs.Rules.{Breaks, BreaksAt, BreaksIn, IsElementFault, TellsElement}
use Rattle.wcontext.specs.Counted.{AreCountsOf, counted}
use Rattle.wcontext.specs.Firsts.{IsFirst}

-- rule 9
pub count_is : {m : ModuleShape} {c : SpaceSizes} (are : AreCountsOf m c) (k : ExportKind) → counted c k ≡ count_of m k
count_is are Function = are.functions
count_is are Table = are.tables
count_is are Memory = are.memories
count_is are Global = are.globals

-- rule 12
told_element : (m : ModuleShape) (position : ℕ) (fault : ItemFault) → TellsElement m position fault → BreaksAt m 12 9 position fault
told_element m position (ElementTable table count) told = (refl, told, refl)
told_element m position (ElementOffset offset) told = (refl, told, refl)
told_element m position (ElementFunction entry f count) told = (refl, told, refl)
told_element m position _ told = absurd told.2

pub breaks_element : {m : ModuleShape} {c : SpaceSizes} (are : AreCountsOf m c) (e : ElementShape) (position : ℕ) (fault : ItemFault)
    → IsFirst (ElementValid m) m.elements position e → IsElementFault c.tables c.functions c.constant_globals.items e fault → BreaksAt m 12 9 position fault
breaks_element {m} {c} are e position fault first told = told_element m position fault (
  e,
  first,
  subst (λ gs. IsElementFault (length (tables_of m)) (length (functions_of m)) gs e fault) are.constants
      (subst (λ n. IsElementFault (length (tables_of m)) n c.constant_globals.items e fault) are.functions
      (subst (λ n. IsElementFault n c.functions c.constant_globals.items e fault) are.tables told)),
)

-- what is so of the module that was decoded is so of each that the bytes spell
pub breaks_each : (bytes : List ℕ) (m : Module) (rule : ℕ) (r : Result (Option BrokenItem) AllocError) → ((other : ModuleShape) → Shell bytes other → module_shape m ≡ other)
    → IfOk r (λ o. IfSome o (λ item. BreaksIn (module_shape m) rule item × IfSome item.at (IsItemAt bytes item.section item.position))) → IfOk r (λ o. IfSome o (Breaks bytes rule))
breaks_each bytes m rule (Ok (Some item)) only told = (λ other shell. subst (λ (n : ModuleShape). BreaksIn n rule item) (only other shell) told.0, told.1)
breaks_each bytes m rule (Ok None) only told = tt
breaks_each bytes m rule (Err e) only told = tt
