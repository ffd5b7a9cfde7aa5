-- How a memory grows (4.4.4), at each of its three bounds.
use Rattle.std.specs.Prelude.{◌≡◌, ℕ, [], ◌∷◌, true, false, Option, Some, None, replicate}
use Rattle.wsyntax.specs.declared.value.Value.TheVariants.{I32 as V32}
use Rattle.wsyntax.specs.Instructions.{LocalGet, MemoryGrow, MemorySize, Drop, Stop, Plain}
use Rattle.wsyntax.specs.Execution.Store.{Module, Memory, Store, may_have}
use Rattle.wsyntax.specs.Execution.Ends.{Outcome, Values}
use Rattle.wsyntax.specs.Execution.Run.{call_ends}
use Rattle.soundness.specs.Samples.{one}

-- 0: grows by its argument. 1: grows by its argument, and gives the size afterwards
abbrev pub grower : Module
grower = record {
  types = one ∷ [];
  functions =
      record { func_type = one; locals = []; body = Plain (LocalGet 0) (Plain MemoryGrow Stop) } ∷
      record { func_type = one; locals = []; body = Plain (LocalGet 0) (Plain MemoryGrow (Plain Drop (Plain MemorySize Stop))) } ∷ [];
}

-- one page, with this declared maximum and this setting
abbrev pub one_page : Option ℕ → ℕ → Store
one_page most pages = record { memory = Some (record { bytes = replicate 65536 0; most = most; pages = pages }); table = None; globals = [] }

-- how a call of function f ends that grows by n
abbrev pub growing : ℕ → Option ℕ → ℕ → ℕ → Option (Outcome × ℕ)
growing f most pages n = call_ends grower (one_page most pages) f (V32 n ∷ []) 10 2 10

-- a memory with this declared maximum and this setting
abbrev pub bounded : Option ℕ → ℕ → Memory
bounded most pages = record { bytes = []; most = most; pages = pages }

-- growing gives the old size, or -1 and changes nothing
pub record GrowthExamples : Type 0 where
  pub by_none : growing 0 (Some 3) 8 0 ≡ Some (Values (V32 1 ∷ []), 9)
  -- a declared maximum of 3 pages
  pub to_the_maximum : growing 0 (Some 3) 8 2 ≡ Some (Values (V32 1 ∷ []), 9)
  pub past_the_maximum : growing 0 (Some 3) 8 3 ≡ Some (Values (V32 4294967295 ∷ []), 9)
  -- a setting of 2 pages
  pub to_the_setting : growing 0 None 2 1 ≡ Some (Values (V32 1 ∷ []), 9)
  pub past_the_setting : growing 0 None 2 2 ≡ Some (Values (V32 4294967295 ∷ []), 9)
  -- 65,536 pages
  pub to_the_most : may_have (bounded None 100000) 65536 ≡ true
  pub past_the_most : may_have (bounded None 100000) 65537 ≡ false
  pub far_past_the_most : growing 0 None 100000 65536 ≡ Some (Values (V32 4294967295 ∷ []), 9)
  -- the operand is read without sign
  pub by_all_ones : growing 0 None 100000 4294967295 ≡ Some (Values (V32 4294967295 ∷ []), 9)
  -- the size afterwards
  pub has_grown : growing 1 (Some 3) 8 2 ≡ Some (Values (V32 3 ∷ []), 9)
  pub has_not_grown : growing 1 (Some 3) 8 3 ≡ Some (Values (V32 1 ∷ []), 9)
