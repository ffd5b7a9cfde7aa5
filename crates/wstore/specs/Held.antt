-- 4.2.3 The store that slots without tags stand for.
-- The types are those of the module's globals. The store of each instance is typed, by the instance's type.
use Rattle.std.specs.Prelude.{◌≡◌, map}
use Rattle.wsyntax.specs.declared.types.GlobalType.{GlobalType}
use Rattle.wsyntax.specs.Validation.Context.{Context}
use Rattle.wsyntax.specs.Execution.Store.{Store}
use Rattle.wsyntax.specs.Execution.ConfigTyped.{StoreTyped}
use Rattle.soundness.specs.Slots.{SlotStore, slot_store, all_tagged}

-- the store that slots without tags stand for: its globals have the types of the context
abbrev pub store_of : Context → SlotStore → Store
store_of C s = record { memory = s.memory; table = s.table; globals = all_tagged (map (λ (g : GlobalType). g.val_type) C.globals) s.globals }

-- it is typed, and without tags it is what was given
pub record IsHeld (C : Context) (s : SlotStore) : Type 0 where
  pub typed : StoreTyped C (store_of C s)
  pub same : slot_store (store_of C s) ≡ s
