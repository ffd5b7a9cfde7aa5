-- What an instruction without a body that keeps the labels does to a whole configuration, beside its effect on slots.
use Rattle.std.specs.Prelude.{◌≡◌, ℕ, ◌≤◌, List, [], ◌∷◌, ◌++◌, Some, slice_get, slice_set}
use Rattle.wsyntax.specs.Instructions.{Op, LocalTee, Code, Stop, Plain}
use Rattle.wsyntax.specs.Validation.Context.{Stack, Context}
use Rattle.wsyntax.specs.Validation.Typing.{OpTyped}
use Rattle.wsyntax.specs.declared.value.Value.{Value}
use Rattle.wsyntax.specs.declared.value.Trap.{Trap as TrapKind}
use Rattle.wsyntax.specs.Execution.Store.{Module, Store}
use Rattle.wsyntax.specs.Execution.Step.{Trap, Kind, Working, Quiet}
use Rattle.wsyntax.specs.Execution.Chain.{Within, worked}
use Rattle.wsyntax.specs.Execution.ConfigTyped.{ValuesTyped, ModuleTyped, StoreTyped, IntegerOp}
use Rattle.soundness.specs.State.{Activation, config_at, config_of, operands_of}
use Rattle.soundness.specs.Slots.{SlotStore, slots, slot_store, Effect, Puts, Fails, Off, effect, IsStraight}

-- the straight instructions, and local.tee
abbrev pub KeepsLabels : Op → Type 0
KeepsLabels (LocalTee x) = Unit {0}
KeepsLabels i = IsStraight i

-- local.tee, and the local.set that it becomes, are two steps, the second of which is work, and neither is charged
abbrev pub TeeTakesTwo : Type 0
TeeTakesTwo = (m : Module) (frames fuel : ℕ) (s : Store) (a : Activation) (bs : List Activation) (x : ℕ) (v was : Value) (vs : List Value) (rest : Code) → a.code ≡ Plain (LocalTee x) rest → a.held ≡ v ∷ vs → slice_get a.locals x ≡ Some was → Within m frames fuel (config_of (record { store = s; running = a; waiting = bs })) (Quiet ∷ Working ∷ []) (config_of (record { store = s; running = record a { locals = slice_set a.locals x v; held = v ∷ vs; code = rest }; waiting = bs })) fuel

-- uncharged steps lead from an activation to itself before the rest, with the store, locals and slots of the effect, of its types
pub record LeadsOn (C : Context) (m : Module) (frames fuel : ℕ) (s : Store) (a : Activation) (bs : List Activation) (rest : Code) (z : Stack) (S : SlotStore) (L ns : List ℕ) : Type 0 where
  pub store : Store
  pub locals : List Value
  pub held : List Value
  pub kinds : List Kind
  pub same_store : S ≡ slot_store store
  pub same_locals : L ≡ slots locals
  pub same_slots : ns ≡ slots (operands_of (record a { held = held }))
  pub chain : Within m frames fuel (config_of (record { store = s; running = a; waiting = bs })) kinds (config_of (record { store = store; running = record a { locals = locals; held = held; code = rest }; waiting = bs })) fuel
  pub few : worked kinds ≤ 1
  pub store_typed : StoreTyped C store
  pub locals_typed : ValuesTyped locals C.locals
  pub held_typed : ValuesTyped held z

-- or to a trap alone, over the same store
pub record LeadsOut (m : Module) (frames fuel : ℕ) (s : Store) (a : Activation) (bs : List Activation) (trap : TrapKind) : Type 0 where
  pub kinds : List Kind
  pub chain : Within m frames fuel (config_of (record { store = s; running = a; waiting = bs })) kinds (config_at s (Trap [] trap Stop)) fuel
  pub few : worked kinds ≤ 1

-- where the effect leads
abbrev pub Leads : Context → Module → ℕ → ℕ → Store → Activation → List Activation → Code → Stack → Effect → Type 0
Leads C m frames fuel s a bs rest z (Puts S L ns) = LeadsOn C m frames fuel s a bs rest z S L ns
Leads C m frames fuel s a bs rest z (Fails trap) = LeadsOut m frames fuel s a bs trap
Leads C m frames fuel s a bs rest z Off = ⊥

-- the configuration goes where the effect of its instruction says
abbrev pub EffectLeads : Type 0
EffectLeads = (C : Context) (m : Module) (frames fuel : ℕ) (s : Store) (a : Activation) (bs : List Activation) (i : Op) (rest : Code) (p q c : Stack) → ModuleTyped C m → StoreTyped C s → ValuesTyped a.locals C.locals → a.code ≡ Plain i rest → KeepsLabels i → IntegerOp i → OpTyped C i p q → ValuesTyped a.held (p ++ c) → Leads C m frames fuel s a bs rest (q ++ c) (effect i (slot_store s) (slots a.locals) (slots (operands_of a)))
