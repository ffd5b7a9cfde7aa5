-- What an instruction that keeps the labels leaves does not depend on the code that follows, and has the instruction's types.
use Rattle.std.proofs.Common.{◌≡◌, ℕ, ◌+◌, ◌++◌, List, [], ◌∷◌, Option, Some, None, Ok, Err, refl, ap, ◌∙◌, subst}
use Rattle.std.specs.Prelude.{slice_get}
use Rattle.wsyntax.specs.declared.types.ValType.{ValType}
use Rattle.wsyntax.specs.declared.types.ValType.TheVariants.{I32}
use Rattle.wsyntax.specs.Instructions.{Op, Unreachable, Nop, Return, Br, BrIf, Call, CallIndirect, BrTable, Drop, Select, LocalGet, LocalSet, LocalTee, GlobalGet, GlobalSet, MemoryLoad, MemoryStore, MemorySize, MemoryGrow, Const, Numeric, Code, Stop}
use Rattle.wsyntax.specs.declared.value.Value.{Value}
use Rattle.wsyntax.specs.declared.value.Trap.{Trap as TrapKind}
use Rattle.wsyntax.specs.declared.value.Trap.TheVariants.{OutOfBounds}
use Rattle.wsyntax.specs.Execution.Values.{value_in}
use Rattle.wsyntax.specs.Execution.Numerics.{Computed, apply}
use Rattle.wsyntax.specs.Execution.Store.{Module, Memory, Store, read, write, loaded, grown}
use Rattle.wsyntax.specs.Execution.Step.{Source, Trap, Next, Steps, on_some, on_top, on_number, or_trap, computed, after_grow, act}
use Rattle.soundness.specs.Slots.{IsStraight, StraightTyped}
use Rattle.soundness.proofs.Chapter4.Stacks.{values_at}
use Rattle.soundness.proofs.Chapter4.Codes.{empty}
use Rattle.soundness.proofs.Chapter4.Ops.{NextTyped, act_ok}

-- the same with other code to follow
abbrev before : Code → Next → Next
before r (Steps k s l (Source vs c)) = Steps k s l (Source vs r)
before r (Steps k s l (Trap vs t c)) = Steps k s l (Trap vs t r)
before r o = o

some_before : {A : Type 0} (r : Code) (o : Option A) (go go' : A → Next) → ((x : A) → go' x ≡ before r (go x)) → on_some o go' ≡ before r (on_some o go)
some_before r None go go' h = refl
some_before r (Some x) go go' h = h x

top_before : (r : Code) (vs : List Value) (go go' : Value → List Value → Next) → ((v : Value) (below : List Value) → go' v below ≡ before r (go v below)) → on_top vs go' ≡ before r (on_top vs go)
top_before r [] go go' h = refl
top_before r (v ∷ vs) go go' h = h v vs

number_before : (r : Code) (t : ValType) (vs : List Value) (go go' : ℕ → List Value → Next) → ((n : ℕ) (below : List Value) → go' n below ≡ before r (go n below)) → on_number t vs go' ≡ before r (on_number t vs go)
number_before r t vs go go' h = top_before r vs _ _ (λ v below. some_before r _ _ _ (λ n. h n below))

trap_before : {A : Type 0} (r rest : Code) (o : Option A) (trap : TrapKind) (s : Store) (l vs : List Value) (go go' : A → Next) → ((x : A) → go' x ≡ before r (go x)) → or_trap o trap s l vs r go' ≡ before r (or_trap o trap s l vs rest go)
trap_before r rest None trap s l vs go go' h = refl
trap_before r rest (Some x) trap s l vs go go' h = h x

computed_before : (r rest : Code) (s : Store) (l vs : List Value) (x : Computed) → computed s l vs r x ≡ before r (computed s l vs rest x)
computed_before r rest s l vs (Ok v) = refl
computed_before r rest s l vs (Err t) = refl

grow_before : (r rest : Code) (s : Store) (l vs : List Value) (mem : Memory) (o : Option Memory) → after_grow s l mem vs r o ≡ before r (after_grow s l mem vs rest o)
grow_before r rest s l vs mem None = refl
grow_before r rest s l vs mem (Some x) = refl

act_before : (m : Module) (s : Store) (l vs : List Value) (i : Op) (r rest : Code) → IsStraight i → act m s l i vs r ≡ before r (act m s l i vs rest)
unfolding act
act_before m s l vs Unreachable r rest h = refl
act_before m s l vs Nop r rest h = refl
act_before m s l vs Return r rest h = absurd h
act_before m s l vs (Br x) r rest h = absurd h
act_before m s l vs (BrIf x) r rest h = absurd h
act_before m s l vs (BrTable xs x) r rest h = absurd h
act_before m s l vs (Call f) r rest h = absurd h
act_before m s l vs (CallIndirect y) r rest h = absurd h
act_before m s l vs (LocalTee x) r rest h = absurd h
act_before m s l vs Drop r rest h = top_before r vs _ _ (λ v below. refl)
act_before m s l vs Select r rest h = number_before r I32 vs _ _ (λ c vs. top_before r vs _ _ (λ u vs. top_before r vs _ _ (λ w vs. refl)))
act_before m s l vs (LocalGet x) r rest h = some_before r (slice_get l x) _ _ (λ v. refl)
act_before m s l vs (LocalSet x) r rest h = top_before r vs _ _ (λ v vs. some_before r (slice_get l x) _ _ (λ w. refl))
act_before m s l vs (GlobalGet x) r rest h = some_before r (slice_get s.globals x) _ _ (λ v. refl)
act_before m s l vs (GlobalSet x) r rest h = top_before r vs _ _ (λ v vs. some_before r (slice_get s.globals x) _ _ (λ w. refl))
act_before m s l vs (MemoryLoad a) r rest h =
    number_before r I32 vs _ _ (λ i vs. some_before r s.memory _ _ (λ mem.
    trap_before r rest (read mem.bytes (i + a.offset) a.width) OutOfBounds s l vs _ _ (λ n. some_before r (loaded a n) _ _ (λ v. refl))))
act_before m s l vs (MemoryStore a) r rest h =
    number_before r a.of_type vs _ _ (λ n vs. number_before r I32 vs _ _ (λ i vs. some_before r s.memory _ _ (λ mem.
    trap_before r rest (write mem.bytes (i + a.offset) a.width n) OutOfBounds s l vs _ _ (λ bytes. refl))))
act_before m s l vs MemorySize r rest h = some_before r s.memory _ _ (λ mem. refl)
act_before m s l vs MemoryGrow r rest h = number_before r I32 vs _ _ (λ n vs. some_before r s.memory _ _ (λ mem. grow_before r rest s l vs mem (grown mem n)))
act_before m s l vs (Const t n) r rest h = some_before r (value_in t n) _ _ (λ v. refl)
act_before m s l vs (Numeric op) r rest h =
    some_before r _ _ _ (λ (x : List Value × List Value). some_before r (apply op x.0) _ _ (λ y. computed_before r rest s l x.1 y))

pub straight_typed : StraightTyped
straight_typed C m s s' l l' vs held i rest code p q c kind mt st lt str nf h e is =
    let now : act m s l i vs Stop ≡ Steps kind s' l' (Source held Stop) = act_before m s l vs i Stop rest str ∙ ap (before Stop) is in
    let t = subst (NextTyped C (Source [] Stop) (q ++ c)) now (act_ok {b = q ++ c} (Source [] Stop) mt i p q c l vs st lt nf h e empty) in
    let w = t.work in
    (t.store, t.locals, values_at w.1 (w.2).typed)
