-- Where the sites fit, the machine has what its token needs.
use Rattle.std.proofs.Common.{◌≡◌, ℕ, ◌+◌, ◌≤◌, List, [], ◌∷◌, ◌++◌, length, min, Option, Some, None, refl, sym, ap, ◌∙◌, subst, arith, length-append}
use Rattle.std.specs.Prelude.{slice_get, IsTrue, IsSome}
use Rattle.std.proofs.lemmas.List.{length-map, length-reverse}
use Rattle.std.proofs.lemmas.Option.{slice_get_within}
use Rattle.wsyntax.specs.declared.types.ValType.{ValType}
use Rattle.wsyntax.specs.declared.types.GlobalType.{GlobalType}
use Rattle.wsyntax.specs.declared.value.Value.{Value}
use Rattle.wsyntax.specs.declared.value.Value.TheVariants.{I32 as V32, I64 as V64}
use Rattle.wsyntax.specs.Instructions.{Op, Unreachable, Nop, Return, Br, BrIf, Call, CallIndirect, BrTable, Drop, Select, LocalGet, LocalSet, LocalTee, GlobalGet, GlobalSet, MemoryLoad, MemoryStore, MemorySize, MemoryGrow, Const, Numeric, Code, Plain}
use Rattle.wsyntax.specs.Validation.Context.{Stack, enter}
use Rattle.wsyntax.specs.Validation.Typing.{operands}
use Rattle.wsyntax.specs.Execution.Values.{type_of, types}
use Rattle.wsyntax.specs.Execution.Store.{SetTo}
use Rattle.wsyntax.specs.Execution.Layers.{LabelLayer}
use Rattle.wsyntax.specs.Execution.ConfigTyped.{MemoryTyped, TableTyped, ConfigTyped, global_types}
use Rattle.checked_body.specs.declared.branch.Branch.{Branch}
use Rattle.checked_body.specs.SideTable.{Lab, Sequence, Begins, Entering, Bounded, chosen_label}
use Rattle.soundness.specs.State.{belows, config_of}
use Rattle.soundness.specs.Slots.{bits, slots}
use Rattle.refinement.specs.Machine.{Machine}
use Rattle.refinement.specs.Joint.{state_of, machine_of}
use Rattle.refinement.specs.Invariant.{context_of}
use Rattle.refinement.specs.Ready.{IsBitsOf, TopIs, CanMove, ReadyToDo}
use Rattle.refinement.proofs.Kept.Stacks.{begins_length, types_length}
use Rattle.refinement.proofs.Kept.Rules.{GoesOnward}
use Rattle.refinement.proofs.Kept.Levels.{target_of}
use Rattle.refinement.proofs.Kept.Matched.{World, Spot, at_, Fit, Levels, Stands, results_at, locals_at}
use Rattle.refinement.proofs.Kept.Onward.{running, parts}
use Rattle.refinement.proofs.Kept.Branching.{no_number, not_long, below_number, br_begins, br_if_needs}
use Rattle.refinement.proofs.Kept.Tables.{Chooses, chooses, case_begins}
use Rattle.refinement.proofs.Kept.Calling.{many, calls, return_begins, callee}
use Rattle.refinement.proofs.Kept.Indirect.{table_there, CallsThrough, calls_through}

some_is : {A : Type 0} (o : Option A) (x : A) → o ≡ Some x → IsSome o
some_is None x e = absurd (cc e)
some_is (Some y) x e = refl

-- the topmost operand of this type is a number of it
top_is : (t : ValType) (v : Value) (ns : List ℕ) → type_of v ≡ t → IsBitsOf (type_of v) (bits v) → TopIs t (bits v ∷ ns)
top_is t v ns e h = subst (λ t. IsBitsOf t (bits v)) e h

module _ (w : World) (sp : Spot) (s : Stands w sp) (levels : List LabelLayer) (here : Sequence) (lf : Levels w sp levels here) where
  abbrev At : List Value → Code → Machine
  At held code = machine_of (at_ sp levels held code)

  pub ops_length : (held : List Value) (code : Code) → length (At held code).operands ≡ length held + length (belows levels)
  ops_length held code = length-map (held ++ belows levels) bits ∙ length-append held (belows levels)

  pub bounded : Bounded (sp.body).filled
  bounded = ((w.holds).each s.index sp.body s.known).bounded

  pub locals_length : length (slots sp.locals) ≡ length (locals_at sp)
  locals_length = length-map sp.locals bits ∙ types_length sp.locals (locals_at sp) s.locals

  -- a branch finds its operands among that many
  lands_among : (held : List Value) (l n : ℕ) (lab : Lab) (to : Branch) → slice_get here.labels l ≡ Some lab → Entering lab to → Begins lab.kept (types held) → n ≡ length held + length (belows levels) → to.height + to.arity ≤ n
  lands_among held l n lab to at_label ent b e =
      let t = target_of (context_of w.C sp.body) (sp.body).filled (results_at sp) levels l lab here lf at_label in
      let all = ap length t.split ∙ length-append t.above _ in
      omega (arith, e, all, ent.1, ent.2, t.height, begins_length lab.kept held b)

  -- the entry leads to a token or after the last
  pub moves : (held : List Value) (code : Code) (e : Branch) → slice_get ((sp.body).filled).table sp.pc ≡ Some e → CanMove (At held code)
  moves held code e at_entry = (e, at_entry, (bounded.leads sp.pc e at_entry).0)

  -- what an instruction takes is there
  taken_length : (i : Op) (held : List Value) (rest : Code) (g : GoesOnward i) (f : Fit w sp (Plain i rest) here sp.pc (types held)) → length (parts w sp s levels here lf i held rest g f).takes ≤ length held
  taken_length i held rest g f =
      let q = parts w sp s levels here lf i held rest g f in
      omega (arith, types_length held (q.takes ++ q.below) q.split, length-append q.takes q.below)

  module _ (r : Stack) where
    abbrev Typed_at : List Value → Code → Type 0
    Typed_at held code = ConfigTyped w.C (config_of (state_of (at_ sp levels held code))) r

    globals_length : (held : List Value) (code : Code) → Typed_at held code → length (slots (sp.store).globals) ≡ length (w.C).globals
    globals_length held code t =
        length-map (sp.store).globals bits ∙ types_length (sp.store).globals (global_types (w.C).globals) (((t.store).globals).typed) ∙ length-map (w.C).globals (λ (g : GlobalType). g.val_type)

    memory_is : (held : List Value) (code : Code) → Typed_at held code → IsTrue (w.C).has_memory → IsSome (sp.store).memory
    memory_is held code t has =
        let k = table_there (w.C).has_memory MemoryTyped (sp.store).memory has (t.store).memory in
        some_is (sp.store).memory k.0 k.1

    -- an instruction that takes n operands at least
    enough : (i : Op) (n : ℕ) (held : List Value) (rest : Code) (g : GoesOnward i) (f : Fit w sp (Plain i rest) here sp.pc (types held)) → n ≡ length (parts w sp s levels here lf i held rest g f).takes → n ≤ length (At held (Plain i rest)).operands
    enough i n held rest g f e =
        omega (arith, e, taken_length i held rest g f, ops_length held (Plain i rest))

    ready_branch : (l : ℕ) (held : List Value) (rest : Code) → Fit w sp (Plain (BrIf l) rest) here sp.pc (types held) → ReadyToDo w.C w.p (At held (Plain (BrIf l) rest)) (BrIf l)
    ready_branch l [] rest f =
        absurd (no_number ((f.3).0).kept (br_if_needs w sp s levels here lf l [] rest f).0)
    ready_branch l (V64 n ∷ held) rest f =
        absurd (not_long n ((f.3).0).kept held (br_if_needs w sp s levels here lf l (V64 n ∷ held) rest f).0)
    ready_branch l (V32 n ∷ held) rest f =
        let b = below_number ((f.3).0).kept (types held) (br_if_needs w sp s levels here lf l (V32 n ∷ held) rest f).0 in
        let to = (f.3).1 in
        (length held + length (belows levels), ops_length (V32 n ∷ held) (Plain (BrIf l) rest) ∙ omega arith, (to, (f.3).3, (lands_among held l (length held + length (belows levels)) (f.3).0 to (f.3).2 (f.3).4 b refl, (bounded.leads sp.pc to (f.3).3).0)))

    ready_case : (ls : List ℕ) (d : ℕ) (held : List Value) (rest : Code) → Fit w sp (Plain (BrTable ls d) rest) here sp.pc (types held) → Chooses w sp s levels here lf ls d held → ReadyToDo w.C w.p (At held (Plain (BrTable ls d) rest)) (BrTable ls d)
    ready_case ls d [] rest f q = absurd (no_number q.kept q.begins)
    ready_case ls d (V64 n ∷ held) rest f q = absurd (not_long n q.kept held q.begins)
    ready_case ls d (V32 n ∷ held) rest f q =
        let e = (f.3).0 in
        let k = length held + length (belows levels) in (
          k,
          e,
          ops_length (V32 n ∷ held) (Plain (BrTable ls d) rest) ∙ omega arith,
          (f.3).1,
          (λ i. let le : min i e.arity ≤ length ls = omega (arith, (f.3).2) in
              let c = (f.3).3 (min i e.arity) le in
              (c.1, c.3, (lands_among held (chosen_label ls d (min i e.arity)) k c.0 c.1 c.2 c.4 (case_begins w sp s levels here lf ls d n (min i e.arity) held c.0 q c.2) refl, (bounded.leads_cases sp.pc ls d e f.1 (f.3).1 (min i e.arity) le c.1 c.3).0))),
        )

    ready_through : (y : ℕ) (held : List Value) (rest : Code) → Typed_at held (Plain (CallIndirect y) rest) → CallsThrough w sp here y held rest → ReadyToDo w.C w.p (At held (Plain (CallIndirect y) rest)) (CallIndirect y)
    ready_through y [] rest t q = absurd (no_number (enter q.of_type) q.begins)
    ready_through y (V64 n ∷ held) rest t q = absurd (not_long n (enter q.of_type) held q.begins)
    ready_through y (V32 n ∷ held) rest t q =
        let k = table_there (w.C).has_table (TableTyped w.C) (sp.store).table q.has (t.store).table in
        let b = begins_length (enter q.of_type) held (below_number (enter q.of_type) (types held) q.begins) in (
          length held + length (belows levels),
          k.0,
          q.of_type,
          ops_length (V32 n ∷ held) (Plain (CallIndirect y) rest) ∙ omega arith,
          k.1,
          q.sig,
          omega (arith, b, length-reverse (q.of_type).params),
          (λ i g e. let h = k.2 i (SetTo g) e in let c = callee w g h.0 h.1 in (c.body, c.there)),
        )

    ready_global : (x : ℕ) (held : List Value) (rest : Code) → Typed_at held (Plain (GlobalSet x) rest) → (g : GlobalType) (c : Stack) → slice_get (w.C).globals x ≡ Some g → types held ≡ g.val_type ∷ c → ReadyToDo w.C w.p (At held (Plain (GlobalSet x) rest)) (GlobalSet x)
    ready_global x [] rest t g c at_x e = absurd (cc e)
    ready_global x (V32 n ∷ held) rest t g c at_x e =
        let run = running w sp s levels (V32 n ∷ held) (Plain (GlobalSet x) rest) r t in
        let lt = slice_get_within (w.C).globals x g at_x in
        (g, at_x, top_is g.val_type (V32 n) (slots (held ++ belows levels)) (cc e) run.operands.0, omega (arith, lt, globals_length (V32 n ∷ held) (Plain (GlobalSet x) rest) t))
    ready_global x (V64 n ∷ held) rest t g c at_x e =
        let run = running w sp s levels (V64 n ∷ held) (Plain (GlobalSet x) rest) r t in
        let lt = slice_get_within (w.C).globals x g at_x in
        (g, at_x, top_is g.val_type (V64 n) (slots (held ++ belows levels)) (cc e) run.operands.0, omega (arith, lt, globals_length (V64 n ∷ held) (Plain (GlobalSet x) rest) t))

    pub ready_to_do : (i : Op) (held : List Value) (rest : Code) → Typed_at held (Plain i rest) → Fit w sp (Plain i rest) here sp.pc (types held) → ReadyToDo w.C w.p (At held (Plain i rest)) i
    ready_to_do Unreachable held rest t f = tt
    ready_to_do Nop held rest t f = tt
    ready_to_do (Br l) held rest t f =
        let to = (f.3).1 in
        (to, (f.3).3, (lands_among held l _ (f.3).0 to (f.3).2 (f.3).4 (br_begins w sp s levels here lf l held rest f) (ops_length held (Plain (Br l) rest)), (bounded.leads sp.pc to (f.3).3).0))
    ready_to_do (BrIf l) held rest t f = ready_branch l held rest f
    ready_to_do (BrTable ls d) held rest t f = ready_case ls d held rest f (chooses w sp s levels here lf ls d held rest f)
    ready_to_do Return held rest t f =
        omega (arith, many w sp levels, begins_length (results_at sp) held (return_begins w sp here held rest f), ops_length held (Plain Return rest))
    ready_to_do (Call g) held rest t f =
        let c = calls w sp here g held rest f in
        (c.body, c.there, omega (arith, length-reverse (((c.body).function).func_type).params, begins_length (enter ((c.body).function).func_type) held c.begins, ops_length held (Plain (Call g) rest)))
    ready_to_do (CallIndirect y) held rest t f = ready_through y held rest t (calls_through w sp here y held rest f)
    ready_to_do Drop held rest t f =
        let q = parts w sp s levels here lf Drop held rest tt f in
        enough Drop 1 held rest tt f (sym (ap length (q.typed).1))
    ready_to_do Select held rest t f =
        let q = parts w sp s levels here lf Select held rest tt f in
        enough Select 3 held rest tt f (sym (ap length (q.typed).1))
    ready_to_do (LocalGet x) held rest t f =
        let q = parts w sp s levels here lf (LocalGet x) held rest tt f in
        omega (arith, slice_get_within (locals_at sp) x _ (q.typed).1, locals_length)
    ready_to_do (LocalSet x) held rest t f =
        let q = parts w sp s levels here lf (LocalSet x) held rest tt f in
        (enough (LocalSet x) 1 held rest tt f (sym (ap length (q.typed).2)), omega (arith, slice_get_within (locals_at sp) x _ (q.typed).1, locals_length))
    ready_to_do (LocalTee x) held rest t f =
        let q = parts w sp s levels here lf (LocalTee x) held rest tt f in
        (enough (LocalTee x) 1 held rest tt f (sym (ap length (q.typed).2)), omega (arith, slice_get_within (locals_at sp) x _ (q.typed).1, locals_length))
    ready_to_do (GlobalGet x) held rest t f =
        let q = parts w sp s levels here lf (GlobalGet x) held rest tt f in
        omega (arith, slice_get_within (w.C).globals x _ (q.typed).1, globals_length held (Plain (GlobalGet x) rest) t)
    ready_to_do (GlobalSet x) held rest t f =
        let q = parts w sp s levels here lf (GlobalSet x) held rest tt f in
        ready_global x held rest t (q.typed).0 q.below (q.typed).1 (q.split ∙ ap (λ l. l ++ q.below) (q.typed).3)
    ready_to_do (MemoryLoad a) held rest t f =
        let q = parts w sp s levels here lf (MemoryLoad a) held rest tt f in
        (((running w sp s levels held (Plain (MemoryLoad a) rest) r t).code).integer.0, enough (MemoryLoad a) 1 held rest tt f (sym (ap length (q.typed).2)), memory_is held (Plain (MemoryLoad a) rest) t (q.typed).0)
    ready_to_do (MemoryStore a) held rest t f =
        let q = parts w sp s levels here lf (MemoryStore a) held rest tt f in
        (((running w sp s levels held (Plain (MemoryStore a) rest) r t).code).integer.0, enough (MemoryStore a) 2 held rest tt f (sym (ap length (q.typed).2)), memory_is held (Plain (MemoryStore a) rest) t (q.typed).0)
    ready_to_do MemorySize held rest t f =
        let q = parts w sp s levels here lf MemorySize held rest tt f in
        memory_is held (Plain MemorySize rest) t (q.typed).0
    ready_to_do MemoryGrow held rest t f =
        let q = parts w sp s levels here lf MemoryGrow held rest tt f in
        (enough MemoryGrow 1 held rest tt f (sym (ap length (q.typed).1)), memory_is held (Plain MemoryGrow rest) t (q.typed).0)
    ready_to_do (Const k n) held rest t f =
        ((running w sp s levels held (Plain (Const k n) rest) r t).code).integer.0
    ready_to_do (Numeric op) held rest t f =
        let q = parts w sp s levels here lf (Numeric op) held rest tt f in
        (((running w sp s levels held (Plain (Numeric op) rest) r t).code).integer.0, enough (Numeric op) (length (operands op)) held rest tt f (sym (ap length (q.typed).0 ∙ length-reverse (operands op))))
