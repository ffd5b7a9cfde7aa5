-- A box that is handed on, from a struct of its pointer to another struct. Each has the heap as its second field. Assumes `Logic`.
--     to_loose       a handle becomes a `Loose`: it owns what the `Loose` owns
--     from_loose     a `Loose` becomes a struct that owns what it owns
--     with_number    a number and a `Loose` become a struct of the number that owns the box
-- Each says that a function of that code meets its clauses, and goes through the code statement by statement (`hands`, `numbers`).
-- An export takes no struct with type arguments, so each handle has a function of its own; this is their proof.
-- The proofs of `loose`, `tied` and `of` of modules, reports and instances cite it, and that of `ModuleCount::of`.
use Rattle.std.proofs.Common.{◌≡◌, ◌∙◌, ℕ, List, [], ◌∷◌, ◌++◌, ◌<◌, ◌^◌, refl, sym, ap, subst}
use lib.Dec.{T, lit<}
use seplogic.Ra.Ura.{Ura}
use mir.Syntax.{Sym, Ty, Width, Fn, Callee, local, value_local, ty_struct, ty_ptr, ty_int, tcons, tnil, place, field, copy, assign, aggregate, rv_opd, seq, return}
use mir.Val.{Val, vstruct, vint, of_list, has_ty, bits}
use base.Logic.{SProp, ent, sep, emp, via, id⊢, mono_l, emp∗}
use base.Fml.{Fml, ftrue, fsep, fex}
use prog.Model.{Model}
use prog.Wp.{WpFn, Closed}
use types.Logic.{Logic, sem}
use types.Kit.{Item, Goal, Seq, Step, step, ‵, raw, ◌⊛◌, ◌$◌, ◌∵◌, !, qed, by, move, keep, drop, split, fsplit, fjoin, fpick, fpack, feq_i, feq_l, flt_i, suffices, use0, use1}
use types.Run.{stop, fld, of_opd, no_more, and_then, returns, enter}
use types.ByLocal.{alloc_all, pass_all, free_all, look_at, get, get_in, sets}
use types.Part.{agg, sub, whole}
use contract.Lifetimes.{Lfts}
use contract.Monad.{fact, fact_i}
use contract.Running.{Running, MachineTables, tables}
use denote.Builtin.{RawPtr}
use denote.Exit.{Kept, Last, left, rest, yes}
use denote.Laws.{Is}
use denote.Param.{layout}
use denote.Param.Mute.{blank}
use denote.Plain.{UInt, uint_Lawful}
use denote.RattleType.{RattleType, Valss, flat, owns}
use denote.RawPtr.{Ptr, block_ptr, null_ptr, ptr_val}
use denote.Shadow.{shadow}
use denote.Signature.{plain, types_at}
use denote.Steps.{nothing}
use denote.Struct.Owning.{Owning, row}
use denote.Struct.Struct.{Shape, within}
use denote.Triple.Clauses.{Ended, Clauses, AtExit, Lasts, closing, at_exit}
use denote.Triple.Spec.{Meets}
use denote.Triple.Walked.{Stays, stay_dropped, Goes-dropped, walk_of}
use Rattle.core.proofs.alloc.Calls.{Goes-blank, handle_tells}
use Rattle.core.proofs.cell.Inside.{Good, one}
use Rattle.std_alloc.specs.Box.Ownership.{box_owns}
use Rattle.std.specs.contracts.alloc.Global as heap
use Rattle.std.specs.contracts.impls.GlobalAllocator.TheImpl.{ghosts}
use Rattle.std.specs.declared.alloc.Global.{Global}
use Rattle.std.proofs.alloc.Global.TheLaws as heap_laws
use Rattle.std.proofs.raw_atomic.Walks.{proved_at, leaves}
use Rattle.c_api.proofs.Values.{both, both_tt, the_heap_al}
use Rattle.c_api.specs.contracts.loose.Loose as loose

-- Clauses that are true.

module _ {M : Type 1} (𝓤 : Ura M) {φ : Type 0} where
  -- the last clause, and one before others
  pub last : φ → ent 𝓤 (emp 𝓤) (fact 𝓤 φ)
  last x = fact_i 𝓤 φ (emp 𝓤) x

  pub first : φ → {P : SProp 𝓤} → ent 𝓤 (emp 𝓤) P → ent 𝓤 (emp 𝓤) (sep 𝓤 (fact 𝓤 φ) P)
  first x {P} h = via 𝓤 P h (via 𝓤 (sep 𝓤 (emp 𝓤) P) (emp∗ 𝓤 P) (mono_l 𝓤 P (last x)))

-- Values of such structs.

abbrev struct_ty : Sym → Ty → Ty
struct_ty ν τ = ty_struct ν (tcons τ (tcons (layout heap.the_row) tnil))

pair_good : (ν : Sym) (τ : Ty) (u h : Val) → Good τ u → Good (layout heap.the_row) h → Good (struct_ty ν τ) (both u h)
pair_good ν τ u h p q = (both_tt (has_ty τ u) (has_ty (layout heap.the_row) h) p.0 q.0, (p.1, (q.1, tt)))

pointer_good : (p : Ptr) → Good ty_ptr (ptr_val p)
pointer_good (block_ptr b o) = (tt, tt)
pointer_good null_ptr = (tt, record { fits = lit< tt })

abbrev pub Loose : RattleType → Owning
Loose R = loose.the_type R heap.the_row ghosts

-- the value of this pointer and of the heap
record Shows (p : Ptr) (vs : List Val) : Type 0 where
  pub alloc : Val
  pub is : vs ≡ both (ptr_val p) alloc ∷ []
  pub good : Good (layout heap.the_row) alloc

-- what a struct of a number and the heap owns in its fields, and with a box beside them
abbrev numbered : Width → Shape
numbered w = record { name = []; args = []; types = []; fields = UInt w ∷ heap.the_row ∷ [] }

abbrev pub Numbered : Width → ℕ → Global → List Val → Fml
Numbered w n a vs = fex (Valss (UInt w ∷ heap.the_row ∷ [])) (within (numbered w) (n, (a, tt)) vs)

abbrev pub WithBox : (w : Width) (R : RattleType) → ℕ → (Loose R).D → List Val → Fml
WithBox w R n d vs = fsep (Numbered w n d.alloc vs) (box_owns (ghosts.dealloc_token d.alloc) R d.at d.value)

module _ {M : Type 1} {𝓤 : Ura M} {𝓛 : Logic 𝓤} {K : Type 0} {Γ : List (Item 𝓤)} {G : Goal 𝓤 𝓛.H} where
  number_in : K → (w : Width) (n : ℕ) → n < 2 ^ bits w → (a : Global) (h : Val) → Step K 𝓛 (‵ (Numbered w n a (both (vint w n) h ∷ [])) ∷ Γ) G (‵ ((heap.the_row).own_val a (h ∷ [])) ∷ Γ) G
  number_in t w n small a h = step (λ s. let v : Val = both (vint w n) h in
      nothing t $ move t (1 ∷ 0 ∷ []) $ fjoin t $ flt_i t n (2 ^ bits w) small $ feq_i t (List Val) (vint w n ∷ []) (vint w n ∷ []) refl $ fjoin t $ fjoin t $ feq_i t (List Val) (v ∷ []) (v ∷ []) refl $ fjoin t $
      fpack t (Valss (UInt w ∷ heap.the_row ∷ [])) (within (numbered w) (n, (a, tt)) (v ∷ [])) (vint w n ∷ [], (h ∷ [], tt)) $ s)

module _ {M : Type 1} {𝓤 : Ura M} (𝓛 : Logic 𝓤) (R : RattleType) (d : (Loose R).D) (vs : List Val) where
  -- its machine value, from those of its fields
  shown : (vss : Valss (RawPtr ∷ heap.the_row ∷ [])) → vs ≡ vstruct (of_list (flat (RawPtr ∷ heap.the_row ∷ []) vss)) ∷ [] → vss.0 ≡ ptr_val d.at ∷ [] → (h : Val) → vss.1.0 ≡ h ∷ [] → vs ≡ both (ptr_val d.at) h ∷ []
  shown vss e ep h eh = e ∙ ap (λ (us : List Val). vstruct (of_list (us ++ (vss.1.0 ++ []))) ∷ []) ep ∙ ap (λ (us : List Val). vstruct (of_list (ptr_val d.at ∷ (us ++ []))) ∷ []) eh

  shows : Is (row (Loose R)) d vs → Shows d.at vs
  shows ((vss, (e, (ep, (ea, _)))), _) =
      let (h, eh, good) = one (layout heap.the_row) vss.1.0 (((heap_laws.the_row_laws).lawful 𝓛).typed d.alloc vss.1.0 ea) in record { alloc = h; is = shown vss e ep h eh; good = good }

  module _ {K : Type 0} {Γ : List (Item 𝓤)} {G : Goal 𝓤 𝓛.H} where
    -- the pointer is let go, and a number stands in its place
    number_for_pointer : K → (w : Width) (n : ℕ) → n < 2 ^ bits w
        → ((h : Val) → vs ≡ both (ptr_val d.at) h ∷ [] → Good (layout heap.the_row) h → Seq K 𝓛 (‵ (WithBox w R n d (both (vint w n) h ∷ [])) ∷ Γ) G) → Seq K 𝓛 (‵ ((row (Loose R)).own_val d vs) ∷ Γ) G
    number_for_pointer t w n small k =
        fsplit t $ fpick t (λ vss. fsplit t $ feq_l t (λ e. fsplit t $ feq_l t (λ ep. fsplit t $ handle_tells the_heap_al t d.alloc vss.1.0 (λ h eh good. move t (1 ∷ []) $ drop t $
        number_in t w n small d.alloc h $ fjoin t $ k h (shown vss e ep h eh) good))))

-- The code.

-- takes a struct apart, and makes another one of what was in it
abbrev hands : Sym → Sym → Fn
hands from to = record {
  lifetimes = 0;
  outlives = [];
  ty_params = [];
  givens = 0;
  params = 1;
  locals = local (struct_ty to ty_ptr) value_local ∷ local (struct_ty from ty_ptr) value_local ∷ local ty_ptr value_local ∷ local (layout heap.the_row) value_local ∷ local ty_ptr value_local ∷ [];
  body = seq (assign (place 2 []) (rv_opd (copy (place 1 (field 0 ∷ []))))) (seq (assign (place 3 []) (rv_opd (copy (place 1 (field 1 ∷ [])))))
      (seq (assign (place 4 []) (rv_opd (copy (place 2 [])))) (seq (assign (place 0 []) (aggregate (copy (place 4 []) ∷ copy (place 3 []) ∷ []))) return)));
}

-- makes a struct of a number and of the heap that was in another one
abbrev numbers : Sym → Width → Sym → Fn
numbers from w to = record {
  lifetimes = 0;
  outlives = [];
  ty_params = [];
  givens = 0;
  params = 2;
  locals = local (struct_ty to (ty_int w)) value_local ∷ local (ty_int w) value_local ∷ local (struct_ty from ty_ptr) value_local ∷ local (layout heap.the_row) value_local ∷ [];
  body = seq (assign (place 3 []) (rv_opd (copy (place 2 (field 1 ∷ []))))) (seq (assign (place 0 []) (aggregate (copy (place 1 []) ∷ copy (place 3 []) ∷ []))) return);
}

module _ {M : Type 1} (𝓤 : Ura M) (𝓛 : Logic 𝓤) (𝓜 : Model 𝓤 𝓛.H) (𝓡 : Running 𝓤 𝓛.H 𝓜) (R : RattleType) (k : Kept) where
  abbrev 𝓣 : MachineTables 𝓤 𝓛.H 𝓜
  𝓣 = tables 𝓤 𝓛.H 𝓜 𝓡 𝓡.env

  abbrev L : Owning
  L = Loose R

  -- from one struct of a pointer and the heap to another
  module _ (from to : Owning) where
    abbrev handing : Ended
    handing = record { signature = record { lifetimes = 0; outlives = []; params = plain (λ κs. row from) ∷ []; result = plain (λ κs. row to) }; kept = (k, tt) }

    module _ (read : from.D → L.D) (reads : (d : from.D) (vs : List Val) → (row from).own_val d vs ≡ (row L).own_val (read d) vs) (still : (d : from.D) (f : Last (from.exit k) d) → T (blank (left (from.exit k) d f)))
        (make : L.D → to.D) (makes : (d : L.D) (vs : List Val) → (row L).own_val d vs ≡ (row to).own_val (make d) vs)
        (c : Clauses 𝓤 handing) (met : (κs : Lfts 0) (d : from.D) (g : (c κs (d, tt)).ghost) (end : AtExit handing κs) → ent 𝓤 (emp 𝓤) ((c κs (d, tt)).ensures g (make (read d)) end)) where
      abbrev gone : Stays handing.signature.params handing.kept
      gone = (stay_dropped (plain (λ _. row from)) k, tt)

      handed_on : (name : Callee) → Closed 𝓤 𝓛.H 𝓣.C 𝓣.Λ name (hands from.name to.name) → Meets 𝓛 handing.signature (𝓣.C name) (closing 𝓛 handing c)
      handed_on name closed =
          proved_at 𝓛 handing gone c 𝓜 𝓡 (Goes-blank 𝓛 0 (plain (λ _. row from)) k (λ κs x f. still x f), tt) name (hands from.name to.name) closed (λ z are.
          let κs = z.0.0 in let d : from.D = z.0.3.0 in let vs = z.0.4.0 in let b : L.D = read d in let r : to.D = make b in let fn = hands from.name to.name in
          let Post : Val → SProp 𝓤 = (walk_of 𝓛 handing gone c).post z in let Run : List Val → SProp 𝓤 = λ ws. WpFn 𝓤 𝓛.H 𝓣.C 𝓣.Λ fn ws Post in
          let s : Shows b.at vs = shows 𝓛 R b vs (subst shadow (reads d vs) are.0) in let h : Val = s.alloc in let u : Val = ptr_val b.at in let w : Val = both u h in
          let p : Good ty_ptr u = pointer_good b.at in let end : Lasts handing κs z.0.3 = (rest (from.exit k) d, tt) in
          let same : (row from).own_val d vs ≡ (row to).own_val r (w ∷ []) = reads d vs ∙ makes b vs ∙ ap ((row to).own_val r) s.is in
          qed 𝓛 ((‵ ftrue ⊛ ‵ (owns (types_at handing.signature.params κs) z.0.3 z.0.4)) ∷ raw ((c κs z.0.3).requires z.1) ∷ []) ∵ split ! $ move ! (1 ∷ []) $ fsplit ! $
          use1 𝓛 (‵ ((row to).own_val r (w ∷ []))) (subst (λ (P : Fml). ent 𝓤 (sem 𝓛 ((row from).own_val d vs)) (sem 𝓛 P)) same (id⊢ 𝓤 _)) $
          suffices ! (Run (w ∷ [])) (subst (λ (us : List Val). ent 𝓤 (Run (w ∷ [])) (Run us)) (sym (λ i. s.is i ++ [])) (id⊢ 𝓤 (Run (w ∷ [])))) $
          enter ! 𝓣.C 𝓣.Λ fn (w ∷ []) Post $ alloc_all ! (λ l. pass_all ! refl (pair_good from.name ty_ptr u h p s.good, tt) $
          sets ! (of_opd ! (get_in ! (fld ! refl (stop !)) (sub ! 0 refl (whole !)))) refl p $ sets ! (of_opd ! (get_in ! (fld ! refl (stop !)) (sub ! 1 refl (whole !)))) refl s.good $
          sets ! (of_opd ! (get ! refl)) refl p $ sets ! (agg ! (and_then ! (get ! refl) (and_then ! (get ! refl) (no_more !)))) refl (pair_good to.name ty_ptr u h p s.good) $
          use0 𝓛 (raw ((c κs z.0.3).ensures z.1 r (at_exit handing κs z.0.3 end))) (met κs d z.1 (at_exit handing κs z.0.3 end)) $ nothing ! $ nothing ! $ fjoin ! $
          returns ! (look_at ! 0 refl) $ free_all ! refl $ keep ! (3 ∷ 0 ∷ 2 ∷ 1 ∷ []) $ by ! (leaves 𝓛 handing gone c z w r end (tt, tt))))

  module _ (from : Owning) (read : from.D → L.D) (reads : (d : from.D) (vs : List Val) → (row from).own_val d vs ≡ (row L).own_val (read d) vs) (still : (d : from.D) (f : Last (from.exit k) d) → T (blank (left (from.exit k) d f)))
      (c : Clauses 𝓤 (handing from L)) (met : (κs : Lfts 0) (d : from.D) (g : (c κs (d, tt)).ghost) (end : AtExit (handing from L) κs) → ent 𝓤 (emp 𝓤) ((c κs (d, tt)).ensures g (read d) end)) where
    pub to_loose : (name : Callee) → Closed 𝓤 𝓛.H 𝓣.C 𝓣.Λ name (hands from.name L.name) → Meets 𝓛 (handing from L).signature (𝓣.C name) (closing 𝓛 (handing from L) c)
    to_loose = handed_on from L read reads still (λ d. d) (λ d vs. refl) c met

  module _ (to : Owning) (make : L.D → to.D) (makes : (d : L.D) (vs : List Val) → (row L).own_val d vs ≡ (row to).own_val (make d) vs)
      (c : Clauses 𝓤 (handing L to)) (met : (κs : Lfts 0) (d : L.D) (g : (c κs (d, tt)).ghost) (end : AtExit (handing L to) κs) → ent 𝓤 (emp 𝓤) ((c κs (d, tt)).ensures g (make d) end)) where
    pub from_loose : (name : Callee) → Closed 𝓤 𝓛.H 𝓣.C 𝓣.Λ name (hands L.name to.name) → Meets 𝓛 (handing L to).signature (𝓣.C name) (closing 𝓛 (handing L to) c)
    from_loose = handed_on L to (λ d. d) (λ d vs. refl) (λ d f. tt) make makes c met

  -- to a struct of a number and the heap
  module _ (w : Width) (to : Owning) where
    abbrev numbering : Ended
    numbering = record { signature = record { lifetimes = 0; outlives = []; params = plain (λ κs. UInt w) ∷ plain (λ κs. row L) ∷ []; result = plain (λ κs. row to) }; kept = (yes, (k, tt)) }

    module _ (make : ℕ → L.D → to.D) (makes : (n : ℕ) (d : L.D) (vs : List Val) → WithBox w R n d vs ≡ (row to).own_val (make n d) vs) (c : Clauses 𝓤 numbering)
        (met : (κs : Lfts 0) (n : ℕ) (d : L.D) (g : (c κs (n, (d, tt))).ghost) (end : AtExit numbering κs) → ent 𝓤 (emp 𝓤) ((c κs (n, (d, tt))).ensures g (make n d) end)) where
      abbrev spent : Stays numbering.signature.params numbering.kept
      spent = (stay_dropped (plain (λ _. UInt w)) yes, (stay_dropped (plain (λ _. row L)) k, tt))

      pub with_number : (name : Callee) → Closed 𝓤 𝓛.H 𝓣.C 𝓣.Λ name (numbers L.name w to.name) → Meets 𝓛 numbering.signature (𝓣.C name) (closing 𝓛 numbering c)
      with_number name closed =
          proved_at 𝓛 numbering spent c 𝓜 𝓡 (Goes-dropped 𝓛 0 (plain (λ _. UInt w)) yes (λ κs x f. refl), (Goes-blank 𝓛 0 (plain (λ _. row L)) k (λ κs x f. tt), tt)) name (numbers L.name w to.name) closed (λ z are.
          let κs = z.0.0 in let n : ℕ = z.0.3.0 in let d : L.D = z.0.3.1.0 in let fn = numbers L.name w to.name in
          let Post : Val → SProp 𝓤 = (walk_of 𝓛 numbering spent c).post z in let Run : List Val → SProp 𝓤 = λ ws. WpFn 𝓤 𝓛.H 𝓣.C 𝓣.Λ fn ws Post in
          let p : Good (ty_int w) (vint w n) = ((uint_Lawful 𝓛 w).typed n (vint w n ∷ []) (refl, are.0.1)).0 in let end : Lasts numbering κs z.0.3 = (tt, (tt, tt)) in
          qed 𝓛 ((‵ ftrue ⊛ ‵ (owns (types_at numbering.signature.params κs) z.0.3 z.0.4)) ∷ raw ((c κs z.0.3).requires z.1) ∷ []) ∵ split ! $ move ! (1 ∷ []) $ fsplit ! $ drop ! $ fsplit ! $
          number_for_pointer 𝓛 R d z.0.4.1.0 ! w n are.0.1 (λ h is good. let u : Val = both (ptr_val d.at) h in let v : Val = both (vint w n) h in
          use1 𝓛 (‵ ((row to).own_val (make n d) (v ∷ []))) (subst (λ (P : Fml). ent 𝓤 (sem 𝓛 (WithBox w R n d (v ∷ []))) (sem 𝓛 P)) (makes n d (v ∷ [])) (id⊢ 𝓤 _)) $
          suffices ! (Run (vint w n ∷ u ∷ [])) (subst (λ (us : List Val). ent 𝓤 (Run (vint w n ∷ u ∷ [])) (Run us)) (sym (λ i. are.0.0 i ++ (is i ++ []))) (id⊢ 𝓤 (Run (vint w n ∷ u ∷ [])))) $
          enter ! 𝓣.C 𝓣.Λ fn (vint w n ∷ u ∷ []) Post $ alloc_all ! (λ l. pass_all ! refl (p, (pair_good L.name ty_ptr (ptr_val d.at) h (pointer_good d.at) good, tt)) $
          sets ! (of_opd ! (get_in ! (fld ! refl (stop !)) (sub ! 1 refl (whole !)))) refl good $
          sets ! (agg ! (and_then ! (get ! refl) (and_then ! (get ! refl) (no_more !)))) refl (pair_good to.name (ty_int w) (vint w n) h p good) $
          use0 𝓛 (raw ((c κs z.0.3).ensures z.1 (make n d) (at_exit numbering κs z.0.3 end))) (met κs n d z.1 (at_exit numbering κs z.0.3 end)) $ nothing ! $ nothing ! $ fjoin ! $ nothing ! $ fjoin ! $
          returns ! (look_at ! 0 refl) $ free_all ! refl $ keep ! (3 ∷ 0 ∷ 2 ∷ 1 ∷ []) $ by ! (leaves 𝓛 numbering spent c z v (make n d) end (tt, (tt, tt))))))
