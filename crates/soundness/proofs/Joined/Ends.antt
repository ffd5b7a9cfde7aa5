-- A call ends in one way.
use Rattle.std.proofs.Common.{◌≡◌, ◌≢◌, ℕ, suc, ◌<◌, List, [], ◌∷◌, length, Some, None, inl, inr, refl, sym, ap, ◌∙◌, subst, arith, ◌⊎◌}
use Rattle.std.specs.Prelude.{slice_get, Contains, AllPairs, IsTrue}
use Rattle.std.proofs.lemmas.Bool.{cases_order}
use Rattle.std.proofs.lemmas.Option.{slice_get-get_or, get_or_from_slice_get, same_Some}
use Rattle.wsyntax.specs.Types.{FuncType}
use Rattle.wsyntax.specs.Modules.{ModuleShape, BodyShape, ExportShape}
use Rattle.wsyntax.specs.Validation.Rules.{ExportsDistinct}
use Rattle.wsyntax.specs.Validation.ModuleContext.{module_context}
use Rattle.wsyntax.specs.declared.value.Value.{Value}
use Rattle.wsyntax.specs.Execution.Values.{types}
use Rattle.wsyntax.specs.Execution.Store.{Module, Store}
use Rattle.wsyntax.specs.Execution.Ends.{Outcome, Values, Ends}
use Rattle.wsyntax.specs.Execution.Start.{StartRefusal, start_refusal, InstanceOf, fresh_store}
use Rattle.wsyntax.specs.Texts.Calls.{Call}
use Rattle.wsyntax.specs.Texts.Report.{CallEnd, Ran, BadArguments, NotStarted, NoMemory}
use Rattle.wsyntax.specs.Texts.Answer.{Limits, Names, Started, plainly, by_start, EndsOn, in_start, in_call, EndOf, missing, other_kind, misfit, not_started, no_memory, ran, EndsOf}
use Rattle.wsyntax.specs.declared.module.ExportKind.TheVariants as kinds
use Rattle.soundness.specs.OneAnswer.{OneEndOf}
use Rattle.soundness.proofs.Chapter4.Chains.{one_end}
use Rattle.soundness.proofs.Joined.Functions.{one_instance}

-- On an instance.

started_same : (m : ModuleShape) (i : Module) (l : Limits) (s t : Store) (k n : ℕ) → Started m i l s k → Started m i l t n → (s ≡ t) × (k ≡ n)
started_same m i l s t k n (plainly e) (plainly d) = (refl, refl)
started_same m i l s t k n (plainly e) (by_start d b) = absurd cc
started_same m i l s t k n (by_start e a) (plainly d) = absurd cc
started_same m i l s t k n (by_start {f = f} e a) (by_start {f = g} d b) =
    let same : f ≡ g = cc in
    let a' = subst (λ f. Ends i (fresh_store l.pages m) f [] l.fuel l.frames (Values []) k s) same a in
    let r = one_end i (fresh_store l.pages m) g [] l.fuel l.frames (Values []) (Values []) k n s t a' b in
    (r.2, r.1)

-- the start function does not end both with and without an outcome of its own
start_clash : (m : ModuleShape) (i : Module) (l : Limits) (g k n : ℕ) (o : Outcome) (s t : Store) → m.start ≡ Some g → Ends i (fresh_store l.pages m) g [] l.fuel l.frames o k s → (o ≢ Values []) → Started m i l t n → ⊥
start_clash m i l g k n o s t e a other (plainly d) = absurd cc
start_clash m i l g k n o s t e a other (by_start {f = h} d b) =
    let same : h ≡ g = cc in
    let b' = subst (λ f. Ends i (fresh_store l.pages m) f [] l.fuel l.frames (Values []) n t) same b in
    other (one_end i (fresh_store l.pages m) g [] l.fuel l.frames o (Values []) k n s t a b').0

on_same : (m : ModuleShape) (i : Module) (l : Limits) (f : ℕ) (args : List Value) (o u : Outcome) (k n : ℕ) → EndsOn m i l f args o k → EndsOn m i l f args u n → (o ≡ u) × (k ≡ n)
on_same m i l f args o u k n (in_start {g = g} {s = s} e a other) (in_start {g = h} {s = t} d b more) =
    let same : g ≡ h = cc in
    let a' = subst (λ f. Ends i (fresh_store l.pages m) f [] l.fuel l.frames o k s) same a in
    let r = one_end i (fresh_store l.pages m) h [] l.fuel l.frames o u k n s t a' b in
    (r.0, r.1)
on_same m i l f args o u k n (in_start {g = g} {s = s} e a other) (in_call {k = j} {s = t} st p b) = absurd (start_clash m i l g k j o s t e a other st)
on_same m i l f args o u k n (in_call {k = j} {s = t} st p b) (in_start {g = g} {s = s} e a other) = absurd (start_clash m i l g n j u s t e a other st)
on_same m i l f args o u k n (in_call {k = j} {n = a} {left = x} {s = s} {after = y} st p b) (in_call {k = j'} {n = a'} {left = x'} {s = t} {after = y'} st' p' b') =
    let r = started_same m i l s t j j' st st' in
    let left : x ≡ x' = omega (arith, p, p', r.1) in
    let b'' = subst (λ x. Ends i t f args x l.frames o a y) left (subst (λ s. Ends i s f args x l.frames o a y) r.0 b) in
    let q = one_end i t f args x' l.frames o u a a' y y' b'' b' in
    (q.0, cc (r.1, q.1))

-- By name.

-- where an element stands
stands : (xs : List ExportShape) (x : ExportShape) → Contains xs x → (k : ℕ) × (k < length xs) × (slice_get xs k ≡ Some x)
stands xs x h = (h.0, h.1, slice_get-get_or xs h.0 x h.1 ∙ ap Some h.2)

apart : (xs : List ExportShape) (a b : ExportShape) (j k : ℕ) → AllPairs (λ (a : ExportShape) (b : ExportShape). a.item_name ≢ b.item_name) xs → j < k → k < length xs → slice_get xs j ≡ Some a → slice_get xs k ≡ Some b → a.item_name ≡ b.item_name → ⊥
apart xs a b j k d lt in' ea eb same =
    let r = d j k a lt in' in
    r (ap (λ (x : ExportShape). x.item_name) (get_or_from_slice_get xs j a a ea) ∙ same ∙ sym (ap (λ (x : ExportShape). x.item_name) (get_or_from_slice_get xs k b a eb)))

-- a name is that of one export
by_position : (m : ModuleShape) (a b : ExportShape) (j k : ℕ) → ExportsDistinct m → j < length m.exports → k < length m.exports → slice_get m.exports j ≡ Some a → slice_get m.exports k ≡ Some b → a.item_name ≡ b.item_name → ((j ≡ k) ⊎ ((j < k) ⊎ (k < j))) → a ≡ b
by_position m a b j k d hj hk ea eb same (inl e) =
    let ea' : slice_get m.exports k ≡ Some a = subst (λ k. slice_get m.exports k ≡ Some a) e ea in
    let both : Some a ≡ Some b = sym ea' ∙ eb in
    same_Some a b both
by_position m a b j k d hj hk ea eb same (inr (inl lt)) = absurd (apart m.exports a b j k d lt hk ea eb same)
by_position m a b j k d hj hk ea eb same (inr (inr lt)) = absurd (apart m.exports b a k j d lt hj eb ea (sym same))

one_export : (m : ModuleShape) (a b : ExportShape) → ExportsDistinct m → Contains m.exports a → Contains m.exports b → a.item_name ≡ b.item_name → a ≡ b
one_export m a b d ca cb same =
    let p = stands m.exports a ca in
    let q = stands m.exports b cb in
    by_position m a b p.0 q.0 d p.1 q.1 p.2 q.2 same (cases_order p.0 q.0)

-- Whole ends.

module _ (m : ModuleShape) (bodies : List BodyShape) (l : Limits) (met_none : Type 0) (c : Call) (d : ExportsDistinct m) where
  -- the export that a call names
  abbrev function_export : ℕ → ExportShape
  function_export f = record { item_name = c.name; kind = kinds.Function; index = f }

  one_function : (f g : ℕ) (sig t : FuncType) → Names m c f sig → Names m c g t → (f ≡ g) × (sig ≡ t)
  one_function f g sig t n h =
      let e : f ≡ g = ap (λ (x : ExportShape). x.index) (one_export m (function_export f) (function_export g) d n.exported h.exported refl) in
      let a = subst (λ k. slice_get (module_context m).functions k ≡ Some sig) e n.typed in
      (e, same_Some sig t (sym a ∙ h.typed))

  not_both : (f : ℕ) (sig : FuncType) (x : ExportShape) → Names m c f sig → Contains m.exports x → x.item_name ≡ c.name → (x.kind ≢ kinds.Function) → ⊥
  not_both f sig x n h same kind = kind (ap (λ (x : ExportShape). x.kind) (one_export m x (function_export f) d h n.exported same))

  -- the end of a call that names a function
  named : (f : ℕ) (sig : FuncType) (e : CallEnd) (P : CallEnd → Type 0) → Names m c f sig → EndOf m bodies l met_none c e → ((types c.args ≢ sig.params) → P BadArguments) → ((r : StartRefusal) → types c.args ≡ sig.params → start_refusal l.pages m bodies ≡ Some r → P (NotStarted r)) → (types c.args ≡ sig.params → start_refusal l.pages m bodies ≡ None → met_none → P NoMemory) → ((i : Module) (o : Outcome) (k : ℕ) → types c.args ≡ sig.params → start_refusal l.pages m bodies ≡ None → (met_none → ⊥) → InstanceOf m bodies i → EndsOn m i l f c.args o k → P (Ran o k)) → P e
  named f sig e P n (missing h) bad off short run = absurd (h (function_export f) n.exported refl)
  named f sig e P n (other_kind {e = x} h same kind) bad off short run = absurd (not_both f sig x n h same kind)
  named f sig e P n (misfit {f = g} {sig = t} h a) bad off short run =
      let s = one_function f g sig t n h in bad (λ q. a (q ∙ ap (λ (t : FuncType). t.params) s.1))
  named f sig e P n (not_started {f = g} {sig = t} {r = r} h a b) bad off short run =
      let s = one_function f g sig t n h in off r (a ∙ sym (ap (λ (t : FuncType). t.params) s.1)) b
  named f sig e P n (no_memory {f = g} {sig = t} h a b x) bad off short run =
      let s = one_function f g sig t n h in short (a ∙ sym (ap (λ (t : FuncType). t.params) s.1)) b x
  named f sig e P n (ran {f = g} {k = k} {sig = t} {i = i} {o = o} h a b x is y) bad off short run =
      let s = one_function f g sig t n h in
      run i o k (a ∙ sym (ap (λ (t : FuncType). t.params) s.1)) b x is (subst (λ f. EndsOn m i l f c.args o k) (sym s.0) y)

  pub end_same : (e x : CallEnd) → EndOf m bodies l met_none c e → EndOf m bodies l met_none c x → e ≡ x
  end_same e x (missing h) (missing k) = refl
  end_same e x (missing h) (other_kind {e = y} k same kind) = absurd (h y k same)
  end_same e x (missing h) (misfit {f = f} k a) = absurd (h (function_export f) k.exported refl)
  end_same e x (missing h) (not_started {f = f} k a b) = absurd (h (function_export f) k.exported refl)
  end_same e x (missing h) (no_memory {f = f} k a b y) = absurd (h (function_export f) k.exported refl)
  end_same e x (missing h) (ran {f = f} k a b y is z) = absurd (h (function_export f) k.exported refl)
  end_same e x (other_kind {e = y} h same kind) (missing k) = absurd (k y h same)
  end_same e x (other_kind h same kind) (other_kind k same' kind') = refl
  end_same e x (other_kind {e = y} h same kind) (misfit {f = f} {sig = sig} k a) = absurd (not_both f sig y k h same kind)
  end_same e x (other_kind {e = y} h same kind) (not_started {f = f} {sig = sig} k a b) = absurd (not_both f sig y k h same kind)
  end_same e x (other_kind {e = y} h same kind) (no_memory {f = f} {sig = sig} k a b z) = absurd (not_both f sig y k h same kind)
  end_same e x (other_kind {e = y} h same kind) (ran {f = f} {sig = sig} k a b z is w) = absurd (not_both f sig y k h same kind)
  end_same e x (misfit {f = f} {sig = sig} h a) q =
      named f sig x (λ z. BadArguments ≡ z) h q (λ n. refl) (λ r b y. absurd (a b)) (λ b y z. absurd (a b)) (λ i o k b y z is w. absurd (a b))
  end_same e x (not_started {f = f} {sig = sig} {r = r} h a b) q =
      named f sig x (λ z. NotStarted r ≡ z) h q (λ n. absurd (n a)) (λ u a' b'. ap NotStarted (same_Some r u (sym b ∙ b'))) (λ a' b' y. absurd cc) (λ i o k a' b' y is w. absurd cc)
  end_same e x (no_memory {f = f} {sig = sig} h a b y) q =
      named f sig x (λ z. NoMemory ≡ z) h q (λ n. absurd (n a)) (λ u a' b'. absurd cc) (λ a' b' y. refl) (λ i o k a' b' none is w. absurd (none y))
  end_same e x (ran {f = f} {k = k} {sig = sig} {i = i} {o = o} h a b none is w) q =
      named f sig x (λ z. Ran o k ≡ z) h q (λ n. absurd (n a)) (λ u a' b'. absurd cc) (λ a' b' y. absurd (none y)) (λ i' o' k' a' b' none' is' w'. run_same i i' o o' k k' f is is' w w')
    where
      run_same : (i i' : Module) (o o' : Outcome) (k k' f : ℕ) → InstanceOf m bodies i → InstanceOf m bodies i' → EndsOn m i l f c.args o k → EndsOn m i' l f c.args o' k' → Ran o k ≡ Ran o' k'
      run_same i i' o o' k k' f is is' w w' =
          let r = on_same m i' l f c.args o o' k k' (subst (λ i. EndsOn m i l f c.args o k) (one_instance.same m bodies i i' is is') w) w' in
          cc (r.0, r.1)

pub ends_same : (m : ModuleShape) (bodies : List BodyShape) (l : Limits) (short : ℕ → Type 0) (n : ℕ) (calls : List Call) (es fs : List CallEnd) → ExportsDistinct m → EndsOf m bodies l short n calls es → EndsOf m bodies l short n calls fs → es ≡ fs
ends_same m bodies l short n [] [] [] d h k = refl
ends_same m bodies l short n [] [] (f ∷ fs) d h k = absurd k
ends_same m bodies l short n (c ∷ cs) (e ∷ es) [] d h k = absurd k
ends_same m bodies l short n (c ∷ cs) (e ∷ es) (f ∷ fs) d h k =
    let one : e ≡ f = end_same m bodies l (short n) c d e f h.0 k.0 in
    cc (one, ends_same m bodies l short (suc n) cs es fs d h.1 k.1)
ends_same m bodies l short n _ _ fs d h k = absurd h

pub one_end_of : OneEndOf
one_end_of = record {
  of_call = λ m bodies l short c e f d h k. end_same m bodies l (IsTrue short) c d e f h k;
  of_calls = λ m bodies l short n calls es fs d h k. ends_same m bodies l (λ n. IsTrue (short n)) n calls es fs d h k;
}
