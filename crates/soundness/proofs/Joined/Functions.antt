-- The functions of an instance: there are such, no others, and they are typed.
use Rattle.std.proofs.Common.{◌≡◌, ℕ, zero, suc, ◌+◌, List, [], ◌∷◌, ◌++◌, length, map, Some, false, refl, sym, ap, ◌∙◌, subst, arith}
use Rattle.std.specs.Prelude.{slice_get, filter_map, unwrap_or, option_map}
use Rattle.std.proofs.lemmas.Bool.{or_parts}
use Rattle.std.proofs.lemmas.Option.{slice_get-map}
use Rattle.wsyntax.specs.Types.{FuncType}
use Rattle.wsyntax.specs.Instructions.{Code, flat_body}
use Rattle.wsyntax.specs.Modules.{ModuleShape, BodyShape}
use Rattle.wsyntax.specs.Validation.Context.{leave}
use Rattle.wsyntax.specs.Validation.Typing.{BodyTyped}
use Rattle.wsyntax.specs.Validation.ModuleContext.{imported_function, functions_of, type_at, empty_type, module_context, declared}
use Rattle.wsyntax.specs.Validation.Verdict.{function_at}
use Rattle.wsyntax.specs.Execution.Store.{Function, Module}
use Rattle.wsyntax.specs.Execution.ConfigTyped.{FunctionTyped, ModuleTyped, AreIntegers}
use Rattle.wsyntax.specs.Execution.Start.{any, token_has_floats, run_has_floats, body_has_floats, has_floats, FunctionsOf, InstanceOf}
use Rattle.soundness.specs.Instances.{Runnable, OneInstance}
use Rattle.soundness.proofs.Chapter3.Unique.{unique_tree}
use Rattle.soundness.proofs.Joined.Floats.{any_at, integer_code, integer_locals}

-- There are such.

functions_exist : (types : List FuncType) (ys : List ℕ) (bs : List BodyShape) → length ys ≡ length bs → ((k : ℕ) (b : BodyShape) → slice_get bs k ≡ Some b → (code : Code) × (flat_body code ≡ b.code)) → (fns : List Function) × FunctionsOf types ys bs fns
functions_exist types [] [] e h = ([], tt)
functions_exist types [] (b ∷ bs) e h = absurd (omega arith)
functions_exist types (y ∷ ys) [] e h = absurd (omega arith)
functions_exist types (y ∷ ys) (b ∷ bs) e h =
    let c = h 0 b refl in
    let r = functions_exist types ys bs (omega arith) (λ k d is. h (suc k) d is) in
    let fn : Function = record { func_type = type_at types y; locals = declared b.runs; body = c.0 } in
    (fn ∷ r.0, (refl, refl, c.1, r.1))

-- And no others.

function_same : (f g : Function) → f.func_type ≡ g.func_type → f.locals ≡ g.locals → f.body ≡ g.body → f ≡ g
function_same f g a b c = λ k. record { func_type = a k; locals = b k; body = c k }

functions_same : (types : List FuncType) (ys : List ℕ) (bs : List BodyShape) (fs gs : List Function) → FunctionsOf types ys bs fs → FunctionsOf types ys bs gs → fs ≡ gs
functions_same types [] [] [] [] h k = refl
functions_same types [] [] [] (g ∷ gs) h k = absurd k
functions_same types (y ∷ ys) (b ∷ bs) (f ∷ fs) [] h k = absurd k
functions_same types (y ∷ ys) (b ∷ bs) (f ∷ fs) (g ∷ gs) h k =
    let one : f ≡ g = function_same f g (h.0 ∙ sym k.0) (h.1 ∙ sym k.1) (unique_tree f.body g.body (h.2 ∙ sym k.2)) in
    cc (one, functions_same types ys bs fs gs h.3 k.3)
functions_same types _ _ _ gs h k = absurd h

instance_same : (m : ModuleShape) (bodies : List BodyShape) (i j : Module) → InstanceOf m bodies i → InstanceOf m bodies j → i ≡ j
instance_same m bodies i j h k =
    let types : i.types ≡ j.types = h.same_types ∙ sym k.same_types in
    let functions = functions_same m.types m.functions bodies i.functions j.functions h.each k.each in
    λ n. record { types = types n; functions = functions n }

-- They are typed.

functions_types : (types : List FuncType) (ys : List ℕ) (bs : List BodyShape) (fs : List Function) → FunctionsOf types ys bs fs → map (λ (fn : Function). fn.func_type) fs ≡ map (type_at types) ys
functions_types types [] [] [] h = refl
functions_types types (y ∷ ys) (b ∷ bs) (f ∷ fs) h = cc (h.0, functions_types types ys bs fs h.3)
functions_types types _ _ _ h = absurd h

-- what a function is made of
record Parts (types : List FuncType) (ys : List ℕ) (bs : List BodyShape) (k : ℕ) (fn : Function) : Type 0 where
  y : ℕ
  b : BodyShape
  at_y : slice_get ys k ≡ Some y
  at_b : slice_get bs k ≡ Some b
  same_type : fn.func_type ≡ type_at types y
  same_locals : fn.locals ≡ declared b.runs
  tree : flat_body fn.body ≡ b.code

parts : (types : List FuncType) (ys : List ℕ) (bs : List BodyShape) (fs : List Function) (k : ℕ) (fn : Function) → FunctionsOf types ys bs fs → slice_get fs k ≡ Some fn → Parts types ys bs k fn
parts types [] [] [] k fn h e = absurd cc
parts types (y ∷ ys) (b ∷ bs) (f ∷ fs) zero fn h e =
    let same : f ≡ fn = cc in
    subst (Parts types (y ∷ ys) (b ∷ bs) 0) same (record { y = y; b = b; at_y = refl; at_b = refl; same_type = h.0; same_locals = h.1; tree = h.2 })
parts types (y ∷ ys) (b ∷ bs) (f ∷ fs) (suc k) fn h e =
    let r = parts types ys bs fs k fn h.3 e in
    record { y = r.y; b = r.b; at_y = r.at_y; at_b = r.at_b; same_type = r.same_type; same_locals = r.same_locals; tree = r.tree }
parts types _ _ _ k fn h e = absurd h

-- without imports the functions are those that the module defines
pub functions_defined : (m : ModuleShape) → m.imports ≡ [] → functions_of m ≡ m.functions
functions_defined m e = ap (λ is. filter_map (λ i. imported_function i.kind) is ++ m.functions) e

index_is : (m : ModuleShape) (k : ℕ) → m.imports ≡ [] → function_at m k ≡ k
index_is m k e = ap (λ is. length (filter_map (λ i. imported_function i.kind) is) + k) e ∙ omega arith

type_there : (m : ModuleShape) (k y : ℕ) → m.imports ≡ [] → slice_get m.functions k ≡ Some y → type_at (module_context m).functions (function_at m k) ≡ type_at m.types y
type_there m k y e is =
    ap (λ j. type_at (module_context m).functions j) (index_is m k e)
    ∙ ap (λ fs. type_at (map (type_at m.types) fs) k) (functions_defined m e)
    ∙ ap (λ o. unwrap_or o empty_type) (slice_get-map (type_at m.types) m.functions k)
    ∙ ap (λ o. unwrap_or (option_map (type_at m.types) o) empty_type) is

-- what `has_floats` reads last
pub no_floats_in_bodies : (m : ModuleShape) (bodies : List BodyShape) → has_floats m bodies ≡ false → any body_has_floats bodies ≡ false
no_floats_in_bodies m bodies e = (or_parts _ (any body_has_floats bodies) e).1

function_typed : (m : ModuleShape) (bodies : List BodyShape) (k : ℕ) (fn : Function) → Runnable m bodies → Parts m.types m.functions bodies k fn → FunctionTyped (module_context m) fn
function_typed m bodies k fn h p =
    let t = h.judged.bodies_typed k p.b p.at_b in
    let same : type_at (module_context m).functions (function_at m k) ≡ fn.func_type = type_there m k p.y h.no_imports p.at_y ∙ sym p.same_type in
    let at_type = subst (λ (t' : FuncType). BodyTyped (record (module_context m) { locals = t'.params ++ declared p.b.runs }) (leave t') t.code) same t.typed in
    let at_locals = subst (λ ls. BodyTyped (record (module_context m) { locals = fn.func_type.params ++ ls }) (leave fn.func_type) t.code) (sym p.same_locals) at_type in
    let plain = or_parts (any run_has_floats p.b.runs) (any token_has_floats p.b.code) (any_at body_has_floats bodies k p.b (no_floats_in_bodies m bodies h.no_floats) p.at_b) in
    record {
      body = subst (λ code. BodyTyped (record (module_context m) { locals = fn.func_type.params ++ fn.locals }) (leave fn.func_type) code) (unique_tree t.code fn.body (t.tree ∙ sym p.tree)) at_locals;
      integer = integer_code fn.body (ap (any token_has_floats) p.tree ∙ plain.1);
      locals = subst AreIntegers (sym p.same_locals) (integer_locals p.b.runs plain.0);
    }

instance_typed : (m : ModuleShape) (bodies : List BodyShape) (i : Module) → Runnable m bodies → InstanceOf m bodies i → ModuleTyped (module_context m) i
instance_typed m bodies i h is = record {
  same_types = is.same_types;
  same_functions = functions_types m.types m.functions bodies i.functions is.each ∙ ap (map (type_at m.types)) (sym (functions_defined m h.no_imports));
  each = λ k fn at. function_typed m bodies k fn h (parts m.types m.functions bodies i.functions k fn is.each at);
}

pub one_instance : OneInstance
one_instance = record {
  exists = λ m bodies h.
      let r = functions_exist m.types m.functions bodies h.count (λ k b is. let t = h.bodies_typed k b is in (t.code, t.tree)) in
      (record { types = m.types; functions = r.0 }, record { same_types = refl; each = r.1 });
  same = instance_same;
  typed = instance_typed;
}
