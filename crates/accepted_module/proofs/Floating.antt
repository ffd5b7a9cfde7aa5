-- Whether the declarations of a valid module mention a float is known from the types of its functions and globals alone (`types_tell`).
use Rattle.std.proofs.Common.{◌≡◌, Bool, true, false, ◌||◌, List, [], ◌∷◌, refl, ap, ◌∙◌}
use Rattle.std.specs.Prelude.{All}
use Rattle.std.proofs.lemmas.List.Elements.{All-head, All-tail, All-weaker}
use Rattle.wsyntax.specs.declared.types.ValType.{ValType}
use Rattle.wsyntax.specs.declared.types.ValType.TheVariants.{I32}
use Rattle.wsyntax.specs.declared.types.GlobalType.{GlobalType}
use Rattle.wsyntax.specs.Instructions.{Token}
use Rattle.wsyntax.specs.Modules.{ModuleShape, GlobalShape, ElementShape, DataShape}
use Rattle.wsyntax.specs.Validation.ModuleContext.{imported_globals}
use Rattle.wsyntax.specs.Validation.Rules.{ConstantOf, one_const, one_get, GlobalsConstant, ElementValid, ElementsValid, DataValid, SegmentsValid}
use Rattle.wsyntax.specs.Execution.Start.{any, is_float, token_has_floats, type_has_floats}
use Rattle.accepted_module.specs.Floats.{global_has_floats, declarations_have_floats}

-- A constant expression.

once : (t : Bool) → (t || false) ≡ t
once true = refl
once false = refl

twice : (t : Bool) → (t || (t || false)) ≡ t
twice true = refl
twice false = refl

-- 3.3.7.2 it has no float that its type does not tell
told : (globals : List GlobalType) (t : ValType) (tokens : List Token) → ConstantOf globals t tokens → (is_float t || any token_has_floats tokens) ≡ is_float t
told globals t _ (one_const n) = twice (is_float t)
told globals t _ (one_get x there) = once (is_float t)

-- Lists.

-- two tests that are alike on each
alike : {A : Type 0} (p q : A → Bool) (xs : List A) → All (λ x. p x ≡ q x) xs → any p xs ≡ any q xs
alike p q [] same = refl
alike p q (x ∷ xs) same =
    ap (λ (t : Bool). t || any p xs) (All-head (λ y. p y ≡ q y) x xs same)
    ∙ ap (λ (t : Bool). q x || t) (alike p q xs (All-tail (λ y. p y ≡ q y) x xs same))

no_test : {A : Type 0} (xs : List A) → any (λ x. false) xs ≡ false
no_test [] = refl
no_test (x ∷ xs) = no_test xs

none : {A : Type 0} (p : A → Bool) (xs : List A) → All (λ x. p x ≡ false) xs → any p xs ≡ false
none p xs never = alike p (λ x. false) xs never ∙ no_test xs

-- The declarations.

-- rule 8 is kept
globals_tell : (m : ModuleShape) → GlobalsConstant m → any (λ g. is_float g.global_type.val_type || any token_has_floats g.init) m.globals ≡ any global_has_floats m.globals
globals_tell m constant =
    alike (λ (g : GlobalShape). is_float g.global_type.val_type || any token_has_floats g.init) global_has_floats m.globals
    (All-weaker (λ (g : GlobalShape). ConstantOf (imported_globals m) g.global_type.val_type g.init) _ (λ g h. told (imported_globals m) g.global_type.val_type g.init h) m.globals constant)

-- rule 12 is kept
elements_have_none : (m : ModuleShape) → ElementsValid m → any (λ e. any token_has_floats e.offset) m.elements ≡ false
elements_have_none m valid =
    none (λ (e : ElementShape). any token_has_floats e.offset) m.elements
    (All-weaker (ElementValid m) _ (λ e h. told (imported_globals m) I32 e.offset h.constant) m.elements valid)

-- rule 13 is kept
segments_have_none : (m : ModuleShape) → SegmentsValid m → any (λ d. any token_has_floats d.offset) m.segments ≡ false
segments_have_none m valid =
    none (λ (d : DataShape). any token_has_floats d.offset) m.segments
    (All-weaker (DataValid m) _ (λ d h. told (imported_globals m) I32 d.offset h.constant) m.segments valid)

two_tell : (t g : Bool) → (t || g) ≡ (t || g || false || false)
two_tell true g = refl
two_tell false true = refl
two_tell false false = refl

-- the types of functions and globals are all that has to be looked at
pub types_tell : (m : ModuleShape) → GlobalsConstant m → ElementsValid m → SegmentsValid m → (any type_has_floats m.types || any global_has_floats m.globals) ≡ declarations_have_floats m
types_tell m globals elements segments =
    rw (globals_tell m globals, elements_have_none m elements, segments_have_none m segments) (two_tell (any type_has_floats m.types) (any global_has_floats m.globals))
