-- Operands that a token takes and does not find, indices that it names and labels of a table, as causes of its refusal.
use Rattle.std.proofs.Common.{◌≡◌, inl, inr, ℕ, zero, suc, ◌^◌, ◌<◌, ◌≤◌, Bool, true, false, List, [], ◌∷◌, reverse, length, get_or, slice_get, Option, Some, None, refl, sym, ap, ◌∙◌, subst, arith}
use Rattle.std.proofs.lemmas.List.{length-reverse}
use Rattle.std.proofs.lemmas.Option.{slice_get-get_or}
use Rattle.std.specs.Prelude.{IfSome, IsSomeAnd}
use Rattle.wsyntax.specs.declared.ValType.{ValType}
use Rattle.wsyntax.specs.Instructions.{Token, Do, BrTable, Select, OpenBlock, OpenLoop, OpenIf, Else, End}
use Rattle.wsyntax.specs.Validation.Context.{Context}
use Rattle.wsyntax.specs.Validation.Algorithm.{Frame}
use Rattle.wsyntax.specs.declared.instructions.Load.{Load}
use Rattle.wsyntax.specs.declared.instructions.Store.{Store}
use Rattle.wsyntax.specs.Table.{load_access, store_access}
use Rattle.wsyntax.specs.Modules.{decoded_as}
use Rattle.wsyntax.specs.declared.instructions.Token.{Token as Flat}
use Rattle.wsyntax.specs.declared.instructions.Token.TheVariants as flat
use Rattle.explanation.specs.declared.cause.Space.{Space}
use Rattle.explanation.specs.declared.cause.Space.TheVariants.{Labels}
use Rattle.explanation.specs.declared.cause.Cause.{Cause}
use Rattle.explanation.specs.declared.cause.Cause.TheVariants as cause
use Rattle.explain_typing.specs.Typed.{pops, topmost}
use Rattle.explain_typing.specs.Causes.{IsAlignedTo, IsCause, IsMisfit, Names, TakesAt, UsesMemory, HasJust, operand_at}

-- the first frame has these operands
abbrev having : Frame → List (Option ValType) → Bool → Frame
having f known d = record f { operands = record { known = known; is_dead = d } }

known_at : (n k : ℕ) (u : ValType) (known : List (Option ValType)) (d : Bool) (f : Frame) (fs : List Frame) → slice_get (topmost n (having f known d ∷ fs)) k ≡ Some (Some u) → slice_get known k ≡ Some (Some u)
known_at zero k u known d f fs e = absurd cc
known_at (suc n) zero u (x ∷ xs) d f fs e = e
known_at (suc n) (suc k) u (x ∷ xs) d f fs e = known_at n k u xs d f fs e
known_at (suc n) k u [] false f fs e = absurd cc
known_at (suc n) zero u [] true f fs e = absurd cc
known_at (suc n) (suc k) u [] true f fs e = absurd (let h = known_at n k u [] true f fs e in cc)

all_known : (n : ℕ) (known : List (Option ValType)) (d : Bool) (f : Frame) (fs : List Frame) → length (topmost n (having f known d ∷ fs)) < n → (length known ≡ length (topmost n (having f known d ∷ fs))) × (d ≡ false)
all_known zero known d f fs lt = absurd (omega (arith, lt))
all_known (suc n) [] false f fs lt = (refl, refl)
all_known (suc n) [] true f fs lt = absurd (let h = all_known n [] true f fs (omega (arith, lt)) in let e = h.1 in cc)
all_known (suc n) (x ∷ xs) d f fs lt = let h = all_known n xs d f fs (omega (arith, lt)) in (ap suc h.0, h.1)

none_top : (n : ℕ) → topmost n [] ≡ []
none_top zero = refl
none_top (suc n) = refl

found_at : (n k : ℕ) (u : ValType) (fs : List Frame) → slice_get (topmost n fs) k ≡ Some (Some u) → operand_at fs k ≡ Some (Some u)
found_at n k u [] e = absurd (let h : slice_get [] k ≡ Some (Some u) = ap (λ z. slice_get z k) (sym (none_top n)) ∙ e in cc)
found_at n k u (f ∷ fs) e = known_at n k u f.operands.known f.operands.is_dead f fs e

no_pops : (C : Context) (t : Token) → pops C t [] ≡ None
no_pops C (Do i) = refl
no_pops C (OpenBlock b) = refl
no_pops C (OpenLoop b) = refl
no_pops C (OpenIf b) = refl
no_pops C Else = refl
no_pops C End = refl

within : {A : Type 0} (xs : List A) (k : ℕ) (x : A) → slice_get xs k ≡ Some x → k < length xs
within [] k x e = absurd cc
within (y ∷ xs) zero x e = omega arith
within (y ∷ xs) (suc k) x e = let h = within xs k x e in omega (arith, h)

just_so_many : (C : Context) (t : Token) (fs : List Frame) (ps : List (Option ValType)) (n position : ℕ) → Some ps ≡ pops C t fs → position < n → length (topmost n fs) ≡ position → HasJust fs position
just_so_many C t [] ps n position e lt h = absurd (let q = e ∙ no_pops C t in cc)
just_so_many C t (f ∷ fs) ps n position e lt h =
    let q = all_known n f.operands.known f.operands.is_dead f fs (omega (arith, lt, h)) in (q.0 ∙ h, q.1)

takes_at : (C : Context) (t : Token) (fs : List Frame) (ps : List (Option ValType)) (position : ℕ) (w : Option ValType) → Some ps ≡ pops C t fs → slice_get ps position ≡ Some w → TakesAt C t fs position w
takes_at C t fs ps position w e h = subst (λ z. IsSomeAnd z (λ qs. slice_get qs position ≡ Some w)) e h

-- what differs is a cause
pub misfit_causes : (C : Context) (t : Token) (fs : List Frame) (ps xs : List (Option ValType)) (n : ℕ) (c : Cause) → Some ps ≡ pops C t fs → xs ≡ topmost n fs → length ps ≤ n → IsMisfit ps xs c → IsCause C t fs c
misfit_causes C t fs ps xs n (cause.Operand position wanted found) e k le h =
    (takes_at C t fs ps position (Some wanted) e h.0, found_at n position found fs (ap (λ z. slice_get z position) (sym k) ∙ h.1), h.2)
misfit_causes C t fs ps xs n (cause.Missing position wanted) e k le h =
    let lt : position < n = let w = within ps position wanted h.0 in omega (arith, w, le) in
    (takes_at C t fs ps position wanted e h.0, just_so_many C t fs ps n position e lt (ap length (sym k) ∙ h.1))
misfit_causes C t fs ps xs n (cause.LeftOver count) e k le h = absurd h
misfit_causes C t fs ps xs n (cause.NoElse signature) e k le h = absurd h
misfit_causes C t fs ps xs n (cause.NoIndex space index count) e k le h = absurd h
misfit_causes C t fs ps xs n (cause.Immutable global) e k le h = absurd h
misfit_causes C t fs ps xs n cause.NoMemory e k le h = absurd h
misfit_causes C t fs ps xs n cause.NoTable e k le h = absurd h
misfit_causes C t fs ps xs n (cause.Alignment align largest) e k le h = absurd h
misfit_causes C t fs ps xs n (cause.Labels label takes others) e k le h = absurd h
misfit_causes C t fs ps xs n (cause.Select above below) e k le h = absurd h

pub some_more : {A : Type 0} (P Q : A → Type 0) (r : Option A) → ((x : A) → P x → Q x) → IfSome r P → IfSome r Q
some_more P Q None f h = h
some_more P Q (Some x) f h = f x h

pub misfit_some : (C : Context) (t : Token) (fs : List Frame) (takes finds : List (Option ValType)) (n : ℕ) (r : Option Cause) → Some (reverse takes) ≡ pops C t fs → reverse finds ≡ topmost n fs → length takes ≤ n
    → IfSome r (IsMisfit (reverse takes) (reverse finds)) → IfSome r (IsCause C t fs)
misfit_some C t fs takes finds n r e k le h =
    some_more (IsMisfit (reverse takes) (reverse finds)) (IsCause C t fs) r (λ x p. misfit_causes C t fs (reverse takes) (reverse finds) n x e k (rw (length-reverse takes) le) p) h

-- ---- what a token names

pub index_some : (C : Context) (fs : List Frame) (t : Token) (space : Space) (x : ℕ) (r : Option Cause) → IfSome r (λ c. (u : Token) → Names u space x → IsCause C u fs c) → Names t space x → IfSome r (IsCause C t fs)
index_some C fs t space x r h n = some_more (λ c. (u : Token) → Names u space x → IsCause C u fs c) (IsCause C t fs) r (λ y p. p t n) h

pub loads : (t : Flat) (l : Load) (a o : ℕ) (targets : List ℕ) → t ≡ flat.Load l a o → UsesMemory (decoded_as targets t)
loads t l a o targets e = subst (λ z. UsesMemory (decoded_as targets z)) (sym e) (inl (load_access l a o, inl refl))

pub stores : (t : Flat) (l : Store) (a o : ℕ) (targets : List ℕ) → t ≡ flat.Store l a o → UsesMemory (decoded_as targets t)
stores t l a o targets e = subst (λ z. UsesMemory (decoded_as targets z)) (sym e) (inl (store_access l a o, inr refl))

pub load_aligned : (t : Flat) (l : Load) (a o n : ℕ) (targets : List ℕ) → t ≡ flat.Load l a o → ((x y : ℕ) → (load_access l x y).width ≡ 2 ^ n) → ((x y : ℕ) → (load_access l x y).align ≡ x) → IsAlignedTo (decoded_as targets t) a n
load_aligned t l a o n targets e w al = subst (λ z. IsAlignedTo (decoded_as targets z) a n) (sym e) (load_access l a o, inl refl, al a o, w a o)

pub store_aligned : (t : Flat) (l : Store) (a o n : ℕ) (targets : List ℕ) → t ≡ flat.Store l a o → ((x y : ℕ) → (store_access l x y).width ≡ 2 ^ n) → ((x y : ℕ) → (store_access l x y).align ≡ x) → IsAlignedTo (decoded_as targets t) a n
store_aligned t l a o n targets e w al = subst (λ z. IsAlignedTo (decoded_as targets z) a n) (sym e) (store_access l a o, inr refl, al a o, w a o)

-- a label of a branch table
pub label_named : (ls : List ℕ) (d k l : ℕ) → k < length ls → l ≡ get_or ls k 0 → Names (Do (BrTable ls d)) Labels l
label_named ls d k l lt e = inr (inr (ls, d, suc k, refl, slice_get-get_or ls k 0 lt ∙ ap Some (sym e)))

-- operands of a select that are of two types
pub unlike_some : (C : Context) (t : Token) (fs : List Frame) (finds : List (Option ValType)) (n : ℕ) (r : Option Cause) → t ≡ Do Select → reverse finds ≡ topmost n fs
    → IfSome r (λ c. (D : Context) (gs : List Frame) (m : ℕ) → reverse finds ≡ topmost m gs → IsCause D (Do Select) gs c) → IfSome r (IsCause C t fs)
unlike_some C t fs finds n r s k h =
    subst (λ z. IfSome r (IsCause C z fs)) (sym s) (some_more (λ c. (D : Context) (gs : List Frame) (m : ℕ) → reverse finds ≡ topmost m gs → IsCause D (Do Select) gs c) (IsCause C (Do Select) fs) r (λ x p. p C fs n k) h)

-- the second and the third operand that are found
pub second_at : (n : ℕ) (fs : List Frame) (xs : List (Option ValType)) (k : ℕ) (u : ValType) → xs ≡ topmost n fs → slice_get xs k ≡ Some (Some u) → operand_at fs k ≡ Some (Some u)
second_at n fs xs k u e h = found_at n k u fs (ap (λ z. slice_get z k) (sym e) ∙ h)
