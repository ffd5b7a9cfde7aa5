-- The type of a constant expression that is computed is the one that it has.
use Rattle.std.proofs.Common.{◌≡◌, ◌↔◌, ℕ, List, [], ◌∷◌, Option, Some, None, Bool, true, false, IsTrue, if◌then◌else◌, option_and_then, slice_get, refl, sym, ap, ◌∙◌}
use Rattle.wsyntax.specs.Instructions.{Token as Shown, Do, End as Last, Const, GlobalGet as Get}
use Rattle.wnum.specs.Arithmetic.{unsigned}
use Rattle.wsyntax.specs.Table.{little_endian}
use Rattle.wsyntax.specs.Initials.{has_constant_form, tokens_read}
use Rattle.wsyntax.specs.Modules.{decoded_as, constant_instruction, initial_tokens}
use Rattle.wsyntax.specs.declared.module.ConstExpr.{ConstExpr}
use Rattle.wsyntax.specs.declared.module.ConstExpr.TheVariants as initial
use Rattle.wsyntax.specs.Validation.Rules.{ConstantOf, one_const, one_get}
use Rattle.wsyntax.specs.declared.GlobalType.{GlobalType}
use Rattle.wsyntax.specs.declared.ValType.{ValType}
use Rattle.wsyntax.specs.declared.ValType.TheVariants.{I32, I64, F32, F64}
use Rattle.wsyntax.specs.declared.Token.{Token}
use Rattle.wsyntax.specs.declared.Token.TheVariants.{I32Const, I64Const, F32Const, F64Const, GlobalGet}
use Rattle.wcontext.specs.Constants.{immutable_type, constant_type, constant_of}

-- What is computed is so.

immutable_is : (u t : ValType) (m : Bool) → (if m then None else Some u) ≡ Some t → let g : GlobalType = record { val_type = u; mutable = m } in g ≡ record { val_type = t; mutable = false }
immutable_is u t true e = cc
immutable_is u t false e = let same : u ≡ t = cc in ap (λ v. let g : GlobalType = record { val_type = v; mutable = false } in g) same

-- a global.get of an immutable global
global_is : (o : Option GlobalType) (t : ValType) → option_and_then immutable_type o ≡ Some t → o ≡ Some record { val_type = t; mutable = false }
global_is None t e = cc
global_is (Some g) t e = ap Some (immutable_is g.val_type t g.mutable e)

const_holds : (globals : List GlobalType) (u t : ValType) (n : ℕ) → u ≡ t → ConstantOf globals t (Do (Const u n) ∷ Last ∷ [])
const_holds globals u t n same = rw same (one_const n)

one_holds : (globals : List GlobalType) (t : ValType) (targets : List ℕ) (i : Token) → constant_type globals i ≡ Some t → ConstantOf globals t (decoded_as targets i ∷ Last ∷ [])
one_holds globals t targets (I32Const n) e = const_holds globals I32 t (unsigned 32 n) (cc)
one_holds globals t targets (I64Const n) e = const_holds globals I64 t (unsigned 64 n) (cc)
one_holds globals t targets (F32Const n) e = const_holds globals F32 t (little_endian n) (cc)
one_holds globals t targets (F64Const n) e = const_holds globals F64 t (little_endian n) (cc)
one_holds globals t targets (GlobalGet x) e = one_get x (global_is (slice_get globals x) t e)
one_holds globals t targets _ e = cc

pub constant_holds : (globals : List GlobalType) (t : ValType) (e : ConstExpr) → constant_of globals e ≡ Some t → ConstantOf globals t (initial_tokens e)
constant_holds globals t (initial.I32Const n) is = one_holds globals t [] (I32Const n) is
constant_holds globals t (initial.I64Const n) is = one_holds globals t [] (I64Const n) is
constant_holds globals t (initial.F32Const n) is = one_holds globals t [] (F32Const n) is
constant_holds globals t (initial.F64Const n) is = one_holds globals t [] (F64Const n) is
constant_holds globals t (initial.GlobalGet x) is = one_holds globals t [] (GlobalGet x) is
constant_holds globals t (initial.Other e) is = cc

-- What is so is computed.

-- a constant expression has the form of one
has_form : (globals : List GlobalType) (t : ValType) (tokens : List Shown) → ConstantOf globals t tokens → has_constant_form tokens ≡ true
has_form globals t _ (one_const n) = refl
has_form globals t _ (one_get x there) = refl

const_of : (globals : List GlobalType) (t : ValType) (n : ℕ) (i : Token) → decoded_as [] i ≡ Do (Const t n) → constant_type globals i ≡ Some t
const_of globals t n (I32Const m) e = cc
const_of globals t n (I64Const m) e = cc
const_of globals t n (F32Const m) e = cc
const_of globals t n (F64Const m) e = cc
const_of globals t n _ e = cc

get_of : (x : ℕ) (i : Token) → decoded_as [] i ≡ Do (Get x) → i ≡ GlobalGet x
get_of x (GlobalGet y) e = cc
get_of x _ e = cc

one_known : (globals : List GlobalType) (t : ValType) (i : Token) (tokens : List Shown) → ConstantOf globals t tokens → decoded_as [] i ∷ Last ∷ [] ≡ tokens → constant_type globals i ≡ Some t
one_known globals t i _ (one_const n) e = const_of globals t n i cc
one_known globals t i _ (one_get x is) e = rw (get_of x i cc, is) refl

pub constant_known : (globals : List GlobalType) (t : ValType) (e : ConstExpr) → ConstantOf globals t (initial_tokens e) → constant_of globals e ≡ Some t
constant_known globals t (initial.I32Const n) is = one_known globals t (I32Const n) _ is refl
constant_known globals t (initial.I64Const n) is = one_known globals t (I64Const n) _ is refl
constant_known globals t (initial.F32Const n) is = one_known globals t (F32Const n) _ is refl
constant_known globals t (initial.F64Const n) is = one_known globals t (F64Const n) _ is refl
constant_known globals t (initial.GlobalGet x) is = one_known globals t (GlobalGet x) _ is refl
constant_known globals t (initial.Other e) is = cc (has_form globals t (tokens_read e.bytes.now) is, e.other)

-- What the instruction leaves.

pub leaves_constant : (globals : List GlobalType) (t : ValType) (e : ConstExpr) (one : Option Token) (b : Bool) → one ≡ constant_instruction e
    → (IsTrue b ↔ (option_and_then (constant_type globals) one ≡ Some t)) → IsTrue b ↔ ConstantOf globals t (initial_tokens e)
leaves_constant globals t e one b is test =
    let same : option_and_then (constant_type globals) one ≡ constant_of globals e = ap (option_and_then (constant_type globals)) is in
    (λ h. constant_holds globals t e (sym same ∙ test.0 h), λ k. test.1 (same ∙ constant_known globals t e k))
