-- The verdict on a module: what its first refusal is, in the order of judging: size, grammar, module rules, bodies.
use Rattle.std.specs.Prelude.{◌≡◌, ℕ, ◌+◌, ◌<◌, ◌≤◌, List, Some, length, slice_get}
use Rattle.wsyntax.specs.Instructions.{Code, flat_body}
use Rattle.wsyntax.specs.Modules.{ModuleShape, BodyShape}
use Rattle.wsyntax.specs.Binary.Shell.{Shell, SpellsBody, FewLocals, module_limit, local_limit}
use Rattle.wsyntax.specs.Binary.Sections.{locals_of}
use Rattle.wsyntax.specs.Validation.Context.{Stack, Context, leave}
use Rattle.wsyntax.specs.Validation.Typing.{BodyTyped}
use Rattle.wsyntax.specs.Validation.FirstFault.{FirstFault}
use Rattle.wsyntax.specs.Validation.ModuleContext.{imported_functions, module_context, function_context, type_at}
use Rattle.wsyntax.specs.Validation.Rules.{LeastBroken, NoneBroken}

-- why a body is refused: its bytes spell none; it declares too many locals; it is ill typed, at its first fault
pub data BodyFault : Type 0 where
  BodyMalformed TooManyLocals : BodyFault
  IllTyped : ℕ → BodyFault

-- accepted, or the first refusal: a module rule by its number, a body by the index of its function, imported ones counted
pub data Verdict : Type 0 where
  Accepted TooLarge Malformed : Verdict
  RuleBroken : ℕ → Verdict
  BodyRefused : ℕ → BodyFault → Verdict

-- One body.

-- 3.4.1 what the function of that index leaves
abbrev pub result_of : Context → ℕ → Stack
result_of C f = leave (type_at C.functions f)

-- 3.4.1 the bytes of the function of that index spell a body within the limit, which is well typed
pub record IsAccepted (C : Context) (f : ℕ) (bytes : List ℕ) : Type 0 where
  pub body : BodyShape
  pub code : Code
  pub spelled : SpellsBody bytes body
  pub few : FewLocals body
  pub tree : flat_body code ≡ body.code
  pub typed : BodyTyped (function_context C f body.runs) (result_of C f) code

-- they spell a body within the limit that is ill typed from this token on
pub record IsIllTyped (C : Context) (f : ℕ) (bytes : List ℕ) (at : ℕ) : Type 0 where
  pub body : BodyShape
  pub code : Code
  pub spelled : SpellsBody bytes body
  pub few : FewLocals body
  pub tree : flat_body code ≡ body.code
  pub fault : FirstFault (function_context C f body.runs) (result_of C f) code at

-- the body is refused for this: malformed goes before too many locals, and that before ill typed
abbrev pub IsRefused : Context → ℕ → List ℕ → BodyFault → Type 0
IsRefused C f bytes BodyMalformed = (body : BodyShape) → SpellsBody bytes body → ⊥
IsRefused C f bytes TooManyLocals = (body : BodyShape) × SpellsBody bytes body × (local_limit < locals_of body.runs)
IsRefused C f bytes (IllTyped at) = IsIllTyped C f bytes at

-- All bodies.

-- 2.5.1 the index of the function whose body stands at that position: imported ones come first
abbrev pub function_at : ModuleShape → ℕ → ℕ
function_at m position = length (imported_functions m) + position

-- each body before that position is accepted
abbrev pub AcceptedBefore : ModuleShape → ℕ → Type 0
AcceptedBefore m position = (k : ℕ) (bytes : List ℕ) → k < position → slice_get m.bodies k ≡ Some bytes → IsAccepted (module_context m) (function_at m k) bytes

-- the first body that is refused is that of function f
pub record FirstRefused (m : ModuleShape) (f : ℕ) (fault : BodyFault) : Type 0 where
  pub position : ℕ
  pub bytes : List ℕ
  pub stands : slice_get m.bodies position ≡ Some bytes
  pub index : f ≡ function_at m position
  pub refused : IsRefused (module_context m) f bytes fault
  pub before : AcceptedBefore m position

-- The module.

-- the bytes are within the limit and spell this module, the insides of bodies aside
pub record IsModule (bytes : List ℕ) (m : ModuleShape) : Type 0 where
  pub small : length bytes ≤ module_limit
  pub shell : Shell bytes m

-- the verdict on these bytes, the first that holds: too large, malformed, a rule, a body, accepted
unfoldable pub IsVerdict : List ℕ → Verdict → Type 0
IsVerdict bytes TooLarge = module_limit < length bytes
IsVerdict bytes Malformed = (length bytes ≤ module_limit) × ((m : ModuleShape) → Shell bytes m → ⊥)
IsVerdict bytes (RuleBroken k) = (m : ModuleShape) × IsModule bytes m × LeastBroken m k
IsVerdict bytes (BodyRefused f fault) = (m : ModuleShape) × IsModule bytes m × NoneBroken m × FirstRefused m f fault
IsVerdict bytes Accepted = (m : ModuleShape) × IsModule bytes m × NoneBroken m × AcceptedBefore m (length m.bodies)
