-- Where tokens stand among the bytes of a body, and where reading a body stops.
use Rattle.std.specs.Prelude.{◌≡◌, ◌≢◌, ◌⊎◌, ℕ, zero, suc, ◌+◌, ◌-◌, Bool, List, [], ◌∷◌, length, Option, Some, None}
use Rattle.wsyntax.specs.declared.module.LocalRun.{LocalRun}
use Rattle.wsyntax.specs.Instructions.{Token}
use Rattle.wsyntax.specs.Modules.{decoded_as}
use Rattle.wsyntax.specs.Binary.Nesting.{nest, token_at}
use Rattle.wsyntax.specs.Binary.Sections.{locals}
use Rattle.wsyntax.specs.Validation.Algorithm.{on}
use Rattle.wdecode.specs.Gives.{rest_of}
use Rattle.explanation.specs.declared.explanation.FoundToken.{FoundToken}
use Rattle.explanation.specs.declared.explanation.StopLocation.{StopLocation}
use Rattle.explanation.specs.declared.explanation.Stopped.{Stopped}
use Rattle.explanation.specs.declared.explanation.Stopped.TheVariants as stopped
use Rattle.explain_bytes.specs.declared.stops.Halt.{Halt}
use Rattle.explain_bytes.specs.declared.stops.Further.{Further}
use Rattle.explain_bytes.specs.declared.stops.Further.TheVariants.{After, Closed, Never}

-- what is left of the bytes after one token
abbrev pub after_one : Option (List ℕ) → Option (List ℕ)
after_one None = None
after_one (Some bytes) = rest_of (token_at bytes)

-- after `n` tokens
abbrev pub left_after : ℕ → List ℕ → Option (List ℕ)
left_after zero bytes = Some bytes
left_after (suc n) bytes = after_one (left_after n bytes)

-- 5.5.13 after its locals and `position` tokens these bytes of the body are left
abbrev pub IsLeft : List ℕ → ℕ → List ℕ → Type 0
IsLeft body position left = (runs : List LocalRun) × (code : List ℕ) × (locals.read body ≡ Some (runs, code)) × (left_after position code ≡ Some left)

-- the body begins at offset `start`, and the bytes `before`, which are left of it, begin with this token, up to the byte after its last
pub record IsFirstOf (body : List ℕ) (start : ℕ) (before : List ℕ) (f : FoundToken) : Type 0 where
  pub after : List ℕ
  pub opcode : (tail : List ℕ) × (before ≡ f.opcode ∷ tail)
  pub token : token_at before ≡ Some (decoded_as f.targets.items f.token, after)
  pub from : f.span.from ≡ start + (length body - length before)
  pub to : f.span.to ≡ start + (length body - length after)

-- after its locals and `position` tokens comes this one
abbrev pub IsTokenAt : List ℕ → ℕ → ℕ → FoundToken → Type 0
IsTokenAt body start position f = (before : List ℕ) × IsLeft body position before × IsFirstOf body start before f

-- 5.4.1 what is open after one token more: None where it cannot stand there, Some None where it closes the expression
abbrev pub nested_next : Option (Token × List ℕ) → Option (List Bool) → Option (Option (List Bool))
nested_next None now = None
nested_next (Some t) None = None
nested_next (Some t) (Some inner) = nest inner t.0

-- the same after the one at the front of what is left
abbrev pub nested_on : Option (List ℕ) → Option (List Bool) → Option (Option (List Bool))
nested_on None now = None
nested_on (Some bytes) now = nested_next (token_at bytes) now

-- 5.4.1 what is open after `n` tokens of an expression, the innermost block first, each with whether its else may still come
abbrev pub nested_after : ℕ → List ℕ → Option (Option (List Bool))
nested_after zero code = Some (Some [])
nested_after (suc n) code = on (nested_after n code) (nested_on (left_after n code))

-- why reading goes no further than these bytes, where that is open
abbrev pub CannotGoOn : Option (Option (List Bool)) → Stopped → List ℕ → Type 0
CannotGoOn now stopped.Locals rest = ⊥
CannotGoOn now stopped.Token rest = (token_at rest ≡ None) × (inner : List Bool) × (now ≡ Some (Some inner))
CannotGoOn now stopped.Else rest = (t : Token) × (after : List ℕ) × (token_at rest ≡ Some (t, after)) × (inner : List Bool) × (now ≡ Some (Some inner)) × (nest inner t ≡ None)
CannotGoOn now stopped.Left rest = (rest ≢ []) × (now ≡ Some None)
CannotGoOn now stopped.Short rest = (rest ≡ []) × (inner : List Bool) × (now ≡ Some (Some inner))

-- reading the bytes after the locals stops after this number of tokens, before the bytes `rest`, for the reason `why`
abbrev pub Halts : List ℕ → ℕ → Stopped → List ℕ → Type 0
Halts code tokens why rest = (left_after tokens code ≡ Some rest) × CannotGoOn (nested_after tokens code) why rest

-- reading the body stops there, for that reason: after its locals and `s.tokens` tokens, or at its locals
abbrev pub HaltsIn : List ℕ → StopLocation → Type 0
HaltsIn body s = ((runs : List LocalRun) × (code : List ℕ) × (locals.read body ≡ Some (runs, code)) × Halts code s.tokens s.why s.rest.now)
    ⊎ ((locals.read body ≡ None) × (s.why ≡ stopped.Locals) × (s.tokens ≡ 0) × (s.rest.now ≡ body))

-- the same of a body that begins at offset `start`
pub record IsStopOf (body : List ℕ) (start : ℕ) (s : StopLocation) : Type 0 where
  pub halts : HaltsIn body s
  pub at : s.at ≡ start + (length body - length s.rest.now)

-- the same of the bytes after the locals
abbrev pub IsHaltIn : List ℕ → Halt → Type 0
IsHaltIn code h = Halts code h.tokens h.why h.rest.now

-- a token stands there, and what was open is then that
abbrev pub Enters : List ℕ → List ℕ → List Bool → Option (List Bool) → Type 0
Enters rest after inner now = (t : Token) × (token_at rest ≡ Some (t, after)) × (nest inner t ≡ Some now)

-- one token further, where that is open before and after; or why there is none
abbrev pub GoesFurther : List ℕ → List Bool → List Bool → Further → Type 0
GoesFurther rest inner now (After after) = Enters rest after.now inner (Some now)
GoesFurther rest inner now (Closed after) = Enters rest after.now inner None
GoesFurther rest inner now (Never why) = CannotGoOn (Some (Some inner)) why rest
