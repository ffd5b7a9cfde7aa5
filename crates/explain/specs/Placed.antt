-- What an explanation says of a refused body, or of an item that breaks a rule, is so of the module that the bytes spell.
use Rattle.std.specs.Prelude.{◌≡◌, ◌+◌, ℕ, List, Option, Some, None, IfSome, slice_get, length}
use Rattle.std.specs.List.{between}
use Rattle.wsyntax.specs.declared.module.LocalRun.{LocalRun}
use Rattle.wsyntax.specs.Modules.{ModuleShape}
use Rattle.wsyntax.specs.Binary.Sections.{locals, locals_of}
use Rattle.wsyntax.specs.Binary.Shell.{Shell}
use Rattle.wsyntax.specs.Validation.Context.{Context}
use Rattle.wsyntax.specs.Validation.ModuleContext.{module_context, imported_functions}
use Rattle.explanation.specs.declared.explanation.Span.{Span}
use Rattle.explanation.specs.declared.explanation.BodyExplanation.{BodyExplanation}
use Rattle.explanation.specs.declared.explanation.BodyExplanation.TheVariants.{Malformed, TooManyLocals, IllTyped}
use Rattle.explanation.specs.declared.explanation.IllTypedToken.{IllTypedToken}
use Rattle.explanation.specs.declared.explanation.StopLocation.{StopLocation}
use Rattle.explanation.specs.declared.explanation.Stopped.TheVariants as stopped
use Rattle.explanation.specs.declared.typing.OpenBlocks.{OpenBlocks}
use Rattle.explanation.specs.declared.explanation.RefusedFunction.{RefusedFunction}
use Rattle.explanation.specs.declared.explanation.Explanation.{Explanation}
use Rattle.explanation.specs.declared.explanation.Explanation.TheVariants as told
use Rattle.explanation.specs.Functions.{first_name, type_told}
use Rattle.explain.specs.Headers.{TellsHeader}
use Rattle.explain_bytes.specs.Locations.{IsStopOf, IsTokenAt}
use Rattle.explain_bytes.specs.Shells.{IsBodyAt}
use Rattle.explain_typing.specs.Typed.{AreOpenAfter, IsTypingOf}
use Rattle.explain_typing.specs.Causes.{IsCauseOf}
use Rattle.explain_rules.specs.Rules.{Breaks}

-- ---- the body

-- 2.5.1 in the span stands the body of the function of that index, byte by byte: the imported ones come first
abbrev pub IsBodyOf : List ℕ → ℕ → List (List ℕ) → ℕ → Span → Type 0
IsBodyOf bytes imported bodies f s =
    (position : ℕ) × (f ≡ imported + position) × (slice_get bodies position ≡ Some (between s.from s.to bytes)) × IsBodyAt bytes position s

-- 5.5.13 a body declares `count` locals
abbrev pub Declares : List ℕ → ℕ → Type 0
Declares body count = (runs : List LocalRun) × (code : List ℕ) × (locals.read body ≡ Some (runs, code)) × (count ≡ locals_of runs)

-- of a token of the body that is ill typed
abbrev pub TellsToken : Context → ℕ → List ℕ → ℕ → IllTypedToken → Type 0
TellsToken C f body start t =
    IsTokenAt body start t.position t.found × IsTypingOf C f body start t.position t.typing × IfSome t.cause (IsCauseOf C f body t.position)

-- the blocks that are open where reading the body stopped
abbrev pub TellsOpen : List ℕ → ℕ → Option StopLocation → OpenBlocks → Type 0
TellsOpen body start None blocks = ⊥
TellsOpen body start (Some s) blocks = (s.why ≡ stopped.Short) × AreOpenAfter body start s.tokens blocks

-- the locations that a fault tells are those of the body of function f, which begins at offset `start`
abbrev pub TellsLocations : Context → ℕ → List ℕ → ℕ → BodyExplanation → Type 0
TellsLocations C f body start (Malformed stop unclosed before) =
    IfSome stop (IsStopOf body start) × IfSome unclosed (TellsOpen body start stop) × IfSome before (TellsToken C f body start)
TellsLocations C f body start (TooManyLocals count) = IfSome count (Declares body)
TellsLocations C f body start (IllTyped position found typing cause) =
    IfSome found (IsTokenAt body start position) × IfSome typing (IsTypingOf C f body start position) × IfSome cause (IsCauseOf C f body position)

-- it tells none
abbrev pub TellsNoLocations : BodyExplanation → Type 0
TellsNoLocations (Malformed stop unclosed before) = (stop ≡ None) × (unclosed ≡ None) × (before ≡ None)
TellsNoLocations (TooManyLocals count) = count ≡ None
TellsNoLocations (IllTyped position found typing cause) = (found ≡ None) × (typing ≡ None) × (cause ≡ None)

-- the body of the function stands in the span; without a span no location is told
abbrev pub TellsBody : List ℕ → Context → ℕ → List (List ℕ) → ℕ → Option Span → BodyExplanation → Type 0
TellsBody bytes C imported bodies f None fault = TellsNoLocations fault
TellsBody bytes C imported bodies f (Some s) fault =
    IsBodyOf bytes imported bodies f s × TellsLocations C f (between s.from s.to bytes) s.from fault

-- no more is told than the verdict
pub record KnowsNothing (r : RefusedFunction) : Type 0 where
  pub «export» : r.«export» ≡ None
  pub signature : r.signature ≡ None
  pub span : r.span ≡ None
  pub locations : TellsNoLocations r.fault

-- what is told of the function and its body is so in that module, which the bytes spell
pub record IsSoIn (bytes : List ℕ) (m : ModuleShape) (r : RefusedFunction) : Type 0 where
  pub «export» : IfSome r.«export» (λ name. first_name r.func m.exports ≡ Some name.now)
  pub signature : IfSome r.signature (λ s. slice_get (module_context m).functions r.func ≡ Some (type_told s))
  pub body : TellsBody bytes (module_context m) (length (imported_functions m)) m.bodies r.func r.span r.fault

-- it is so in each module that the bytes spell
abbrev pub IsSo : List ℕ → RefusedFunction → Type 0
IsSo bytes r = (m : ModuleShape) → Shell bytes m → IsSoIn bytes m r

-- what is told beside the verdict is so
abbrev pub AreSo : List ℕ → Explanation → Type 0
AreSo bytes (told.TooLarge n) = n ≡ length bytes
AreSo bytes (told.Malformed what) = TellsHeader bytes what
AreSo bytes (told.Rule rule item sign) = IfSome item (Breaks bytes rule)
AreSo bytes (told.Body r) = IsSo bytes r
AreSo bytes _ = Unit {0}
