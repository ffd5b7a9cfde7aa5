-- What the pass over a body comes to, in the code.
use Rattle.std.specs.Prelude.{◌≡◌, ◌<◌, ◌^◌, ℕ, Bool, length}
use Rattle.wsyntax.specs.declared.Body.{Body}
use Rattle.wsyntax.specs.declared.module.Expression.{Expression}
use Rattle.wsyntax.specs.Modules.{BodyShape, tokens_of, body_shape}
use Rattle.wsyntax.specs.Execution.Start.{body_has_floats}
use Rattle.wsyntax.specs.Validation.Context.{Stack, Context}
use Rattle.wsyntax.specs.Validation.ModuleContext.{function_context}
use Rattle.wcheck.specs.declared.body.BodyPass.{BodyPass}
use Rattle.wcheck.specs.declared.body.BodyPass.TheVariants as outcome
use Rattle.side_table.specs.Pass.{Building, Through, Refused, pass_all}
use Rattle.wcheck.specs.Checking.{result_of}
use Rattle.side_table.specs.Written.{AllSuit}

-- the pass comes to this, and each token can hold its entry
abbrev pub IsOutcomeOf : Context → Stack → Expression → BodyPass → Type 0
IsOutcomeOf C r code (outcome.Passes built floats) =
    (pass_all C r (tokens_of code) ≡ Through built.notes) × AllSuit code.tokens.items built.notes.entries × (length code.tokens.items < 2 ^ 31)
IsOutcomeOf C r code (outcome.Refused k) = pass_all C r (tokens_of code) ≡ Refused k

-- of a body that passes it is known whether it has floats
abbrev pub ReportsFloats : BodyShape → BodyPass → Type 0
ReportsFloats b (outcome.Passes built floats) = floats ≡ body_has_floats b
ReportsFloats b (outcome.Refused k) = Unit {0}

-- the body of function f passes, this was written down of it, each token can hold its entry, and it is known whether it has floats
pub record HasPassed (C : Context) (f : ℕ) (b : Body) (built : Building) (floats : Bool) : Type 0 where
  pub passes : pass_all (function_context C f b.runs.items) (result_of C f) (tokens_of b.code) ≡ Through built.notes
  pub suit : AllSuit b.code.tokens.items built.notes.entries
  pub few : length b.code.tokens.items < 2 ^ 31
  pub recorded : floats ≡ body_has_floats (body_shape b)
