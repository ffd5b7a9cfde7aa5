-- What a checker knows between two tokens.
use Rattle.std.specs.Prelude.{ℕ, List}
use Rattle.wsyntax.specs.declared.LocalRun.{LocalRun}
use Rattle.wsyntax.specs.Validation.Context.{Context, body_context}
use Rattle.wsyntax.specs.Validation.ModuleContext.{function_context}
use Rattle.wsyntax.specs.Validation.Algorithm.{Frame, start}
pub use Rattle.wsyntax.specs.Validation.Verdict.{result_of}

pub record Checking : Type 0 where
  -- the context of the module
  pub outside : Context
  -- the context of the body at hand, its labels aside
  pub inside : Context
  -- the open frames, the innermost first: none after the end of the body
  pub frames : List Frame

-- at the beginning of the body of function f, whose declared locals are these
abbrev pub begun : Context → ℕ → List LocalRun → Checking
begun C f runs = record {
  outside = C;
  inside = body_context (result_of C f) (function_context C f runs);
  frames = start (result_of C f);
}

-- the same body, with other frames
abbrev pub with_frames : Checking → List Frame → Checking
with_frames c fs = record c { frames = fs }
