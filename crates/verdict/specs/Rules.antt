-- What is known of a module that keeps all rules, before its bodies are judged.
use Rattle.std.specs.Prelude.{◌≡◌, ℕ, List}
use Rattle.wsyntax.specs.declared.module.Module.{Module}
use Rattle.wsyntax.specs.Modules.{module_shape}
use Rattle.wsyntax.specs.Validation.ModuleContext.{IndexedContext, indexed_context}
use Rattle.soundness.specs.Instances.{SegmentsAreBytes}
use Rattle.verdict.specs.Heads.{Known}

-- 3.4 the bytes spell it, it keeps all rules, and this is the context of its bodies; what its data segments hold are bytes
pub record KeepsRules (bytes : List ℕ) (m : Module) (x : IndexedContext) : Type 0 where
  pub known : Known bytes (module_shape m)
  pub context : x ≡ indexed_context (module_shape m)
  pub filled : SegmentsAreBytes (module_shape m)
