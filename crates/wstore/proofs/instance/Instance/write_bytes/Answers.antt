use Rattle.std.proofs.Math.Logic.{∥∥₁_map}
use Rattle.wsyntax.specs.Modules.{module_shape}
use Rattle.wsyntax.specs.Validation.ModuleContext.{module_context}
use Rattle.interpreter.specs.Seen.{seen}
use Rattle.wstore.proofs.Held.{other_memory}
use Rattle.wstore.proofs.instance.Instance.write_bytes.Goals as goal

pub invariant_of-self-2 : goal.invariant_of-self-2
invariant_of-self-2 c = record {
  held = ∥∥₁_map c.args.self.now.held (λ h. other_memory (module_context (module_shape c.args.self.now.accepted.now.module)) (seen c.args.self.now.parts) c.copy_in.new.memory.memory c.typed.ensures.typed h);
  runnable = c.args.self.now.runnable;
}
