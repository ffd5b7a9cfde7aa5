-- What the check of a body leaves as it was.
use Rattle.std.specs.Prelude.{◌≡◌, map}
use Rattle.wsyntax.specs.declared.Body.{Body}
use Rattle.wsyntax.specs.Modules.{unresolved}

-- nothing of the body changes but where its tokens go on
pub record KeepsBody (old new : Body) : Type 0 where
  pub runs : new.runs ≡ old.runs
  pub targets : new.code.targets ≡ old.code.targets
  pub tokens : map unresolved new.code.tokens.items ≡ map unresolved old.code.tokens.items
