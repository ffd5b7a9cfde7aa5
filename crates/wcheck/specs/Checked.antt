-- A checker's fields, and what they stand for.
use Rattle.std.specs.Prelude.{◌≡◌}
use Rattle.wcheck.specs.declared.checker.Checker.TheInside.{Inside}
use Rattle.wcheck.specs.Checking.{Checking}
use Rattle.wcheck.specs.Views.{scope_context}
use Rattle.wcheck.specs.Frames.{frames_of, IsTight}

abbrev pub checking_of : Inside → Checking
checking_of c = record {
  outside = c.scope.context.now.context;
  inside = scope_context c.scope;
  frames = frames_of c.control;
}

-- nothing lies under the outermost frame, and the lists of the frames are of the context's types
pub record IsWhole (c : Inside) : Type 0 where
  pub tight : IsTight c.control
  pub types : c.control.operands.types ≡ c.scope.context.now.context.types
