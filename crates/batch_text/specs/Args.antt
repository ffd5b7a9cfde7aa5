-- The arguments of a call.
use Rattle.std.specs.Prelude.{List, []}
use Rattle.wsyntax.specs.declared.value.Value.{Value}
use Rattle.batch_text.specs.declared.args.Args.{Args}
use Rattle.batch_text.specs.declared.args.Args.TheVariants.{Empty, One, Two, More}

-- all of them in their order
abbrev pub args_of : Args → List Value
args_of Empty = []
args_of (One one) = one
args_of (Two two) = two
args_of (More more) = more.items
