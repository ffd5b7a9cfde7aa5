-- What callers see of a context.
use Rattle.std.specs.Prelude.{◌<◌, ◌≤◌, [], None, length, map, IfSome}
use Rattle.std.specs.List.{All}
use Rattle.wsyntax.specs.Validation.ModuleContext.{IndexedContext, type_at}
use Rattle.wcontext.specs.SuffixTree.{IsSuffixTree}
use Rattle.wcontext.specs.declared.context.Context.TheInside.{Inside}

-- what callers see
abbrev pub indexed : Inside → IndexedContext
indexed a = record {
  context = record {
    types = a.types;
    functions = map (type_at a.types) a.functions.items;
    has_table = a.has_table;
    has_memory = a.has_memory;
    globals = a.globals.items;
    locals = [];
    labels = [];
    return = None;
  };
  function_types = a.functions.items;
  imported = a.imported;
}

-- the tree is one of the types, each function has a type, the imported ones are among them
pub record IsHeld (a : Inside) : Type 0 where
  pub ends : IfSome a.ends (IsSuffixTree a.types)
  pub typed : All (λ y. y < length a.types) a.functions.items
  pub imported : a.imported ≤ length a.functions.items
