-- 2.3.3 Lists of value types, by the positions where a module writes them.
use Rattle.std.specs.Prelude.{◌≡◌, List, [], ◌∷◌, ◌++◌, take}
use Rattle.wsyntax.specs.Types.{FuncType}
use Rattle.wsyntax.specs.declared.ValType.{ValType}
use Rattle.wsyntax.specs.Validation.ModuleContext.{type_at}
use Rattle.wcontext.specs.declared.lists.TypeList.{TypeList}
use Rattle.wcontext.specs.declared.lists.TypeList.TheVariants.{Nothing, One, Params, Results}
use Rattle.wcontext.specs.declared.lists.ListPair.{ListPair}
use Rattle.wcontext.specs.declared.lists.TypePrefix.{TypePrefix}

-- the list at a position, where these are the function types
abbrev pub list_of : List FuncType → TypeList → List ValType
list_of types Nothing = []
list_of types (One t) = t ∷ []
list_of types (Params y) = (type_at types y).params
list_of types (Results y) = (type_at types y).results

-- the first types of a list, as many as the prefix has
abbrev pub prefix_of : List FuncType → TypePrefix → List ValType
prefix_of types f = take f.count (list_of types f.list)

-- one list of types is a suffix of another
abbrev pub IsSuffix : List ValType → List ValType → Type 0
IsSuffix short long = (rest : List ValType) × (long ≡ rest ++ short)

-- the function type of two lists
abbrev pub pair_type : List FuncType → ListPair → FuncType
pair_type types p = record { params = list_of types p.params; results = list_of types p.results }
