-- What the algorithm's rule of an instruction says of its typing.
use Rattle.std.specs.Prelude.{◌≡◌, [], ◌∷◌, ◌++◌, Some}
use Rattle.wsyntax.specs.declared.types.ValType.{ValType}
use Rattle.wsyntax.specs.declared.types.ValType.TheVariants.{I32}
use Rattle.wsyntax.specs.Instructions.{Op}
use Rattle.wsyntax.specs.Validation.Context.{Stack, Context}
use Rattle.wsyntax.specs.Validation.Typing.{OpTyped}
use Rattle.wsyntax.specs.Validation.Algorithm.{Takes, Ends, Drops, Selects, rule}

-- an instruction that has a rule is typed as the rule says
pub record RuleBack : Type 0 where
  pub takes : (C : Context) (i : Op) (p q : Stack) → rule C i ≡ Some (Takes p q) → OpTyped C i p q
  pub ends : (C : Context) (i : Op) (p : Stack) → rule C i ≡ Some (Ends p) → (c z : Stack) → OpTyped C i (p ++ c) z
  pub drops : (C : Context) (i : Op) → rule C i ≡ Some Drops → (t : ValType) → OpTyped C i (t ∷ []) []
  pub selects : (C : Context) (i : Op) → rule C i ≡ Some Selects → (t : ValType) → OpTyped C i (I32 ∷ t ∷ t ∷ []) (t ∷ [])

-- two contexts that say the same
pub record SameFields (C D : Context) : Type 0 where
  pub types : C.types ≡ D.types
  pub functions : C.functions ≡ D.functions
  pub has_table : C.has_table ≡ D.has_table
  pub has_memory : C.has_memory ≡ D.has_memory
  pub globals : C.globals ≡ D.globals
  pub locals : C.locals ≡ D.locals
  pub labels : C.labels ≡ D.labels
  pub return : C.return ≡ D.return

-- rules are the same under contexts that say the same, and so is typing
pub record SameRules : Type 0 where
  pub same_rule : (C D : Context) (i : Op) → SameFields C D → rule C i ≡ rule D i
  pub same_typing : (C D : Context) (i : Op) (a b : Stack) → SameFields C D → OpTyped C i a b → OpTyped D i a b
