-- Where the typing of a body first fails. The standard has no such word: it calls a body valid or not.
use Rattle.std.specs.Prelude.{◌≡◌, ℕ, ◌+◌, ◌<◌, List, ◌++◌, take}
use Rattle.wsyntax.specs.Instructions.{Code, Token, flat_body}
use Rattle.wsyntax.specs.Validation.Context.{Stack, Context}
use Rattle.wsyntax.specs.Validation.Typing.{BodyTyped}

-- some typed body, of any size, with the results r and under the locals of C, begins with these tokens
abbrev pub CanBeTyped : Context → Stack → List Token → Type 0
CanBeTyped C r front = (body : Code) × (rest : List Token) × (flat_body body ≡ front ++ rest) × BodyTyped C r body

-- k is the least number such that no typed body begins with the body's first k + 1 tokens
pub record FirstFault (C : Context) (r : Stack) (body : Code) (k : ℕ) : Type 0 where
  pub lost : CanBeTyped C r (take (k + 1) (flat_body body)) → ⊥
  pub before : (j : ℕ) → j < k → CanBeTyped C r (take (j + 1) (flat_body body))
