-- 5.4.6 The expressions of first values and offsets that are no constants, which are held as the bytes that spell them.
use Rattle.std.specs.Prelude.{ℕ, Bool, true, false, List, [], ◌∷◌, Option, Some, None}
use Rattle.wsyntax.specs.Instructions.{Token, Do, End, Const, GlobalGet}
use Rattle.wsyntax.specs.Binary.Nesting.{expression}

-- the tokens that were read; none where nothing was
abbrev pub tokens_in : Option (List Token × List ℕ) → List Token
tokens_in (Some x) = x.0
tokens_in None = []

-- 2.5.6 to 2.5.8 the tokens of the expression at the front of the bytes
abbrev pub tokens_read : List ℕ → List Token
tokens_read bytes = tokens_in (expression.read bytes)

-- a t.const, or a global.get
abbrev pub is_const_or_get : Token → Bool
is_const_or_get (Do (Const t n)) = true
is_const_or_get (Do (GlobalGet x)) = true
is_const_or_get _ = false

-- 3.3.7.2 whether the tokens are a t.const or a global.get, and an end
abbrev pub has_constant_form : List Token → Bool
has_constant_form (t ∷ End ∷ []) = is_const_or_get t
has_constant_form _ = false
