-- Typed code without floats: over a larger stack, and one after another.
use Rattle.std.proofs.Common.{◌≡◌, ◌++◌, refl, subst}
use Rattle.wsyntax.specs.Instructions.{Code, Stop, Plain, Block, Loop, If, IfElse, follow}
use Rattle.wsyntax.specs.Validation.Context.{Stack, Context}
use Rattle.wsyntax.specs.Execution.ConfigTyped.{IntegerCode, CodeTyped}
use Rattle.soundness.proofs.Chapter3.Compose.{follow-on, deeper}

pub integer_follow : (code more : Code) → IntegerCode code → IntegerCode more → IntegerCode (follow code more)
integer_follow Stop more a b = b
integer_follow (Plain i rest) more a b = (a.0, integer_follow rest more a.1 b)
integer_follow (Block t body rest) more a b = (a.0, integer_follow rest more a.1 b)
integer_follow (Loop t body rest) more a b = (a.0, integer_follow rest more a.1 b)
integer_follow (If t body rest) more a b = (a.0, integer_follow rest more a.1 b)
integer_follow (IfElse t body other rest) more a b = (a.0, a.1, integer_follow rest more a.2 b)

pub empty : {C : Context} {a : Stack} → CodeTyped C Stop a a
empty = record { typed = refl; integer = tt }

pub code_at : {C : Context} {code : Code} {a b z : Stack} → CodeTyped C code a z → a ≡ b → CodeTyped C code b z
code_at {C} {code} {z = z} h e = record { typed = subst (λ a. Rattle.wsyntax.specs.Validation.Typing.Typed C code a z) e h.typed; integer = h.integer }

-- a continuation, over a larger stack, and then what stands after the label
pub code_follow : {C : Context} {a b z : Stack} (code more : Code) (d : Stack) → CodeTyped C code a b → CodeTyped C more (b ++ d) z → CodeTyped C (follow code more) (a ++ d) z
code_follow {C} {a} {b} {z} code more d f g = record {
  typed = follow-on code more C (a ++ d) (b ++ d) z (deeper code C a b d f.typed) g.typed;
  integer = integer_follow code more f.integer g.integer;
}
