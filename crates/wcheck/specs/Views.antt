-- What the code's values stand for.
use Rattle.std.specs.Prelude.{Bool, false, List, [], ◌∷◌, Option, None, reverse, map, cond, take, drop}
use Rattle.wsyntax.specs.declared.ValType.{ValType}
use Rattle.wsyntax.specs.Types.{FuncType}
use Rattle.wsyntax.specs.Instructions.{Token, Do}
use Rattle.wsyntax.specs.Validation.Context.{Stack, Context, body_context}
use Rattle.wsyntax.specs.Validation.Algorithm.{Operands, Frame, Rule, rule}
use Rattle.wcontext.specs.Lists.{list_of}
use Rattle.wcheck.specs.declared.frames.ControlFrame.{ControlFrame}
use Rattle.wcheck.specs.declared.frames.OuterFrame.{OuterFrame}
use Rattle.wcheck.specs.declared.scope.Scope.{Scope}

-- what its instructions look up, the labels apart
abbrev pub scope_context : Scope → Context
scope_context s = body_context (reverse (list_of s.context.now.context.types s.results)) (record s.context.now.context { locals = s.locals })

-- what a branch to a frame takes, where these are the function types
abbrev pub label_of : List FuncType → ControlFrame → Stack
label_of types x = cond x.is_loop (reverse (list_of types x.start_types)) (reverse (list_of types x.end_types))

abbrev pub labels_in : List FuncType → ControlFrame → List OuterFrame → List Stack
labels_in types x outer = label_of types x ∷ reverse (map (λ y. label_of types y.frame) outer)

-- the context in the innermost frame
abbrev pub context_at : Scope → ControlFrame → List OuterFrame → Context
context_at s x outer = record (scope_context s) { labels = labels_in s.context.now.context.types x outer }

abbrev pub frame_of : List FuncType → ControlFrame → Operands → Frame
frame_of types x o =
    record { is_then = x.is_if; label = label_of types x; starts = reverse (list_of types x.start_types); gives = reverse (list_of types x.end_types); operands = o }

-- the frames outside, the innermost first, whose operands these are, the lowest first
abbrev pub cut : List FuncType → List OuterFrame → List (Option ValType) → List Frame
cut types [] below = []
cut types (l ∷ ls) below =
    frame_of types l.frame record { known = reverse (drop l.height below); is_dead = l.unreachable } ∷ cut types ls (take l.height below)

-- whether what follows in the first of these is unreachable
abbrev pub first_dead : List OuterFrame → Bool
first_dead [] = false
first_dead (l ∷ ls) = l.unreachable

-- what lies under all frames
abbrev pub under_all : List OuterFrame → List (Option ValType) → List (Option ValType)
under_all [] below = below
under_all (l ∷ ls) below = under_all ls (take l.height below)

-- the rule of a token that is an instruction without a body
abbrev pub token_rule : Context → Token → Option Rule
token_rule C (Do i) = rule C i
token_rule C _ = None
