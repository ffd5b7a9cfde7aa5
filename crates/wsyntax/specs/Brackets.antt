-- 2.4.5 and 2.4.6 When held tokens are those of an expression: what opens and what closes fits together, and the last end stands at the end.
use Rattle.std.specs.Prelude.{ℕ, ◌+◌, Bool, true, false, List, [], ◌∷◌, nat_lt}
use Rattle.wsyntax.specs.declared.instructions.Token.{Token}
use Rattle.wsyntax.specs.declared.instructions.Token.TheVariants as flat

-- what a token does to the open blocks: it opens one, in which an else may come or may not; it is an else; it is an end; or it does nothing
pub data Bracket : Type 0 where
  Opening : Bool → Bracket
  Parting Closing Inner : Bracket

-- what a token does to the open blocks
abbrev pub bracket : Token → Bracket
bracket (flat.Block t) = Opening false
bracket (flat.Loop t) = Opening false
bracket (flat.If t target) = Opening true
bracket (flat.Else target) = Parting
bracket flat.End = Closing
bracket _ = Inner

-- what follows a token, given what follows it where blocks stay open, and whether it is the last one
abbrev pub behind : Bracket → List Bool → (List Bool → Bool) → Bool → Bool
behind (Opening may) open_blocks more last = more (may ∷ open_blocks)
behind Parting [] more last = false
behind Parting (true ∷ open_blocks) more last = more (false ∷ open_blocks)
behind Parting (false ∷ open_blocks) more last = false
behind Closing [] more last = last
behind Closing (may ∷ open_blocks) more last = more open_blocks
behind Inner open_blocks more last = more open_blocks

-- whether no token follows
abbrev pub is_last : List Token → Bool
is_last [] = true
is_last (t ∷ ts) = false

-- the tokens close the open blocks, the innermost first, and then the expression, with the last token
abbrev pub closes : List Bool → List Token → Bool
closes open_blocks [] = false
closes open_blocks (t ∷ ts) = behind (bracket t) open_blocks (λ now. closes now ts) (is_last ts)

-- the labels of a branch table and its default lie in a list of `targets` targets
abbrev pub lies_within : ℕ → Token → Bool
lies_within targets (flat.BrTable count first) = nat_lt (first + count) targets
lies_within targets _ = true
