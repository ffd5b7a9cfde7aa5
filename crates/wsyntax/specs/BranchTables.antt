-- 2.4.5 Where the labels of the branch tables of an expression lie in its list of targets.
use Rattle.std.specs.Prelude.{◌≡◌, ℕ, ◌+◌, List, [], ◌∷◌}
use Rattle.wsyntax.specs.declared.instructions.Token.{Token}
use Rattle.wsyntax.specs.declared.instructions.Token.TheVariants as flat

-- a branch table begins after `before` targets, and after its labels and its default there are `after`; by another token there are no more
abbrev pub Follows : ℕ → Token → ℕ → Type 0
Follows before (flat.BrTable count first) after = (first ≡ before) × (after ≡ before + count + 1)
Follows before _ after = after ≡ before

-- the branch tables follow one another, from `before` targets up to `after`
abbrev pub FollowAll : ℕ → List Token → ℕ → Type 0
FollowAll before [] after = after ≡ before
FollowAll before (t ∷ ts) after = (next : ℕ) × Follows before t next × FollowAll next ts after
