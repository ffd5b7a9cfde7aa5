-- The calls of a batch in groups of consecutive ones.
use Rattle.std.specs.Prelude.{◌≡◌, ℕ, ◌+◌, ◌<◌, List, [], ◌∷◌, ◌++◌, Some, length, slice_get}
use Rattle.batch_text.specs.Ends.{ends_of}
use Rattle.batch_text.specs.Parts.{IsPart, AreParts}
use Rattle.batch_text.specs.declared.call.Call.{Call}
use Rattle.batch_text.specs.declared.line.Line.{Line}
use Rattle.batch_text.specs.declared.part.Part.{Part}
use Rattle.accepted_module.specs.declared.accepted.Accepted.{Accepted}
use Rattle.wstore.specs.declared.settings.Settings.{Settings}
use Rattle.batch.specs.Ends.{GivesLine}
use Rattle.batch.specs.declared.group.Group.{Group}

-- the groups have these calls, from index n on: the first group has those in front, one at least, and the others have the rest
abbrev pub AreGroups : ℕ → List Call → List Group → Type 0
AreGroups n calls [] = calls ≡ []
AreGroups n calls (g ∷ gs) =
    (g.first ≡ n) × (0 < length g.calls.now) × ((rest : List Call) × (calls ≡ g.calls.now ++ rest) × AreGroups (n + length g.calls.now) rest gs)

-- groups of these calls, from index n on, stand after the old ones
abbrev pub AddsGroups : ℕ → List Call → List Group → List Group → Type 0
AddsGroups n calls old new = (more : List Group) × (new ≡ old ++ more) × AreGroups n calls more

-- the lines say how these calls end, one line a call
abbrev pub GiveLines : Accepted → Settings → List Call → List Line → Type 0
GiveLines a s [] [] = Unit {0}
GiveLines a s (c ∷ cs) (line ∷ lines) = GivesLine a s c line × GiveLines a s cs lines
GiveLines a s _ _ = ⊥

-- the part has lines that say how the calls of the group end
abbrev pub GivesPart : Accepted → Settings → Group → Part → Type 0
GivesPart a s g part = (lines : List Line) × GiveLines a s g.calls.now lines × IsPart g.first (ends_of lines) part

-- of the group at that position
abbrev pub GivesPartAt : Accepted → Settings → List Group → ℕ → Part → Type 0
GivesPartAt a s groups i part = (g : Group) × (slice_get groups i ≡ Some g) × GivesPart a s g part

-- the parts have lines that say how these calls end
abbrev pub GiveParts : Accepted → Settings → List Call → List Part → Type 0
GiveParts a s calls parts = (lines : List Line) × GiveLines a s calls lines × AreParts 0 (ends_of lines) parts
