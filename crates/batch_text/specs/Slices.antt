-- A text in slices, and the calls of slices one after another.
-- Each slice but the last ends with a newline. The calls of slices that were read are those of the whole text, or too many.
use denote.Ref.{Bor}
use Rattle.std.specs.Prelude.{◌≡◌, ◌≢◌, ℕ, ◌<◌, ◌≤◌, List, [], ◌∷◌, ◌++◌, All, length, drop, map, flat_map, Option, Some, None, Ok, Vec}
use Rattle.std.specs.declared.alloc.Global.{Global}
use Rattle.wsyntax.specs.Texts.Words.{newline}
use Rattle.wsyntax.specs.Texts.Calls.{Good, IsCalls, calls_limit, line_limit}
use Rattle.batch_text.specs.Calls.{ReadsCalls, calls_of}
use Rattle.batch_text.specs.declared.call.Call.{Call}

-- the bytes of each slice
abbrev pub slices_of : List (Bor (List ℕ)) → List (List ℕ)
slices_of slices = map (λ s. s.now) slices

-- it ends with a newline, after `size` bytes or more
abbrev pub EndsLine : ℕ → List ℕ → Type 0
EndsLine size slice = (front : List ℕ) × (slice ≡ front ++ newline) × (size ≤ length front)

-- each slice ends with a newline, after `size` bytes or more
abbrev pub EachEndsLine : ℕ → List (List ℕ) → Type 0
EachEndsLine size [] = Unit {0}
EachEndsLine size (slice ∷ slices) = EndsLine size slice × EachEndsLine size slices

-- the slices are the text; each but the last ends with a newline, and the last could not be cut so
pub record CutsLines (size : ℕ) (text : List ℕ) (slices : List (List ℕ)) : Type 0 where
  pub fronts : List (List ℕ)
  pub last : List ℕ
  pub all : slices ≡ fronts ++ last ∷ []
  pub joined : text ≡ flat_map (λ s. s) slices
  pub ended : EachEndsLine size fronts
  pub whole : All (λ b. b ≢ 0x0A) (drop size last)

-- each slice is read as these calls
abbrev pub EachRead : List (List ℕ) → List (Vec Call Global) → Type 0
EachRead [] [] = Unit {0}
EachRead (slice ∷ slices) (calls ∷ read) = ReadsCalls slice (Ok calls) × EachRead slices read
EachRead _ _ = ⊥

-- all calls in their order
abbrev pub joined_calls : List (Vec Call Global) → List Call
joined_calls read = flat_map (λ calls. calls.items) read

-- how many calls the slices have together, where a text may have that many: those of whatever slices were read so are then the calls of the whole text. None where they are too many for a text
abbrev pub CountsCalls : List (Vec Call Global) → Option ℕ → Type 0
CountsCalls read None = line_limit < length (joined_calls read)
CountsCalls read (Some count) =
    (count ≡ length (joined_calls read)) × (count ≤ line_limit) × ((slices : List (List ℕ)) → EachRead slices read → length (flat_map (λ s. s) slices) ≤ calls_limit → IsCalls (flat_map (λ s. s) slices) (Good (calls_of (joined_calls read))))
