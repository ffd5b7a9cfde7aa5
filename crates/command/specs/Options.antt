-- The values of options, as the words of the command line say them.
-- Of the words before the first `--`, the first that begins with the option says its number.
use Rattle.std.specs.Prelude.{◌≡◌, ◌≢◌, ◌⊎◌, ℕ, ◌+◌, ◌<◌, List, [], ◌++◌, length, slice_index_or, codes, pos}
use Rattle.std.specs.List.{All, AllWithin, before_first}
use Rattle.std.specs.Str.{bytes_eq}
use Rattle.std.specs.Str.Parse.{IsNumeral, signed_digits_value, without_leading_sign}

-- the words that may be options: those before the first `--`
abbrev pub option_words : List (List ℕ) → List (List ℕ)
option_words words = before_first (λ word. bytes_eq word (codes "--")) words

-- the text is this number in decimal, perhaps with a sign before it: a minus only before 0
abbrev pub IsDecimal : ℕ → List ℕ → Type 0
IsDecimal n text = IsNumeral 10 (without_leading_sign text) × (signed_digits_value 10 text ≡ pos n)

-- the word does not begin with the option
abbrev pub LacksOption : List ℕ → List ℕ → Type 0
LacksOption option word = (rest : List ℕ) → word ≢ option ++ rest

-- the word at k is the option, `=` and the text; or it is the option alone, and the next word is the text
abbrev pub GivesText : List (List ℕ) → List ℕ → ℕ → List ℕ → Type 0
GivesText words option k text =
    (slice_index_or words k [] ≡ option ++ (codes "=" ++ text))
    ⊎ ((slice_index_or words k [] ≡ option) × (k + 1 < length words) × (slice_index_or words (k + 1) [] ≡ text))

-- the first word that begins with the option gives the text; or no word begins with it, and the text is the default
abbrev pub IsOptionText : List (List ℕ) → List ℕ → List ℕ → List ℕ → Type 0
IsOptionText words option default text =
    ((k : ℕ) × (k < length words) × AllWithin (LacksOption option) words 0 k × GivesText words option k text)
    ⊎ (All (LacksOption option) words × (text ≡ default))

-- the words say this number of the option with this name and default
abbrev pub IsOptionNumber : List (List ℕ) → List ℕ → List ℕ → ℕ → Type 0
IsOptionNumber words name default n =
    (text : List ℕ) × IsOptionText (option_words words) (codes "--" ++ name) default text × IsDecimal n text

-- the words say these limits of a call
abbrev pub SaysLimits : List (List ℕ) → ℕ → ℕ → ℕ → Type 0
SaysLimits words fuel frames pages =
    IsOptionNumber words (codes "fuel") (codes "1000000") fuel
    × (IsOptionNumber words (codes "frames") (codes "1024") frames × IsOptionNumber words (codes "pages") (codes "256") pages)

-- the words say how many threads work, and how much each takes at once
abbrev pub SaysPlan : List (List ℕ) → ℕ → ℕ → Type 0
SaysPlan words workers piece =
    IsOptionNumber words (codes "workers") (codes "4") workers × IsOptionNumber words (codes "piece") (codes "16") piece
