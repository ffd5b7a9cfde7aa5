-- The names of files among the words of `gate check-all`, and the options without a number.
use Rattle.std.specs.Prelude.{ℕ, Bool, true, false, ◌&&◌, ◌||◌, not, ◌==◌, List, [], ◌∷◌, ◌++◌, codes, drop, nat_lt, length, if◌then◌else◌}
use Rattle.std.specs.List.{list_any}
use Rattle.std.specs.Str.{bytes_eq}
use Rattle.command.specs.Options.{option_words}
use Rattle.command.specs.declared.names.Next.{Next}
use Rattle.command.specs.declared.names.Next.TheVariants.{Any, Number, Name}

-- an option alone whose number is the next word
abbrev pub takes_number : List ℕ → Bool
takes_number word = bytes_eq word (codes "--workers") || bytes_eq word (codes "--piece")

-- the text begins with this byte
abbrev pub begins : ℕ → List ℕ → Bool
begins c [] = false
begins c (b ∷ bytes) = b == c

-- the word begins with `-`, and is not that alone
abbrev pub is_option : List ℕ → Bool
is_option word = begins 0x2D word && nat_lt 1 (length word)

-- whether the word is a name, where the word that is next may be this
abbrev pub name_stands : Next → List ℕ → Bool
name_stands Any word = not (is_option word)
name_stands Number word = false
name_stands Name word = true

-- what the word after this one may be
abbrev pub name_next : Next → List ℕ → Next
name_next Any word = if bytes_eq word (codes "--") then Name else (if takes_number word then Number else Any)
name_next Number word = Any
name_next Name word = Name

-- the names among these words, in their order
abbrev pub names_from : Next → List (List ℕ) → List (List ℕ)
names_from next [] = []
names_from next (word ∷ words) = (if name_stands next word then word ∷ [] else []) ++ names_from (name_next next word) words

-- the names among the words after the command's name
abbrev pub file_names : List (List ℕ) → List (List ℕ)
file_names words = names_from Any (drop 1 words)

-- the word is `-` and letters, among them this
abbrev pub flag_letter : ℕ → List ℕ → Bool
flag_letter letter [] = false
flag_letter letter (c ∷ letters) = (c == 0x2D) && (not (begins 0x2D letters) && list_any (λ l. l == letter) letters)

-- the word says the option with this long form and this letter
abbrev pub is_flag : List ℕ → ℕ → List ℕ → Bool
is_flag long letter word = bytes_eq word long || flag_letter letter word

-- a word says that names are ended by a byte 0
abbrev pub says_null : List (List ℕ) → Bool
says_null words = list_any (is_flag (codes "--null") 0x30) (option_words words)

-- a word says that a folder stands for the modules below it
abbrev pub says_folders : List (List ℕ) → Bool
says_folders words = list_any (is_flag (codes "--recursive") 0x72) (option_words words)

-- a word says that an explanation is told as JSON
abbrev pub says_json : List (List ℕ) → Bool
says_json words = list_any (is_flag (codes "--json") 0x6A) (option_words words)

-- the file that a module is read from whose name is this: `-` is standard input
abbrev pub input_path : List ℕ → List ℕ
input_path name = if bytes_eq name (codes "-") then codes "/dev/stdin" else name
