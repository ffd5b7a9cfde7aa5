-- What the words of the command line ask for.
use Rattle.std.specs.Prelude.{◌≡◌, ◌⊎◌, ℕ, ◌<◌, List, [], ◌∷◌, ◌++◌, Contains, codes, map, length, slice_index_or}
use Rattle.command.specs.Names.{file_names, input_path, says_folders, says_json, says_null}
use Rattle.command.specs.Options.{SaysLimits, SaysPlan, option_words}
use Rattle.command.specs.declared.request.Request.{Request}
use Rattle.command.specs.declared.request.Request.TheVariants.{Check, CheckAll, CheckListed, Explain, ExplainCalls, Exports, Run, Stream, Text}

-- the word begins with this text
abbrev pub BeginsWith : List ℕ → List ℕ → Type 0
BeginsWith front word = (rest : List ℕ) × (word ≡ front ++ rest)

-- the first word, the empty one where there is none
abbrev pub first_word : List (List ℕ) → List ℕ
first_word words = slice_index_or words 0 []

-- one of the words begins with this text
abbrev pub ContainsFront : List (List ℕ) → List ℕ → Type 0
ContainsFront words front = (word : List ℕ) × BeginsWith front word × Contains words word

-- a word asks for help: the first is `help`, or one of those that may be options is `--help` or begins with `-h`
abbrev pub AsksHelp : List (List ℕ) → Type 0
AsksHelp words = (first_word words ≡ codes "help") ⊎ (Contains (option_words words) (codes "--help") ⊎ ContainsFront (option_words words) (codes "-h"))

-- a word asks for the version: the first is `--version` or begins with `-V`
abbrev pub AsksVersion : List (List ℕ) → Type 0
AsksVersion words = (first_word words ≡ codes "--version") ⊎ BeginsWith (codes "-V") (first_word words)

-- the word at this position is the text
abbrev pub StandsAt : List (List ℕ) → ℕ → List ℕ → Type 0
StandsAt words position text = (position < length words) × (slice_index_or words position [] ≡ text)

-- the text is a word after the first one, the command's name
abbrev pub IsOperand : List (List ℕ) → List ℕ → Type 0
IsOperand words path = (i : ℕ) × (0 < i) × StandsAt words i path

-- the first text is a word after the command's name, and the second one is a word after that
abbrev pub AreOperands : List (List ℕ) → List ℕ → List ℕ → Type 0
AreOperands words path calls = (i : ℕ) × (j : ℕ) × (0 < i) × (i < j) × StandsAt words i path × StandsAt words j calls

-- a module is read from this path, whose name is a word after the command's name
abbrev pub IsInput : List (List ℕ) → List ℕ → Type 0
IsInput words path = (name : List ℕ) × IsOperand words name × (path ≡ input_path name)

-- the same, and the second text is a word after that name
abbrev pub AreInputs : List (List ℕ) → List ℕ → List ℕ → Type 0
AreInputs words path calls = (name : List ℕ) × AreOperands words name calls × (path ≡ input_path name)

-- the first text is a word after the command's name, and the calls are read from the path whose name is a word after that, or where there is none from standard input
abbrev pub AreStreamed : List (List ℕ) → List ℕ → List ℕ → Type 0
AreStreamed words path calls =
    ((name : List ℕ) × AreOperands words path name × (calls ≡ input_path name)) ⊎ (IsOperand words path × (calls ≡ codes "/dev/stdin"))

-- the first word is the name of the request's command; its paths are words after that, the module's before that of the calls, and `-` as that of an explained or listed module is standard input; the names of a check of many files are all those that the words have; the words say its numbers and options; and a text is given only where a word asks for one
abbrev pub IsRequestOf : List (List ℕ) → Request → Type 0
IsRequestOf words (Check path plan) = (first_word words ≡ codes "check") × IsOperand words path.now × SaysPlan words plan.workers plan.piece
IsRequestOf words (CheckAll names folders plan) =
    (first_word words ≡ codes "check-all") × (map (λ n. n.now) names.items ≡ file_names words) × (folders ≡ says_folders words) × SaysPlan words plan.workers plan.piece
IsRequestOf words (CheckListed is_null folders plan) =
    (first_word words ≡ codes "check-all") × (file_names words ≡ codes "-" ∷ []) × (is_null ≡ says_null words) × (folders ≡ says_folders words) × SaysPlan words plan.workers plan.piece
IsRequestOf words (Explain path json) = (first_word words ≡ codes "explain") × IsInput words path.now × (json ≡ says_json words)
IsRequestOf words (ExplainCalls path calls json) = (first_word words ≡ codes "explain") × AreInputs words path.now calls.now × (json ≡ says_json words)
IsRequestOf words (Exports path) = (first_word words ≡ codes "exports") × IsInput words path.now
IsRequestOf words (Run path calls settings plan) =
    (first_word words ≡ codes "run") × AreOperands words path.now calls.now × (SaysLimits words settings.fuel settings.frames settings.pages × SaysPlan words plan.workers plan.piece)
IsRequestOf words (Stream path calls settings plan) =
    (first_word words ≡ codes "stream") × AreStreamed words path.now calls.now × (SaysLimits words settings.fuel settings.frames settings.pages × SaysPlan words plan.workers plan.piece)
IsRequestOf words (Text text) = AsksHelp words ⊎ AsksVersion words
