-- Which build the library is of.
use Rattle.std.specs.Prelude.{◌≡◌, ℕ, ◌++◌, List, length, codes}
use Rattle.c_api.specs.Texts.{Hands}

-- the text that names the release, the first twelve digits of the commit, and the kit that proved it
abbrev pub build_text : List ℕ → List ℕ
build_text commit = codes "gate 0.2.0 (commit " ++ commit ++ codes ", rattle-kit-13f)"

-- it is written, whatever the commit is, or the buffer is short
abbrev pub HandsBuild : List ℕ → List ℕ → ℕ → ℕ → Type 0
HandsBuild old new now answered = (commit : List ℕ) × (length commit ≡ 12) × Hands (build_text commit) 0 old new now answered
