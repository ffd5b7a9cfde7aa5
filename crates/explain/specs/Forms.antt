-- How files of other forms begin.
use Rattle.std.specs.Prelude.{◌≡◌, ◌⊎◌, ◌≤◌, ℕ, Option, Some, None, IsSomeAnd, Bool, ◌==◌, ◌||◌, if◌then◌else◌, List, [], ◌∷◌, codes}
use Rattle.explanation.specs.declared.explanation.Form.{Form}
use Rattle.explanation.specs.declared.explanation.Form.TheVariants as form
use Rattle.explain_text.specs.Texts.{BeginsWith}

-- the bytes that all of them begin with, as their tools ask for: of a component its magic, version and layer, of base64 that of the magic
abbrev pub first_bytes : Form → Option (List ℕ)
first_bytes form.Component = Some (0x00 ∷ 0x61 ∷ 0x73 ∷ 0x6D ∷ 0x0D ∷ 0x00 ∷ 0x01 ∷ 0x00 ∷ [])
first_bytes form.Gzip = Some (0x1F ∷ 0x8B ∷ [])
first_bytes form.Xz = Some (0xFD ∷ 0x37 ∷ 0x7A ∷ 0x58 ∷ 0x5A ∷ 0x00 ∷ [])
first_bytes form.Zstd = Some (0x28 ∷ 0xB5 ∷ 0x2F ∷ 0xFD ∷ [])
first_bytes form.Zip = Some (0x50 ∷ 0x4B ∷ 0x03 ∷ 0x04 ∷ [])
first_bytes form.Elf = Some (0x7F ∷ 0x45 ∷ 0x4C ∷ 0x46 ∷ [])
first_bytes form.Objects = Some (0x21 ∷ 0x3C ∷ 0x61 ∷ 0x72 ∷ 0x63 ∷ 0x68 ∷ 0x3E ∷ 0x0A ∷ [])
first_bytes form.Bitcode = Some (0x42 ∷ 0x43 ∷ 0xC0 ∷ 0xDE ∷ [])
first_bytes form.Base64 = Some (codes "AGFzbQ")
first_bytes form.LfsPointer = Some (codes "version https://git-lfs")
first_bytes form.ByteOrderMark = Some (0xEF ∷ 0xBB ∷ 0xBF ∷ [])
first_bytes form.Utf16 = None
first_bytes form.Text = None
first_bytes form.Markup = None
first_bytes form.Json = None

-- ---- text

-- 6.2.4 a blank, of JSON and of markup too: a space, a tab, a newline or the byte before one
abbrev pub is_blank : ℕ → Bool
is_blank b = b == 0x20 || (b == 0x09 || (b == 0x0A || b == 0x0D))

-- the bytes from the first on that is none
abbrev pub after_blanks : List ℕ → List ℕ
after_blanks [] = []
after_blanks (b ∷ bytes) = if is_blank b then after_blanks bytes else b ∷ bytes

-- they are the same but for blanks in front
abbrev pub AreSameAfterBlanks : List ℕ → List ℕ → Type 0
AreSameAfterBlanks one other = after_blanks one ≡ after_blanks other

abbrev pub IsLetter : ℕ → Type 0
IsLetter b = ((0x41 ≤ b) × (b ≤ 0x5A)) ⊎ ((0x61 ≤ b) × (b ≤ 0x7A))

-- 6.3 after a parenthesis: a letter, or the ; of a comment, or the @ of an annotation
abbrev pub BeginsField : List ℕ → Type 0
BeginsField bytes = (b : ℕ) × (tail : List ℕ) × (bytes ≡ b ∷ tail) × (IsLetter b ⊎ ((b ≡ 0x3B) ⊎ (b ≡ 0x40)))

-- ;; or a parenthesis
abbrev pub BeginsText : List ℕ → Type 0
BeginsText bytes =
    BeginsWith (0x3B ∷ 0x3B ∷ []) bytes ⊎ ((more field : List ℕ) × (bytes ≡ 0x28 ∷ more) × AreSameAfterBlanks more field × BeginsField field)

-- < and a letter, ! or ?
abbrev pub BeginsMarkup : List ℕ → Type 0
BeginsMarkup bytes = (b : ℕ) × (tail : List ℕ) × (bytes ≡ 0x3C ∷ b ∷ tail) × (IsLetter b ⊎ ((b ≡ 0x21) ⊎ (b ≡ 0x3F)))

-- a digit, or one of " [ ] { }
abbrev pub IsOfValue : ℕ → Type 0
IsOfValue b = ((0x30 ≤ b) × (b ≤ 0x39)) ⊎ ((b ≡ 0x22) ⊎ ((b ≡ 0x5B) ⊎ ((b ≡ 0x5D) ⊎ ((b ≡ 0x7B) ⊎ (b ≡ 0x7D)))))

abbrev pub BeginsValue : List ℕ → Type 0
BeginsValue bytes = (b : ℕ) × (tail : List ℕ) × (bytes ≡ b ∷ tail) × IsOfValue b

-- [ or {, and one of them
abbrev pub BeginsJson : List ℕ → Type 0
BeginsJson bytes =
    (b : ℕ) × (more value : List ℕ) × (bytes ≡ b ∷ more) × ((b ≡ 0x5B) ⊎ (b ≡ 0x7B)) × AreSameAfterBlanks more value × BeginsValue value

-- a byte order mark of two bytes
abbrev pub BeginsUtf16 : List ℕ → Type 0
BeginsUtf16 bytes = BeginsWith (0xFF ∷ 0xFE ∷ []) bytes ⊎ BeginsWith (0xFE ∷ 0xFF ∷ []) bytes

-- the bytes begin as text of that form does, with blanks before it where it may have them
abbrev pub IsText : List ℕ → Form → Type 0
IsText bytes form.Text = (rest : List ℕ) × AreSameAfterBlanks bytes rest × BeginsText rest
IsText bytes form.Markup = (rest : List ℕ) × AreSameAfterBlanks bytes rest × BeginsMarkup rest
IsText bytes form.Json = (rest : List ℕ) × AreSameAfterBlanks bytes rest × BeginsJson rest
IsText bytes form.Utf16 = BeginsUtf16 bytes
IsText bytes _ = ⊥

-- the bytes begin as those of that form do
abbrev pub HasForm : List ℕ → Form → Type 0
HasForm bytes f = IsSomeAnd (first_bytes f) (λ front. BeginsWith front bytes) ⊎ IsText bytes f
