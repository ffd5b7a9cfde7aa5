-- The text of an explanation, and names in it.
use Rattle.std.specs.Prelude.{◌≡◌, ℕ, ◌+◌, ◌/◌, ◌%◌, Bool, ◌&&◌, not, ◌==◌, List, [], ◌∷◌, ◌++◌, length, take, flat_map, nat_lt, nat_le, codes, if◌then◌else◌}

-- it begins with that
abbrev pub BeginsWith : List ℕ → List ℕ → Type 0
BeginsWith front text = (rest : List ℕ) × (text ≡ front ++ rest)

-- ---- 6.3.3 strings

-- a printable character of ASCII, but for the quotation mark and the backslash
abbrev pub is_plain : ℕ → Bool
is_plain b = nat_le 0x20 b && (nat_lt b 0x7F && (not (b == 0x22) && not (b == 0x5C)))

-- a digit of base 16, from 0 to 9 and from a to f
abbrev pub hex_digit : ℕ → ℕ
hex_digit d = if nat_lt d 10 then 48 + d else 87 + d

abbrev pub hex_pair : ℕ → List ℕ
hex_pair b = hex_digit (b / 16) ∷ hex_digit (b % 16) ∷ []

-- a byte of a string: plain, or two digits after a backslash
abbrev pub string_byte : ℕ → List ℕ
string_byte b = if is_plain b then b ∷ [] else 0x5C ∷ hex_pair b

abbrev pub string_text : List ℕ → List ℕ
string_text bytes = 0x22 ∷ (flat_map string_byte bytes ++ 0x22 ∷ [])

-- of a name no more than 1,024 bytes are shown, and two dots after them where there are more
abbrev pub name_text : List ℕ → List ℕ
name_text name = if nat_lt 1024 (length name) then string_text (take 1024 name) ++ codes ".." else string_text name
