-- 5.5.15 Modules: which bytes spell a module with its bodies left as bytes, which spell a body, and which spell the whole.
use Rattle.std.specs.Prelude.{◌≡◌, ℕ, ◌≤◌, Bool, true, ◌||◌, List, [], ◌∷◌, ◌++◌, length, Option, Some, None, nat_lt, ◌==◌, if◌then◌else◌}
use Rattle.wsyntax.specs.Modules.{ModuleShape, BodyShape}
use Rattle.wsyntax.specs.Binary.Production.{SpellsAll}
use Rattle.wsyntax.specs.Binary.Sections.{SectionShape, Custom, Types, Imports, Functions, Tables, Memories, Globals, Exports, Start, Elements, Bodies, Segments, section, body, locals_of}

-- 5.5.15 the magic bytes and the version
abbrev pub header : List ℕ
header = 0x00 ∷ 0x61 ∷ 0x73 ∷ 0x6D ∷ 0x01 ∷ 0x00 ∷ 0x00 ∷ 0x00 ∷ []

-- 5.5.2 the id of a section
abbrev pub section_id : SectionShape → ℕ
section_id Custom = 0
section_id (Types v) = 1
section_id (Imports v) = 2
section_id (Functions v) = 3
section_id (Tables v) = 4
section_id (Memories v) = 5
section_id (Globals v) = 6
section_id (Exports v) = 7
section_id (Start x) = 8
section_id (Elements v) = 9
section_id (Bodies v) = 10
section_id (Segments v) = 11

-- 5.5.2 a custom section stands anywhere, another one after those of smaller ids only
abbrev pub may_follow : ℕ → SectionShape → Bool
may_follow last s = section_id s == 0 || nat_lt last (section_id s)

-- the id of the last section after one more, custom ones aside
abbrev pub last_after : ℕ → SectionShape → ℕ
last_after last s = if section_id s == 0 then last else section_id s

-- 5.5.15 the sections stand in order after one of the id `last`
abbrev pub IsOrdered : ℕ → List SectionShape → Type 0
IsOrdered last [] = Unit {0}
IsOrdered last (s ∷ ss) = (may_follow last s ≡ true) × IsOrdered (last_after last s) ss

-- a module with what a section holds
abbrev pub with_section : ModuleShape → SectionShape → ModuleShape
with_section m Custom = m
with_section m (Types v) = record m { types = v }
with_section m (Imports v) = record m { imports = v }
with_section m (Functions v) = record m { functions = v }
with_section m (Tables v) = record m { tables = v }
with_section m (Memories v) = record m { memories = v }
with_section m (Globals v) = record m { globals = v }
with_section m (Exports v) = record m { exports = v }
with_section m (Start x) = record m { start = Some x }
with_section m (Elements v) = record m { elements = v }
with_section m (Bodies v) = record m { bodies = v }
with_section m (Segments v) = record m { segments = v }

-- a module with what these sections hold
abbrev pub put_all : ModuleShape → List SectionShape → ModuleShape
put_all m [] = m
put_all m (s ∷ ss) = put_all (with_section m s) ss

-- 5.5.2 an absent section counts as an empty one
abbrev pub empty_module : ModuleShape
empty_module = record { types = []; imports = []; functions = []; tables = []; memories = []; globals = []; exports = []; start = None; elements = []; bodies = []; segments = [] }

-- 5.5.15 the bytes are the header, and then sections in order that say what the module is; it has a body for each function. Ours: bodies are left as bytes, since their insides are judged after the rules of the module
pub record Shell (bytes : List ℕ) (m : ModuleShape) : Type 0 where
  pub tail : List ℕ
  pub sections : List SectionShape
  pub begins : bytes ≡ header ++ tail
  pub spelled : SpellsAll section.spells tail sections
  pub ordered : IsOrdered 0 sections
  pub says : put_all empty_module sections ≡ m
  pub paired : length m.functions ≡ length m.bodies

-- 5.5.13 which bytes spell a body: all of them
abbrev pub SpellsBody : List ℕ → BodyShape → Type 0
SpellsBody bytes b = body.spells bytes b

-- 5.5.13 each body, spelled by the bytes that stand for it
abbrev pub SpellsBodies : List (List ℕ) → List BodyShape → Type 0
SpellsBodies [] [] = Unit {0}
SpellsBodies (s ∷ ss) (b ∷ bs) = SpellsBody s b × SpellsBodies ss bs
SpellsBodies [] (b ∷ bs) = ⊥
SpellsBodies (s ∷ ss) [] = ⊥

-- 5.5.15 which bytes spell a module and its bodies
abbrev pub Spells : List ℕ → ModuleShape → List BodyShape → Type 0
Spells bytes m bodies = Shell bytes m × SpellsBodies m.bodies bodies

-- What this implementation takes.

-- the most bytes of a module: 16,777,216
abbrev pub module_limit : ℕ
module_limit = 16777216

-- the most declared locals of a body, parameters aside: 100,000
abbrev pub local_limit : ℕ
local_limit = 100000

-- the body declares no more locals than the limit
abbrev pub FewLocals : BodyShape → Type 0
FewLocals b = locals_of b.runs ≤ local_limit

-- Reading.

-- the bytes after a front
abbrev pub strip : List ℕ → List ℕ → Option (List ℕ)
strip [] bytes = Some bytes
strip (h ∷ hs) [] = None
strip (h ∷ hs) (b ∷ bs) = if b == h then strip hs bs else None
