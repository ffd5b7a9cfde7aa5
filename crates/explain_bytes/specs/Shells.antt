-- 5.5 Where reading a module stops that is malformed outside its bodies.
use Rattle.std.specs.Prelude.{◌≡◌, ◌≢◌, ◌⊎◌, ◌<◌, ◌≤◌, ◌-◌, ℕ, zero, suc, List, [], ◌∷◌, length, drop, Option, Some, None, IfSome, slice_get, Result, Ok, Err, false, ◌==◌, if◌then◌else◌}
use Rattle.std.specs.Borrow.{Bor}
use Rattle.std.specs.List.{between}
use Rattle.std.specs.Str.{is_utf8}
use Rattle.wsyntax.specs.Binary.Values.{u32, s32, s64, blob, name}
use Rattle.wsyntax.specs.Binary.Types.{val_type_of, func_type, limits, table_type}
use Rattle.wsyntax.specs.Binary.Nesting.{expression, token_at}
use Rattle.wsyntax.specs.Binary.Sections.{an_import, global, an_export, element, data_segment}
use Rattle.wsyntax.specs.Validation.Algorithm.{on}
use Rattle.wdecode.specs.Gives.{rest_of}
use Rattle.explanation.specs.declared.explanation.Span.{Span}
use Rattle.explanation.specs.declared.shell_location.Wanted.{Wanted}
use Rattle.explanation.specs.declared.shell_location.Wanted.TheVariants as wanted
use Rattle.explanation.specs.declared.shell_location.Wrong.{Wrong}
use Rattle.explanation.specs.declared.shell_location.Wrong.TheVariants as wrong
use Rattle.explanation.specs.declared.shell_location.SectionPart.{SectionPart}
use Rattle.explanation.specs.declared.shell_location.SectionPart.TheVariants as part
use Rattle.explanation.specs.declared.shell_location.FoundSection.{FoundSection}
use Rattle.explanation.specs.declared.shell_location.Location.{Location}
use Rattle.explain_bytes.specs.declared.misreads.Misread.{Misread}
use Rattle.explain_bytes.specs.declared.shell.locations.Step.{Step}
use Rattle.explain_bytes.specs.declared.shell.locations.Step.TheVariants as step
use Rattle.explain_bytes.specs.declared.shell.primitives.Stuck.{Stuck}
use Rattle.explain_bytes.specs.declared.shell.primitives.Stuck.TheVariants as stuck
use Rattle.explain_bytes.specs.declared.shell.items.Items.{Items}
use Rattle.explain_bytes.specs.declared.shell.items.Items.TheVariants.{Types, Imports, Functions, Tables, Memories, Globals, Exports, Elements, Bodies, Segments}
use Rattle.explain_bytes.specs.declared.shell.contents.ContentsEnd.{ContentsEnd}
use Rattle.explain_bytes.specs.declared.shell.contents.ContentsEnd.TheVariants as outcome

-- the byte is none of those that are wanted; other things that are wanted do not stand in one byte
abbrev pub IsNone : Wanted → ℕ → Type 0
IsNone wanted.TypeForm b = b ≢ 0x60
IsNone wanted.ValueType b = val_type_of b ≡ None
IsNone wanted.ElementType b = b ≢ 0x70
IsNone wanted.MemoryFlags b = 1 < b
IsNone wanted.TableFlags b = 1 < b
IsNone wanted.Mutability b = 1 < b
IsNone wanted.ImportKind b = 3 < b
IsNone wanted.ExportKind b = 3 < b
IsNone wanted.BlockType b = (b ≢ 0x40) × (val_type_of b ≡ None)
IsNone wanted.TableByte b = b ≢ 0
IsNone wanted.MemoryByte b = b ≢ 0
IsNone _ b = Unit {0}

-- 5.4.5 the bytes begin with no constant of that type
abbrev pub IsNoConstant : Wanted → List ℕ → Type 0
IsNoConstant wanted.I32 bytes = s32.read bytes ≡ None
IsNoConstant wanted.I64 bytes = s64.read bytes ≡ None
IsNoConstant wanted.F32 bytes = length bytes < 4
IsNoConstant wanted.F64 bytes = length bytes < 8
IsNoConstant _ bytes = ⊥

-- what is wrong at the front of these bytes, as far as they tell it: no number, no name, no token or none of the bytes that are wanted stands there
abbrev pub Stands : Wrong → List ℕ → Type 0
Stands (wrong.Ends w) bytes = bytes ≡ []
Stands (wrong.Cut w) bytes = u32.read bytes ≡ None
Stands (wrong.LongNumber w) bytes = u32.read bytes ≡ None
Stands (wrong.LargeNumber w) bytes = u32.read bytes ≡ None
Stands (wrong.CutConstant w) bytes = IsNoConstant w bytes
Stands (wrong.LongConstant w) bytes = IsNoConstant w bytes
Stands (wrong.LargeConstant w) bytes = IsNoConstant w bytes
Stands (wrong.Byte w b) bytes = (tail : List ℕ) × (bytes ≡ b ∷ tail) × IsNone w b
Stands (wrong.Beyond w size left) bytes = (tail : List ℕ) × (u32.read bytes ≡ Some (size, tail)) × (left ≡ length tail) × (left < size)
Stands (wrong.NoText size) bytes = (text tail : List ℕ) × (blob.read bytes ≡ Some (text, tail)) × (length text ≡ size) × (is_utf8 text ≡ false)
Stands (wrong.Opcode first number) bytes = (token_at bytes ≡ None) × (tail : List ℕ) × (bytes ≡ first ∷ tail)
Stands wrong.Else bytes = Unit {0}
Stands wrong.Expression bytes = expression.read bytes ≡ None
Stands _ bytes = ⊥

-- reading stops at the front of these bytes
abbrev pub StuckAt : List ℕ → Stuck → Type 0
StuckAt bytes (stuck.Here rest wrong) = (rest.now ≡ bytes) × Stands wrong bytes
StuckAt bytes stuck.Memory = ⊥

-- something is wrong where reading stops
abbrev pub IsStuck : Stuck → Type 0
IsStuck (stuck.Here rest wrong) = Stands wrong rest.now
IsStuck stuck.Memory = Unit {0}

-- something is wrong at the front of these bytes from that offset on
abbrev pub IsMisread : List ℕ → Misread → Type 0
IsMisread bytes m = Stands m.wrong (between m.offset (length bytes) bytes)

-- the bytes that are left, or none: then something is wrong at the front of those where reading stopped
abbrev pub Passes : Option (List ℕ) → Result (Bor (List ℕ)) Stuck → Type 0
Passes left (Ok rest) = left ≡ Some rest.now
Passes left (Err (stuck.Here rest wrong)) = (left ≡ None) × Stands wrong rest.now
Passes left (Err stuck.Memory) = Unit {0}

-- the same of something that is kept
abbrev pub Finds : {A : Type 0} → Option (A × List ℕ) → Result (A × Bor (List ℕ)) Stuck → Type 0
Finds read (Ok found) = read ≡ Some (found.0, found.1.now)
Finds read (Err (stuck.Here rest wrong)) = (read ≡ None) × Stands wrong rest.now
Finds read (Err stuck.Memory) = Unit {0}

-- the same of bytes
abbrev pub FindsBytes : Option (List ℕ × List ℕ) → Result (Bor (List ℕ) × Bor (List ℕ)) Stuck → Type 0
FindsBytes read (Ok found) = read ≡ Some (found.0.now, found.1.now)
FindsBytes read (Err (stuck.Here rest wrong)) = (read ≡ None) × Stands wrong rest.now
FindsBytes read (Err stuck.Memory) = Unit {0}

-- 5.5.4 to 5.5.14 the bytes after an item
abbrev pub after : Items → List ℕ → Option (List ℕ)
after Types bytes = rest_of (func_type.read bytes)
after Imports bytes = rest_of (an_import.read bytes)
after Functions bytes = rest_of (u32.read bytes)
after Tables bytes = rest_of (table_type.read bytes)
after Memories bytes = rest_of (limits.read bytes)
after Globals bytes = rest_of (global.read bytes)
after Exports bytes = rest_of (an_export.read bytes)
after Elements bytes = rest_of (element.read bytes)
after Bodies bytes = rest_of (blob.read bytes)
after Segments bytes = rest_of (data_segment.read bytes)

-- 5.5.2 the id of their section
abbrev pub id_of : Items → ℕ
id_of Types = 1
id_of Imports = 2
id_of Functions = 3
id_of Tables = 4
id_of Memories = 5
id_of Globals = 6
id_of Exports = 7
id_of Elements = 9
id_of Bodies = 10
id_of Segments = 11

-- ---- section by section

-- 5.5.2 the bytes after a section: its id, its size and as many bytes
abbrev pub after_section : List ℕ → Option (List ℕ)
after_section [] = None
after_section (id ∷ sized) = rest_of (blob.read sized)

-- 5.5.15 the bytes after the header and `n` sections
abbrev pub after_sections : ℕ → List ℕ → Option (List ℕ)
after_sections zero bytes = Some (drop 8 bytes)
after_sections (suc n) bytes = on (after_sections n bytes) after_section

-- 5.5.2 a section of that id has these contents, and these bytes follow it
abbrev pub HasSection : List ℕ → ℕ → List ℕ → List ℕ → Type 0
HasSection bytes id contents others =
    (n : ℕ) × (sized : List ℕ) × (after_sections n bytes ≡ Some (id ∷ sized)) × (blob.read sized ≡ Some (contents, others))

-- the bytes after one item more
abbrev pub after_one_more : Items → Option (List ℕ) → Option (List ℕ)
after_one_more items None = None
after_one_more items (Some bytes) = after items bytes

-- the bytes after `n` items
abbrev pub after_items : Items → ℕ → List ℕ → Option (List ℕ)
after_items items zero bytes = Some bytes
after_items items (suc n) bytes = after_one_more items (after_items items n bytes)

-- 5.1.3 a count, and after it and as many items these bytes are left
abbrev pub IsVector : Items → List ℕ → List ℕ → Type 0
IsVector items contents rest = (count : ℕ) × (first : List ℕ) × (u32.read contents ≡ Some (count, first)) × (after_items items count first ≡ Some rest)

-- 5.5.2 what stands in a section of that id with these contents, from the item at that position on; that of the start function is one item, with no count
abbrev pub IsItemIn : ℕ → List ℕ → ℕ → List ℕ → Type 0
IsItemIn id contents n item = ((id ≡ 8) × (n ≡ 0) × (item ≡ contents))
    ⊎ ((items : Items) × (id_of items ≡ id) × (count : ℕ) × (first : List ℕ) × (u32.read contents ≡ Some (count, first)) × (n < count) × (after_items items n first ≡ Some item))

-- 5.5.2 that is the offset of the item at that position of the section of that id: what stands from it on in the section, and what follows the section, end the module
pub record IsItemAt (bytes : List ℕ) (id position at : ℕ) : Type 0 where
  pub contents : List ℕ
  pub others : List ℕ
  pub section : HasSection bytes id contents others
  pub item : List ℕ
  pub there : IsItemIn id contents position item
  pub offset : at ≡ (length bytes - length others) - length item
  pub within : at < length bytes

-- the item at that position is none, and those before it are items
abbrev pub IsNoItem : Items → List ℕ → ℕ → Type 0
IsNoItem items contents n =
    (count : ℕ) × (first item : List ℕ) × (u32.read contents ≡ Some (count, first)) × (n < count) × (after_items items n first ≡ Some item) × (after items item ≡ None)

-- what the section of that id holds is read, and these bytes are left
abbrev pub AreRead : ℕ → List ℕ → List ℕ → Type 0
AreRead id contents rest = ((items : Items) × (id_of items ≡ id) × IsVector items contents rest)
    ⊎ (((id ≡ 0) × (rest_of (name.read contents) ≡ Some rest)) ⊎ ((id ≡ 8) × (rest_of (u32.read contents) ≡ Some rest)))

-- that part of what the section of that id holds cannot be read, and what stands before it can
abbrev pub IsUnread : ℕ → List ℕ → SectionPart → Type 0
IsUnread id contents (part.Item n) = (items : Items) × (id_of items ≡ id) × IsNoItem items contents n
IsUnread id contents part.Count = u32.read contents ≡ None
IsUnread id contents part.Start = (id ≡ 8) × (rest_of (u32.read contents) ≡ None)
IsUnread id contents part.Name = (id ≡ 0) × (rest_of (name.read contents) ≡ None)
IsUnread id contents _ = ⊥

-- what comes of reading a part, where these bytes are left or none
abbrev pub Comes : SectionPart → Option (List ℕ) → ContentsEnd → Type 0
Comes p left (outcome.After rest segment) = left ≡ Some rest.now
Comes p left outcome.Unknown = Unit {0}
Comes p left (outcome.Stopped l) = (l.part ≡ p) × (left ≡ None) × Stands l.wrong l.rest.now

-- what comes of reading `count` items
abbrev pub ItemsCome : Items → ℕ → List ℕ → ContentsEnd → Type 0
ItemsCome items count bytes (outcome.After rest segment) = after_items items count bytes ≡ Some rest.now
ItemsCome items count bytes outcome.Unknown = Unit {0}
ItemsCome items count bytes (outcome.Stopped l) =
    ((n : ℕ) × (item : List ℕ) × (l.part ≡ part.Item n) × (n < count) × (after_items items n bytes ≡ Some item) × (after items item ≡ None)) × Stands l.wrong l.rest.now

-- what comes of reading a vector
abbrev pub VectorComes : Items → List ℕ → ContentsEnd → Type 0
VectorComes items contents (outcome.After rest segment) = IsVector items contents rest.now
VectorComes items contents outcome.Unknown = Unit {0}
VectorComes items contents (outcome.Stopped l) =
    (((n : ℕ) × (l.part ≡ part.Item n) × IsNoItem items contents n) ⊎ ((l.part ≡ part.Count) × (u32.read contents ≡ None))) × Stands l.wrong l.rest.now

-- what comes of reading what a section holds
abbrev pub ContentsCome : ℕ → List ℕ → ContentsEnd → Type 0
ContentsCome id contents (outcome.After rest segment) = AreRead id contents rest.now
ContentsCome id contents outcome.Unknown = Unit {0}
ContentsCome id contents (outcome.Stopped l) = IsUnread id contents l.part × Stands l.wrong l.rest.now

-- ---- the location

-- 5.5.2 the least id of the sections before which one of that id stands, itself apart: in later standards a data count before the bodies, and tags before the globals
abbrev pub place_of : ℕ → ℕ
place_of id = if id == 12 then 10 else (if id == 13 then 6 else id)

-- what is wrong there is so beyond what its bytes tell: the id is too large or comes too late, or another number of bodies than of functions is read there
abbrev pub Otherwise : ℕ → Wrong → List ℕ → Type 0
Otherwise id wrong.Id bytes = 11 < id
Otherwise id (wrong.Order last) bytes = place_of id ≤ last
Otherwise id (wrong.Size says takes) bytes = Unit {0}
Otherwise id (wrong.Counts functions bodies) bytes = (functions ≢ bodies) × (rest : List ℕ) × (u32.read bytes ≡ Some (bodies, rest))
Otherwise id _ bytes = ⊥

-- what is wrong with these bytes in a section of that id
abbrev pub IsWrong : ℕ → List ℕ → Wrong → Type 0
IsWrong id bytes w = Stands w bytes ⊎ Otherwise id w bytes

-- the section has an id that none has, or that of one before it
abbrev pub IsOfId : Wrong → Type 0
IsOfId wrong.Id = Unit {0}
IsOfId (wrong.Order last) = Unit {0}
IsOfId _ = ⊥

-- as many functions are declared, and another number of bodies is there
abbrev pub AreUnlike : Wrong → Type 0
AreUnlike (wrong.Counts functions bodies) = functions ≢ bodies
AreUnlike _ = ⊥

-- the part of the contents of a section of that id that is told: it cannot be read, or bytes are left after what can, or the count of the bodies is another than that of the functions
abbrev pub IsPartOf : ℕ → List ℕ → Wrong → SectionPart → Type 0
IsPartOf id contents w part.End = (rest : List ℕ) × AreRead id contents rest × (rest ≢ [])
IsPartOf id contents w p = IsUnread id contents p ⊎ ((p ≡ part.Count) × AreUnlike w)

-- the part of a section of that id, after which these bytes come: the id, the size, or what stands in the contents
abbrev pub IsPart : ℕ → List ℕ → Wrong → SectionPart → Type 0
IsPart id sized w part.Id = IsOfId w
IsPart id sized w part.Size = blob.read sized ≡ None
IsPart id sized w p = (contents others : List ℕ) × (blob.read sized ≡ Some (contents, others)) × IsPartOf id contents w p

-- the part that is told is that of the section there
abbrev pub TellsPart : List ℕ → FoundSection → Wrong → SectionPart → Type 0
TellsPart bytes s w p = (sized : List ℕ) × (drop s.span.from bytes ≡ s.id ∷ sized) × IsPart s.id sized w p

-- the section there has these contents
abbrev pub Holds : List ℕ → FoundSection → List ℕ → Type 0
Holds bytes s contents = (sized others : List ℕ) × (drop s.span.from bytes ≡ s.id ∷ sized) × (blob.read sized ≡ Some (contents, others))

-- the section begins with its id; reading stopped before its end, within the module, in the part that is told, and what is wrong there is so
pub record TellsIn (bytes : List ℕ) (s : FoundSection) (p : Location) : Type 0 where
  pub id : slice_get bytes s.span.from ≡ Some s.id
  pub within : s.span.to ≤ length bytes
  pub at : p.at ≤ s.span.to
  pub part : TellsPart bytes s p.wrong p.part
  pub wrong : IsWrong s.id (between p.at s.span.to bytes) p.wrong

-- the same, or reading stopped at the end of the module, which has another number of bodies than of functions
abbrev pub TellsOf : List ℕ → Option FoundSection → Location → Type 0
TellsOf bytes (Some s) p = TellsIn bytes s p
TellsOf bytes None p = (p.at ≡ length bytes) × (p.part ≡ part.End) × AreUnlike p.wrong

abbrev pub TellsLocation : List ℕ → Location → Type 0
TellsLocation bytes p = TellsOf bytes p.section p

-- what is told of one section more
abbrev pub TellsStep : List ℕ → Step → Type 0
TellsStep bytes (step.After w) = Unit {0}
TellsStep bytes (step.Stopped p) = IfSome p (TellsLocation bytes)

-- ---- the body at a position

-- 5.5.13 the span is that of the body at that position in the section of bodies: what follows in the section, and in the module, comes after it
pub record IsBodyAt (bytes : List ℕ) (position : ℕ) (s : Span) : Type 0 where
  pub contents : List ℕ
  pub others : List ℕ
  pub section : HasSection bytes 10 contents others
  pub count : ℕ
  pub first : List ℕ
  pub counted : u32.read contents ≡ Some (count, first)
  pub item : List ℕ
  pub before : after_items Bodies position first ≡ Some item
  pub body : List ℕ
  pub after : List ℕ
  pub read : blob.read item ≡ Some (body, after)
  pub to : s.to ≡ (length bytes - length others) - length after
  pub from : s.from ≡ s.to - length body
