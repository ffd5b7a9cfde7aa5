-- The fields that an explanation tells.
use Rattle.std.specs.Prelude.{ℕ, List, Option, Some, None, option_map, slice_get}
use Rattle.explanation.specs.declared.explanation.BodyExplanation.{BodyExplanation}
use Rattle.explanation.specs.declared.explanation.BodyExplanation.TheVariants as fault
use Rattle.explanation.specs.declared.explanation.Explanation.{Explanation}
use Rattle.explanation.specs.declared.explanation.Explanation.TheVariants as told
use Rattle.explanation.specs.declared.explanation.NoModule.{NoModule}
use Rattle.explanation.specs.declared.explanation.NoModule.TheVariants as header
use Rattle.explanation.specs.declared.explanation.Span.{Span}
use Rattle.explanation.specs.declared.explanation.Stopped.{Stopped}
use Rattle.explanation.specs.declared.explanation.Stopped.TheVariants as stopped
use Rattle.explanation.specs.declared.fields.ExplanationKind.{ExplanationKind}
use Rattle.explanation.specs.declared.fields.ExplanationKind.TheVariants as kind
use Rattle.explanation.specs.declared.shell_location.SectionPart.{SectionPart}
use Rattle.explanation.specs.declared.shell_location.SectionPart.TheVariants as part

-- ---- the kind

abbrev pub kind_of_no_module : NoModule → ExplanationKind
kind_of_no_module header.Short = kind.ShortHeader
kind_of_no_module (header.Magic at found (Some form)) = kind.OtherForm form
kind_of_no_module (header.Magic at found None) = kind.Magic
kind_of_no_module (header.Version at found (Some form)) = kind.OtherForm form
kind_of_no_module (header.Version at found None) = kind.Version
kind_of_no_module (header.Sections location sign) = kind.Sections

abbrev pub kind_of_stop : Stopped → ExplanationKind
kind_of_stop stopped.Locals = kind.Locals
kind_of_stop stopped.Token = kind.Token
kind_of_stop stopped.Else = kind.Else
kind_of_stop stopped.Left = kind.Left
kind_of_stop stopped.Short = kind.ShortBody

abbrev pub kind_of_fault : BodyExplanation → ExplanationKind
kind_of_fault (fault.Malformed (Some s) unclosed before) = kind_of_stop s.why
kind_of_fault (fault.Malformed None unclosed before) = kind.BodyMalformed
kind_of_fault (fault.TooManyLocals count) = kind.TooManyLocals
kind_of_fault (fault.IllTyped position found typing cause) = kind.IllTyped

abbrev pub kind_told : Explanation → ExplanationKind
kind_told told.Accepted = kind.Accepted
kind_told (told.TooLarge bytes) = kind.TooLarge
kind_told (told.Malformed what) = kind_of_no_module what
kind_told (told.Rule k item sign) = kind.Rule
kind_told (told.Body b) = kind_of_fault b.fault
kind_told told.Memory = kind.Memory

-- ---- the span: from the first byte on up to the byte after the last; where reading stopped these are one

abbrev pub at_offset : ℕ → Span
at_offset at = record { from = at; to = at }

abbrev pub span_of_no_module : NoModule → Option Span
span_of_no_module (header.Magic at found form) = Some (at_offset at)
span_of_no_module (header.Version at found form) = Some (at_offset at)
span_of_no_module (header.Sections (Some p) sign) = Some (at_offset p.at)
span_of_no_module _ = None

abbrev pub span_of_fault : BodyExplanation → Option Span
span_of_fault (fault.Malformed (Some s) unclosed before) = Some (at_offset s.at)
span_of_fault (fault.IllTyped position (Some f) typing cause) = Some f.span
span_of_fault _ = None

abbrev pub span_told : Explanation → Option Span
span_told (told.Malformed what) = span_of_no_module what
span_told (told.Rule k (Some item) sign) = option_map at_offset item.at
span_told (told.Body b) = span_of_fault b.fault
span_told _ = None

-- 5.5.13 bodies stand in section 10
abbrev pub section_told : Explanation → Option ℕ
section_told (told.Body b) = Some 10
section_told (told.Malformed (header.Sections (Some p) sign)) = option_map (λ s. s.id) p.section
section_told (told.Rule k (Some item) sign) = Some item.section
section_told _ = None

abbrev pub item_of_part : SectionPart → Option ℕ
item_of_part (part.Item n) = Some n
item_of_part _ = None

abbrev pub item_told : Explanation → Option ℕ
item_told (told.Malformed (header.Sections (Some p) sign)) = item_of_part p.part
item_told (told.Rule k (Some item) sign) = Some item.position
item_told _ = None

-- ---- the body

abbrev pub opcode_of_stop : Stopped → List ℕ → Option ℕ
opcode_of_stop stopped.Token rest = slice_get rest 0
opcode_of_stop stopped.Else rest = slice_get rest 0
opcode_of_stop _ rest = None

abbrev pub opcode_of_fault : BodyExplanation → Option ℕ
opcode_of_fault (fault.Malformed (Some s) unclosed before) = opcode_of_stop s.why s.rest.now
opcode_of_fault (fault.IllTyped position (Some f) typing cause) = Some f.opcode
opcode_of_fault _ = None

abbrev pub opcode_told : Explanation → Option ℕ
opcode_told (told.Body b) = opcode_of_fault b.fault
opcode_told _ = None

abbrev pub body_told : Explanation → Option Span
body_told (told.Body b) = b.span
body_told _ = None
