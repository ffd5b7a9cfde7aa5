-- The fields and the text of an explanation.
use Rattle.std.specs.Prelude.{◌≡◌, ◌⊎◌, ℕ, List, Option, Some, None, option_map}
use Rattle.wsyntax.specs.Validation.Verdict.{Verdict, IsVerdict}
use Rattle.wsyntax.specs.Texts.Lines.{verdict_line}
use Rattle.explanation.specs.declared.explanation.Explanation.{Explanation}
use Rattle.explanation.specs.declared.explanation.Form.{Form}
use Rattle.explanation.specs.declared.explanation.Form.TheVariants as form
use Rattle.explanation.specs.declared.fields.ExplanationKind.{ExplanationKind}
use Rattle.explanation.specs.declared.fields.ExplanationKind.TheVariants as kind
use Rattle.explanation.specs.Fields.{body_told, item_told, kind_told, opcode_told, span_told, section_told}
use Rattle.explain.specs.Placed.{AreSo}
use Rattle.explain_text.specs.Texts.{BeginsWith}
use Rattle.explanation.specs.Told.{verdict_told}
use Rattle.c_api.specs.declared.explained.GateExplanation.{GateExplanation}
use Rattle.c_api.specs.Texts.{AreKept, Hands}
use Rattle.c_api.specs.Verdicts.{fields_of, status_of}

-- of bytes that begin as a file of another form does
abbrev pub form_code : Form → ℕ
form_code form.Text = 201
form_code form.Gzip = 202
form_code form.Component = 207
form_code form.Xz = 208
form_code form.Zstd = 209
form_code form.Elf = 210
form_code form.Objects = 211
form_code form.Bitcode = 212
form_code form.Markup = 213
form_code form.Json = 214
form_code form.Zip = 215
form_code form.Base64 = 216
form_code form.Utf16 = 217
form_code form.ByteOrderMark = 218
form_code form.LfsPointer = 219

-- the hundreds are the kind of the verdict
abbrev pub kind_code : ExplanationKind → ℕ
kind_code kind.Accepted = 0
kind_code kind.TooLarge = 100
kind_code (kind.OtherForm f) = form_code f
kind_code kind.ShortHeader = 203
kind_code kind.Magic = 204
kind_code kind.Version = 205
kind_code kind.Sections = 206
kind_code kind.Rule = 300
kind_code kind.BodyMalformed = 400
kind_code kind.Locals = 401
kind_code kind.Token = 402
kind_code kind.Else = 403
kind_code kind.Left = 404
kind_code kind.ShortBody = 405
kind_code kind.TooManyLocals = 500
kind_code kind.IllTyped = 600
kind_code kind.Memory = 0

-- a number of 64 bits, and one of 32 bits; what is not told is the greatest
abbrev pub wide : Option ℕ → ℕ
wide (Some n) = n
wide None = 0xFFFFFFFFFFFFFFFF

abbrev pub short : Option ℕ → ℕ
short (Some n) = n
short None = 0xFFFFFFFF

-- those of an explanation that tells that verdict
abbrev pub fields_with : Explanation → Verdict → GateExplanation
fields_with e v = record {
  verdict = fields_of v;
  why = kind_code (kind_told e);
  section = short (section_told e);
  opcode = short (opcode_told e);
  item = wide (item_told e);
  body_from = wide (option_map (λ s. s.from) (body_told e));
  body_to = wide (option_map (λ s. s.to) (body_told e));
  from = wide (option_map (λ s. s.from) (span_told e));
  to = wide (option_map (λ s. s.to) (span_told e));
}

-- the bytes have the verdict that the explanation tells, and what it tells beside that is so
pub record IsExplanation (bytes : List ℕ) (e : Explanation) (v : Verdict) : Type 0 where
  pub told : verdict_told e ≡ Some v
  pub judged : IsVerdict bytes v
  pub so : AreSo bytes e

-- the fields of an explanation of the bytes are written, and the status is that of its verdict; or memory was refused, and nothing is written
abbrev pub Explains : List ℕ → GateExplanation → GateExplanation → ℕ → Type 0
Explains bytes old new status =
    ((status ≡ 70) × (new ≡ old))
    ⊎ ((e : Explanation) × (v : Verdict) × IsExplanation bytes e v × (new ≡ fields_with e v) × (status ≡ status_of v))

-- a text whose first line is that of the verdict is handed out; or memory was refused, and nothing is written
abbrev pub HandsText : List ℕ → List ℕ → List ℕ → ℕ → ℕ → ℕ → Type 0
HandsText bytes old new was now answered =
    ((answered ≡ 70) × AreKept old new was now)
    ⊎ ((text : List ℕ) × (v : Verdict) × IsVerdict bytes v × BeginsWith (verdict_line v) text × Hands text (status_of v) old new now answered)
