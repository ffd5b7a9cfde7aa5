-- The tokens of JSON that are written for members.
use Rattle.std.specs.Prelude.{ℕ, List, [], ◌∷◌, ◌++◌, String, decimal, flat_map, string_bytes}
use Rattle.json.specs.Token.{Token, begin_array, begin_object, end_array, end_object, key, number, string}
use Rattle.explain_json.specs.declared.values.Plain.{Plain}
use Rattle.explain_json.specs.declared.values.Plain.TheVariants as plain
use Rattle.explain_json.specs.declared.values.Field.{Field}
use Rattle.explain_json.specs.declared.values.Fact.{Fact}
use Rattle.explain_json.specs.declared.values.Fact.TheVariants as fact
use Rattle.explain_json.specs.declared.values.Entry.{Entry}
use Rattle.std.specs.declared.alloc.Global.{Global}

abbrev pub byte_tokens : ℕ → List Token
byte_tokens b = number (decimal b) ∷ []

abbrev pub text_tokens : String Global → List Token
text_tokens s = string (string_bytes s) ∷ []

abbrev pub plain_tokens : Plain → List Token
plain_tokens (plain.Text s) = text_tokens s
plain_tokens (plain.Number n) = byte_tokens n
plain_tokens (plain.Bytes bytes) = begin_array ∷ (flat_map byte_tokens bytes.items ++ end_array ∷ [])

abbrev pub field_tokens : Field → List Token
field_tokens f = key f.key.now ∷ plain_tokens f.plain

abbrev pub record_tokens : List Field → List Token
record_tokens fields = begin_object ∷ (flat_map field_tokens fields ++ end_object ∷ [])

abbrev pub fact_tokens : Fact → List Token
fact_tokens (fact.Plain p) = plain_tokens p
fact_tokens (fact.Texts texts) = begin_array ∷ (flat_map text_tokens texts.items ++ end_array ∷ [])
fact_tokens (fact.Record fields) = record_tokens fields.items
fact_tokens (fact.Records records) = begin_array ∷ (flat_map (λ r. record_tokens r.items) records.items ++ end_array ∷ [])

abbrev pub entry_tokens : Entry → List Token
entry_tokens e = key e.key.now ∷ fact_tokens e.fact
