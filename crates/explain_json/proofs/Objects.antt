-- The tokens that are written for members are those of JSON values, which nest no deeper than four times.
use Rattle.std.proofs.Common.{◌≡◌, ℕ, ◌+◌, ◌≤◌, List, [], ◌∷◌, ◌++◌, IfOk, IsSomeAnd, Option, Some, None, Result, Ok, Err, decimal, flat_map, string_bytes, String, sym, refl, ap, ◌∙◌, arith, append_assoc, append-nil, option_and_then, codes}
use Rattle.std.specs.declared.alloc.Global.{Global}
use Rattle.json.specs.Json.{Json, number, string, array, object, Items, no_items, item, Members, no_members, member, if_last, max_depth, document, value}
use Rattle.json.specs.Lex.{tokens}
use Rattle.json.specs.Token.{Token, begin_array, begin_object, end_array, end_object, key}
use Rattle.json.specs.Tree.{json_tokens, items_tokens, members_tokens, depth, items_depth, members_depth}
use Rattle.json.proofs.Printed.Trees.{value-json_tokens}
use Rattle.wsyntax.specs.Validation.Verdict.{Verdict}
use Rattle.explain_json.specs.Written.{byte_tokens, text_tokens, plain_tokens, field_tokens, record_tokens, fact_tokens, entry_tokens}
use Rattle.explain_json.specs.declared.values.Plain.{Plain}
use Rattle.explain_json.specs.declared.values.Plain.TheVariants as plain
use Rattle.explain_json.specs.declared.values.Field.{Field}
use Rattle.explain_json.specs.declared.values.Fact.{Fact}
use Rattle.explain_json.specs.declared.values.Fact.TheVariants as fact
use Rattle.explain_json.specs.declared.values.Entry.{Entry}

-- ---- values by tokens: a value of no more than that depth has these tokens

record IsValue (n : ℕ) (ts : List Token) : Type 0 where
  pub j : Json
  pub are : json_tokens j ≡ ts
  pub shallow : depth j ≤ n

record AreItems (n : ℕ) (ts : List Token) : Type 0 where
  pub js : Items
  pub are : items_tokens js ≡ ts ++ end_array ∷ []
  pub shallow : items_depth js ≤ n

record AreMembers (n : ℕ) (ts : List Token) : Type 0 where
  pub ms : Members
  pub are : members_tokens ms ≡ ts ++ end_object ∷ []
  pub shallow : members_depth ms ≤ n

-- one more item
with_item : (n : ℕ) (ts us : List Token) → IsValue n ts → AreItems n us → AreItems n (ts ++ us)
with_item n ts us v vs = record {
  js = item v.j vs.js;
  are = ap (λ x. x ++ items_tokens vs.js) v.are ∙ ap (λ x. ts ++ x) vs.are ∙ sym (append_assoc ts us (end_array ∷ []));
  shallow = omega (arith, v.shallow, vs.shallow);
}

-- one more member
with_member : (n : ℕ) (k : List ℕ) (ts us : List Token) → IsValue n ts → AreMembers n us → AreMembers n ((key k ∷ ts) ++ us)
with_member n k ts us v vs = record {
  ms = member k v.j vs.ms;
  are = ap (λ x. key k ∷ (x ++ members_tokens vs.ms)) v.are ∙ ap (λ x. key k ∷ (ts ++ x)) vs.are ∙ ap (λ x. key k ∷ x) (sym (append_assoc ts us (end_object ∷ [])));
  shallow = omega (arith, v.shallow, vs.shallow);
}

-- items one by one
items_of : {X : Type 0} (n : ℕ) (f : X → List Token) → ((x : X) → IsValue n (f x)) → (xs : List X) → AreItems n (flat_map f xs)
items_of n f each [] = record { js = no_items; are = refl; shallow = omega arith }
items_of n f each (x ∷ xs) = with_item n (f x) (flat_map f xs) (each x) (items_of n f each xs)

array_of : (n : ℕ) (ts : List Token) → AreItems n ts → IsValue (n + 1) (begin_array ∷ (ts ++ end_array ∷ []))
array_of n ts vs = record { j = array vs.js; are = ap (λ x. begin_array ∷ x) vs.are; shallow = omega (arith, vs.shallow) }

object_of : (n : ℕ) (ts : List Token) → AreMembers n ts → IsValue (n + 1) (begin_object ∷ (ts ++ end_object ∷ []))
object_of n ts vs = record { j = object vs.ms; are = ap (λ x. begin_object ∷ x) vs.are; shallow = omega (arith, vs.shallow) }

-- ---- what members say

byte_value : (b : ℕ) → IsValue 0 (byte_tokens b)
byte_value b = record { j = number (decimal b); are = refl; shallow = omega arith }

text_value : (s : String Global) → IsValue 0 (text_tokens s)
text_value s = record { j = string (string_bytes s); are = refl; shallow = omega arith }

deeper : (m n : ℕ) (ts : List Token) → m ≤ n → IsValue m ts → IsValue n ts
deeper m n ts le v = record { j = v.j; are = v.are; shallow = omega (arith, le, v.shallow) }

plain_value : (p : Plain) → IsValue 1 (plain_tokens p)
plain_value (plain.Text s) = deeper 0 1 (text_tokens s) (omega arith) (text_value s)
plain_value (plain.Number n) = deeper 0 1 (byte_tokens n) (omega arith) (byte_value n)
plain_value (plain.Bytes v) = array_of 0 (flat_map byte_tokens v.items) (items_of 0 byte_tokens byte_value v.items)

fields_members : (fields : List Field) → AreMembers 1 (flat_map field_tokens fields)
fields_members [] = record { ms = no_members; are = refl; shallow = omega arith }
fields_members (f ∷ fs) = with_member 1 f.key.now (plain_tokens f.plain) (flat_map field_tokens fs) (plain_value f.plain) (fields_members fs)

record_value : (fields : List Field) → IsValue 2 (record_tokens fields)
record_value fields = object_of 1 (flat_map field_tokens fields) (fields_members fields)

fact_value : (f : Fact) → IsValue 3 (fact_tokens f)
fact_value (fact.Plain p) = deeper 1 3 (plain_tokens p) (omega arith) (plain_value p)
fact_value (fact.Texts v) =
    deeper 1 3 (fact_tokens (fact.Texts v)) (omega arith) (array_of 0 (flat_map text_tokens v.items) (items_of 0 text_tokens text_value v.items))
fact_value (fact.Record v) = deeper 2 3 (record_tokens v.items) (omega arith) (record_value v.items)
fact_value (fact.Records v) = array_of 2 (flat_map (λ r. record_tokens r.items) v.items) (items_of 2 (λ r. record_tokens r.items) (λ r. record_value r.items) v.items)

entries_members : (entries : List Entry) → AreMembers 3 (flat_map entry_tokens entries)
entries_members [] = record { ms = no_members; are = refl; shallow = omega arith }
entries_members (e ∷ es) = with_member 3 e.key.now (fact_tokens e.fact) (flat_map entry_tokens es) (fact_value e.fact) (entries_members es)

-- ---- the whole object

-- a text whose tokens are those of a value is that value
document_of : (text : List ℕ) (j : Json) → tokens text ≡ json_tokens j → depth j ≤ max_depth → document text ≡ Some j
document_of text j are shallow =
    ap (option_and_then (λ p. if_last p.0 p.1)) (ap (value max_depth) (are ∙ sym (append-nil (json_tokens j))) ∙ value-json_tokens j max_depth [] shallow)

-- the tokens of an object with that first member
pub object_written : (verdict text : List ℕ) (entries : List Entry) → tokens text ≡ begin_object ∷ key (codes "verdict") ∷ Token.string verdict ∷ (flat_map entry_tokens entries ++ end_object ∷ [])
    → (others : Members) × (document text ≡ Some (object (member (codes "verdict") (string verdict) others)))
object_written verdict text entries are =
    let others = entries_members entries in
    let j = object (member (codes "verdict") (string verdict) others.ms) in
    (others.ms, document_of text j (are ∙ ap (λ x. begin_object ∷ key (codes "verdict") ∷ Token.string verdict ∷ x) (sym others.are)) (omega (arith, others.shallow)))

-- what follows of each verdict follows of the one that is told
pub told_too : {X E : Type 0} (told : Option Verdict) (P : Verdict → Type 0) (Q : Verdict → X → Type 0) (r : Result X E) → IsSomeAnd told P → IfOk r (λ x. (v : Verdict) → P v → Q v x) → IfOk r (λ x. IsSomeAnd told (λ v. Q v x))
told_too None P Q r p follows = absurd p
told_too (Some v) P Q (Ok x) p follows = follows v p
told_too (Some v) P Q (Err e) p follows = tt
