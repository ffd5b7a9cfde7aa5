-- A line is read as a name and fields.
use Rattle.std.proofs.Common.{◌≡◌, ◌≢◌, ℕ, ◌<◌, List, [], ◌∷◌, ◌++◌, length, drop, All, flat_map, refl, sym, ap, ◌∙◌, subst, append_assoc, arith}
use Rattle.std.proofs.lemmas.List.{append-nil}
use Rattle.std.proofs.lemmas.Grind.{flat_map-append}
use Rattle.wsyntax.specs.declared.value.Value.{Value}
use Rattle.wsyntax.specs.Execution.Values.{IsWord, AreWords}
use Rattle.wsyntax.specs.Texts.Words.{tab, value_text}
use Rattle.wsyntax.specs.Texts.Calls.{Call, IsName, IsCall, call_text}
use Rattle.batch_text.specs.Reading.{StopsAt, SplitsBefore}
use Rattle.batch_text.proofs.Marks.{split_unique, All-front, value_free}

-- the fields of arguments
abbrev pub args_text : List Value → List ℕ
args_text args = flat_map (λ v. tab ++ value_text v) args

-- the line says a name and arguments so far, and whatever call it says, the rest is that of its arguments
pub record FieldsRead (line name rest : List ℕ) (args : List Value) : Type 0 where
  pub is_name : IsName name
  pub words : AreWords args
  pub written : line ≡ name ++ (args_text args ++ rest)
  pub stops : StopsAt 0x09 rest
  pub others : (c : Call) → IsCall c → line ≡ call_text c → (more : List Value) × AreWords more × (rest ≡ args_text more)

args_stop : (args : List Value) → StopsAt 0x09 (args_text args)
args_stop [] = tt
args_stop (v ∷ args) = refl

name_of : (name : List ℕ) → All (λ b. b ≢ 0x09) name → All (λ b. b ≢ 0x0A) name → IsName name
name_of name a b = λ k d l. (a k d l, b k d l)

no_tab : (name : List ℕ) → IsName name → All (λ b. b ≢ 0x09) name
no_tab name h = λ k d l. (h k d l).0

-- the name is read
pub fields_begin : (line name rest : List ℕ) → All (λ b. b ≢ 0x0A) line → SplitsBefore 0x09 line name rest → FieldsRead line name rest []
fields_begin line name rest free split = record {
  is_name = name_of name split.free (All-front (λ b. b ≢ 0x0A) name rest (subst (All (λ b. b ≢ 0x0A)) split.joined free));
  words = tt;
  written = split.joined;
  stops = split.stops;
  others = λ c h e. (c.args, h.words, (split_unique 0x09 name c.name rest (args_text c.args) split.free (no_tab c.name h.name) split.stops (args_stop c.args) (sym split.joined ∙ e)).1);
}

words_more : (args : List Value) (v : Value) → AreWords args → IsWord v → AreWords (args ++ v ∷ [])
words_more [] v h w = (w, tt)
words_more (u ∷ args) v h w = (h.0, words_more args v h.1 w)

-- the rest begins with a field
rest_splits : (rest field after : List ℕ) → 0 < length rest → StopsAt 0x09 rest → SplitsBefore 0x09 (drop 1 rest) field after → rest ≡ 0x09 ∷ (field ++ after)
rest_splits [] field after some stop split = absurd (omega arith)
rest_splits (b ∷ rest) field after some stop split = ap (λ x. x ∷ rest) stop ∙ ap (λ l. 0x09 ∷ l) split.joined

-- the arguments of a call that the line says begin with that field
field_of : (rest field after : List ℕ) (more : List Value) → rest ≡ 0x09 ∷ (field ++ after) → SplitsBefore 0x09 (drop 1 rest) field after → AreWords more → rest ≡ args_text more
    → (v : Value) × (vs : List Value) × IsWord v × AreWords vs × (field ≡ value_text v) × (after ≡ args_text vs)
field_of rest field after [] at split words e = absurd cc
field_of rest field after (v ∷ vs) at split words e =
    let same : field ++ after ≡ value_text v ++ args_text vs = cc in
    let (p, q) = split_unique 0x09 field (value_text v) after (args_text vs) split.free (value_free v words.0) split.stops (args_stop vs) same in
    (v, vs, words.0, words.1, p, q)

regroup : (args : List Value) (v : Value) (after : List ℕ) → args_text args ++ (0x09 ∷ (value_text v ++ after)) ≡ args_text (args ++ v ∷ []) ++ after
regroup args v after =
    sym (append_assoc (args_text args) (0x09 ∷ value_text v) after)
    ∙ ap (λ l. (args_text args ++ l) ++ after) (sym (append-nil (0x09 ∷ value_text v))) ∙ ap (λ l. l ++ after) (sym (flat_map-append (λ u. tab ++ value_text u) args (v ∷ [])))

-- a field more is read
pub field_more : (line name rest field after : List ℕ) (args : List Value) (v : Value) → 0 < length rest → FieldsRead line name rest args → SplitsBefore 0x09 (drop 1 rest) field after → IsWord v × (field ≡ value_text v)
    → FieldsRead line name after (args ++ v ∷ [])
field_more line name rest field after args v some h split (word, is) =
    let at = rest_splits rest field after some h.stops split in
    record {
      is_name = h.is_name;
      words = words_more args v h.words word;
      written = h.written ∙ ap (λ l. name ++ (args_text args ++ l)) (at ∙ ap (λ l. 0x09 ∷ (l ++ after)) is) ∙ ap (λ l. name ++ l) (regroup args v after);
      stops = split.stops;
      others = λ c k e. let (more, words, rest_is) = h.others c k e in let (u, us, w, ws, p, q) = field_of rest field after more at split words rest_is in (us, ws, q);
    }

-- a field that no value has
pub field_refused : (line name rest field after : List ℕ) (args : List Value) → 0 < length rest → FieldsRead line name rest args → SplitsBefore 0x09 (drop 1 rest) field after → ((v : Value) → IsWord v → field ≢ value_text v)
    → (c : Call) → IsCall c → line ≢ call_text c
field_refused line name rest field after args some h split none c k e =
    let (more, words, rest_is) = h.others c k e in
    let (v, vs, w, ws, p, q) = field_of rest field after more (rest_splits rest field after some h.stops split) split words rest_is in
    none v w p
