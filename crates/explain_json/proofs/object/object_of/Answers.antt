use Rattle.std.proofs.Common.{◌≡◌, [], ◌∷◌, ◌++◌, ap, codes, flat_map, ◌∙◌}
use Rattle.json.specs.Lex.{tokens}
use Rattle.json.specs.Print.{print}
use Rattle.json.specs.Token.{begin_object, end_object, key, string}
use Rattle.explain_json.specs.Written.{entry_tokens}
use Rattle.explain_json.proofs.Objects.{object_written}
use Rattle.explain_json.proofs.object.object_of.Goals as goal

pub returns : goal.returns
returns c =
    let first = begin_object ∷ key (codes "verdict") ∷ string c.args.verdict.now ∷ [] in
    let opened = c.in_ok-begin_object.ensures in
    let named = c.in_ok-key.ensures in
    let said = c.in_ok-string.ensures in
    let written = c.in_ok-write_entries.ensures in
    let closed = c.in_ok-end_object.ensures in
    let verdict : c.string.new.self.tokens ≡ first =
    said.ok ∙ ap (λ x. x ++ string c.args.verdict.now ∷ []) (named.ok ∙ ap (λ x. x ++ key (codes "verdict") ∷ []) (opened.ok ∙ ap (λ x. x ++ begin_object ∷ []) c.new-writer.ensures.tokens)) in
    let all = closed.ok ∙ ap (λ x. x ++ end_object ∷ []) (written.tokens ∙ ap (λ x. x ++ flat_map entry_tokens c.args.entries.now) verdict) in
    let before : c.end_object.new.self.before ≡ [] =
    closed.room.0 ∙ written.before ∙ said.room.0 ∙ named.room.0 ∙ opened.room.0 ∙ c.new-writer.ensures.before ∙ c.new.ensures.items in
    let text : c.into_inner.result.items ≡ print c.end_object.new.self.tokens = c.into_inner.ensures.items ∙ ap (λ x. x ++ print c.end_object.new.self.tokens) before in
    object_written c.args.verdict.now c.into_inner.result.items c.args.entries.now (ap tokens text ∙ c.into_inner.ensures.reads_back ∙ all)
