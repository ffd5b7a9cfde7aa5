use Rattle.std.proofs.Common.{◌≡◌, get_or, ap, ◌++◌, ◌∙◌, inl, inr, string_bytes}
use Rattle.wsyntax.specs.declared.value.Value.TheVariants.{I32}
use Rattle.wsyntax.specs.Texts.Words.{value_text}
use Rattle.batch_text.proofs.Joined.{separator, separator_is, values_more}
use Rattle.batch_text.proofs.words.push_values.Goals as goal
use Rattle.batch_text.proofs.words.push_values.Goals.{then-position-eq0, else-position-eq0}

pub loop-position-preserved : goal.loop-position-preserved
loop-position-preserved c =
    let i = c.loop-position.position in
    let front : c.if-position-eq0.push_str.now ≡ separator i = elim c.if-position-eq0.branch [
      | then-position-eq0 w ↦ separator_is i c.if-position-eq0.push_str.now (inl (w.if-position-eq0.true, ap (λ s. s.now) w.push_str-is))
      | else-position-eq0 w ↦ separator_is i c.if-position-eq0.push_str.now (inr (w.if-position-eq0.false, ap (λ s. s.now) w.push_str-is))
    ] in
    let written = c.in_ok-push_str.ensures.bytes ∙ ap (λ l. string_bytes c.loop-position.text ++ l) front in
    c.in_ok-push_value.ensures ∙ ap (λ l. l ++ value_text (get_or c.args.values.now i (I32 0))) written ∙ values_more c.args.values.now i (I32 0) _ _ c.loop-position-test.true c.loop-position.invariant
