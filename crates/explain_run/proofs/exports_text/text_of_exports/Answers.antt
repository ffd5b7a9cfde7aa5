use Rattle.std.specs.Prelude.{string_bytes}
use Rattle.explain_run.proofs.ExportLines.{lines_then_last}
use Rattle.explain_run.proofs.exports_text.text_of_exports.Goals as goal

pub returns : goal.returns
returns c = (
  c.deref-3.result.now,
  string_bytes c.in_ok-last.last,
  c.in_ok-last.ensures,
  lines_then_last c.module-module.result.now c.args.accepted.now.module c.context.result.now c.args.accepted.now.context
      c.deref.result.now c.deref-2.result.now c.deref-3.result.now
      (string_bytes c.new-text.result) (string_bytes c.push_imports.new.text) (string_bytes c.push_exports.new.text) (string_bytes c.push_customs.new.text)
      (string_bytes c.in_ok-last.last) c.as_str.result.now (string_bytes c.push_str.new.self)
      c.module-module.ensures c.context.ensures c.deref.ensures.value c.deref-2.ensures.value c.new-text.ensures.bytes
      c.in_ok-push_imports.ensures c.in_ok-push_exports.ensures c.in_ok-push_customs.ensures c.as_str.ensures.value c.in_ok-push_str.ensures.bytes,
)
