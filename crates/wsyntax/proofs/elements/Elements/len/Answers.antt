use Rattle.std.proofs.Common.{sym, ap, ◌∙◌, length}
use Rattle.wsyntax.proofs.Segments.{count_from}
use Rattle.wsyntax.proofs.elements.Elements.len.Goals as goal

pub returns : goal.returns
returns c = c.len.ensures ∙ c.self.inside.segments.ok.0 ∙ sym (count_from c.self.inside.functions.items 0 c.self.inside.segments.items) ∙ ap length c.self.view_is
