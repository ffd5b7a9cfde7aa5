use Rattle.std.proofs.Common.{◌≡◌, ◌++◌, false, ◌∙◌, rules}
use Rattle.wstore.specs.CallLimits.{limits_of}
use Rattle.batch.proofs.Streamed.{held_after, held_kept, nothing_stops}
use Rattle.batch.proofs.rounds.Rounds.take_piece.Goals as goal

pub returns-in_default : goal.returns-in_default
returns-in_default g c = nothing_stops c.args.self.now.accepted.now (limits_of c.args.self.now.settings) (c.args.held.now.items ++ c.args.piece.now) c.args.progress.now.tally _

pub returns-then-not-has_newline : goal.returns-then-not-has_newline
returns-then-not-has_newline g c =
    let none : c.has_newline.result ≡ false = search rules in
    held_after c.args.self.now.accepted.now (limits_of c.args.self.now.settings) c.line_held.result c.args.held.now.items c.args.piece.now c.extend_from_slice.new.self.items c.deref.result.now c.args.progress.now.tally _
    c.requires.free (c.has_newline.ensures none) c.in-Ok.ensures.items c.deref.ensures.value c.line_held.ensures

pub returns-in-Ok-to_vec : goal.returns-in-Ok-to_vec
returns-in-Ok-to_vec g c =
    let rest = c.in-Ok-Unended.rest in
    let text : c.deref-2.result.now ≡ c.args.held.now.items ++ c.args.piece.now = c.deref-2.ensures.value ∙ c.in-Ok.ensures.items in
    let same : c.in-Ok-to_vec.kept.items ≡ rest.now = c.in-Ok-to_vec.ensures.items_if_clones_equal (λ x y e. e) in
    held_kept c.args.self.now.accepted.now (limits_of c.args.self.now.settings) c.line_held-in-Ok-Unended.result (c.args.held.now.items ++ c.args.piece.now) c.deref-2.result.now c.in-Ok-to_vec.kept.items c.deref-in-Ok-Unended.result.now rest
    c.in-Ok-Unended.field-0 c.answer_lines.result c.args.progress.now.tally c.answer_lines.new.progress.tally (g.O.Write.contents c.args.out.now) (g.O.Write.contents c.answer_lines.new.out)
    text same c.deref-in-Ok-Unended.ensures.value c.in-Ok-Unended.is c.in-Ok-Unended.field-0-is c.answer_lines.ensures c.line_held-in-Ok-Unended.ensures
