use Rattle.std.proofs.Common.{◌≡◌, ◌<◌, ◌≤◌, ◌++◌, length, take, drop, take-append-drop, sym, ap, ◌∙◌, rules, arith}
use Rattle.batch_text.specs.Calls.{calls_of}
use Rattle.batch.proofs.StreamedLines.{front_said, front_refused}
use Rattle.batch.proofs.front.read_front.Goals as goal

pub returns-in-Ok : goal.returns-in-Ok
returns-in-Ok c =
    let text = c.args.text.now in
    let front = c.split_at.result.0.now in
    let lines = c.end_of_lines.ensures in
    let is : front ≡ take c.end_of_lines.result text = search rules in
    let behind : c.split_at.result.1.now ≡ drop c.end_of_lines.result text = search rules in
    let both : text ≡ front ++ c.split_at.result.1.now = sym (take-append-drop c.end_of_lines.result text) ∙ ap (λ l. l ++ drop c.end_of_lines.result text) (sym is) ∙ ap (λ l. front ++ l) (sym behind) in
    let some : 0 < length front = search rules in
    (front, both, some, front_said front lines.lines (calls_of c.in-Ok.calls.items) lines.free (is ∙ lines.is) c.in-Ok.ensures.said)

pub returns-then-tried-eq0 : goal.returns-then-tried-eq0
returns-then-tried-eq0 c =
    let text = c.args.text.now in
    let front = c.split_at.result.0.now in
    let lines = c.end_of_lines.ensures in
    let is : front ≡ take c.end_of_lines.result text = search rules in
    let behind : c.split_at.result.1.now ≡ drop c.end_of_lines.result text = search rules in
    let both : text ≡ front ++ c.split_at.result.1.now = sym (take-append-drop c.end_of_lines.result text) ∙ ap (λ l. l ++ drop c.end_of_lines.result text) (sym is) ∙ ap (λ l. front ++ l) (sym behind) in
    let some : 0 < length front = search rules in
    let fewer = c.in_ok-tried-in-Err.ensures in
    let one : c.tries.tried ≡ 1 = fewer.2 c.if-tried-eq0.true in
    let few : length lines.lines ≤ 1 = omega (arith, lines.few, one) in
    front_refused c.in-Err.fault text front c.split_at.result.1.now lines.lines c.one_calls.ensures fewer.0 lines.free (is ∙ lines.is) few some c.in-Err.ensures.said both
