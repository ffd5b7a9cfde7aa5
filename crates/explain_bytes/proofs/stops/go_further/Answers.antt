use Rattle.std.proofs.Common.{[], ◌++◌, refl, reverse}
use Rattle.wsyntax.specs.Modules.{decoded_as}
use Rattle.wsyntax.specs.Binary.Nesting.{nest}
use Rattle.explain_bytes.proofs.Lefts.{closed_when, none_when, open_when}
use Rattle.explain_bytes.proofs.stops.go_further.Goals as goal

pub returns-in-Ok-true : goal.returns-in-Ok-true
returns-in-Ok-true c =
    let ts = c.token_at.new.targets.items ++ [] in
    let t = decoded_as ts c.in-Ok.found.0 in
    (t, c.in-Ok.ensures.ok.2 [], closed_when (nest (reverse c.args.opened.now.items) t) (reverse c.enter.new.opened.items) c.in-Ok-true.field-0 (c.in-Ok-true.ensures.ok ts) c.in-Ok-true.field-0-test)

pub returns-in-Ok-false : goal.returns-in-Ok-false
returns-in-Ok-false c =
    let ts = c.token_at.new.targets.items ++ [] in
    let t = decoded_as ts c.in-Ok.found.0 in
    (t, c.in-Ok.ensures.ok.2 [], open_when (nest (reverse c.args.opened.now.items) t) (reverse c.enter.new.opened.items) c.in-Ok-false.field-0 (c.in-Ok-false.ensures.ok ts) c.in-Ok-false.field-0-test)

pub returns-in-Err-Malformed-enter : goal.returns-in-Err-Malformed-enter
returns-in-Err-Malformed-enter c =
    let ts = c.token_at.new.targets.items ++ [] in
    let t = decoded_as ts c.in-Ok.found.0 in
    let inner = reverse c.args.opened.now.items in
    (t, c.in-Ok.found.1.now, c.in-Ok.ensures.ok.2 [], inner, refl, none_when c.in-Err-Malformed-enter.field-0 (nest inner t) c.in-Err-Malformed-enter.field-0-is (c.in-Err-Malformed-enter.ensures.err ts))
