use Rattle.std.proofs.Common.{◌≡◌, ◌+◌, ◌<◌, [], ◌∷◌, length, drop, subst, sym, ap, ◌∙◌, arith, rules}
use Rattle.std.specs.Option.{option_map}
use Rattle.std.proofs.lemmas.List.{length-map, map-append, take_rest}
use Rattle.wsyntax.specs.Texts.Calls.{IsCall, call_text}
use Rattle.batch_text.specs.Reading.{IsReading}
use Rattle.batch_text.specs.Calls.{calls_of, call_of}
use Rattle.batch_text.proofs.CallLines.{LinesRead, too_long, too_many, not_ended, line_ended, says_none, line_more, all_read}
use Rattle.batch_text.proofs.calls.read_calls.Goals as goal

pub returns-then-text-gt-CALLS_LIMIT-clause-said : goal.returns-then-text-gt-CALLS_LIMIT-clause-said
returns-then-text-gt-CALLS_LIMIT-clause-said c = too_long c.args.text.now (omega arith)

pub returns-then-len-eq-LINE_LIMIT-clause-said : goal.returns-then-len-eq-LINE_LIMIT-clause-said
returns-then-len-eq-LINE_LIMIT-clause-said c =
    let some : 0 < length c.lines.rest.now = search rules in
    let count : c.len.result ≡ length (calls_of c.lines.calls.items) = simp length-map (search rules) in
    let full : c.len-in-lines.result ≡ length (calls_of c.lines.calls.items) = simp length-map (search rules) in
    too_many c.args.text.now c.lines.rest.now (calls_of c.lines.calls.items) (c.len.result + 1) (omega arith) c.lines.invariant some (omega arith) (omega arith)

pub returns-then-is_empty-clause-said : goal.returns-then-is_empty-clause-said
returns-then-is_empty-clause-said c =
    let some : 0 < length c.lines.rest.now = search rules in
    let none : length c.split_before.result.1.now ≡ 0 = search rules in
    let count : c.len.result ≡ length (calls_of c.lines.calls.items) = simp length-map (search rules) in
    not_ended c.args.text.now c.lines.rest.now _ _ (calls_of c.lines.calls.items) (c.len.result + 1) (omega arith) c.lines.invariant some c.split_before.ensures none (omega arith)

pub returns-in_default-clause-said : goal.returns-in_default-clause-said
returns-in_default-clause-said c =
    let some : 0 < length c.split_before.result.1.now = search rules in
    let count : c.len.result ≡ length (calls_of c.lines.calls.items) = simp length-map (search rules) in
    let none = subst (λ o. IsReading IsCall call_text c.split_before.result.0.now (option_map call_of o)) c.in_default.is c.in_ok-call.ensures in
    says_none c.args.text.now c.lines.rest.now _ _ (calls_of c.lines.calls.items) (c.len.result + 1) (omega arith) c.lines.invariant c.split_before.ensures some (omega arith) none

pub lines-preserved : goal.lines-preserved
lines-preserved c =
    let some : 0 < length c.split_before.result.1.now = search rules in
    let count : c.len-in-lines.result ≡ length (calls_of c.lines.calls.items) = simp length-map (search rules) in
    let few = c.lines.invariant.few in
    let says = subst (λ o. IsReading IsCall call_text c.split_before.result.0.now (option_map call_of o)) c.in-Some.is c.in_ok-call.ensures in
    let calls = ap calls_of c.in_ok-push.ensures.items ∙ map-append call_of c.lines.calls.items (c.in-Some.call ∷ []) in
    let more = line_more c.args.text.now c.lines.rest.now _ _ (calls_of c.lines.calls.items) (call_of c.in-Some.call) c.lines.invariant (omega arith) (line_ended c.lines.rest.now _ _ c.split_before.ensures some) says in
    rw (take_rest c.split_before.result.1.now 1) (subst (λ l. LinesRead c.args.text.now (drop 1 c.split_before.result.1.now) l) (sym calls) more)

pub returns-clause-said : goal.returns-clause-said
returns-clause-said c =
    let none : length c.lines.rest.now ≡ 0 = search rules in
    all_read c.args.text.now c.lines.rest.now (calls_of c.lines.calls.items) (omega arith) none c.lines.invariant
