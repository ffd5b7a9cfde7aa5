use Rattle.std.proofs.Common.{rules, ◌≡◌, ◌<◌, ◌+◌, ◌-◌, sym, ap, ◌∙◌, subst, ◌++◌, ◌∷◌, [], length, List, arith, ℕ}
use Rattle.std.proofs.Math.ListN.{set, get_or}
use Rattle.wsyntax.specs.HeldElement.{HeldElement}
use Rattle.wsyntax.specs.Elements.{FillFrom, elements_from, with_function}
use Rattle.wsyntax.specs.declared.elements.Segment.{Segment}
use Rattle.wsyntax.proofs.Segments.{Later, later_of}
use Rattle.wsyntax.proofs.elements.Elements.push_function.Goals as goal

-- the last segment, written anew
later : (c : goal.After-self-1) → Later c.self.inside.functions.items c.args.function c.self.inside.segments.items (record c.index_mut.result.now { end = c.in_ok-end.end })
later c =
    let functions = c.self.inside.functions.items in
    let segments = c.self.inside.segments.items in
    let d : Segment = c.index_mut.result.now in
    let many : c.len-last.result ≡ length segments = c.len-last.ensures ∙ c.self.inside.segments.ok.0 in
    let some : 0 < length segments = search (rules, arith) in
    let end : c.in_ok-end.end ≡ length functions + 1 = c.in_ok-end.ensures ∙ ap (λ n. n + 1) (c.len.ensures ∙ c.self.inside.functions.ok.0) in
    later_of functions c.args.function segments (record d { end = c.in_ok-end.end }) d some
    (c.index_mut.ensures.value ∙ ap (λ n. get_or segments (n - 1) d) many) (ap (λ n. record d { end = n }) end) c.self.invariant

pub invariant_of-self-2 : goal.invariant_of-self-2
invariant_of-self-2 c =
    let segments = c.self.inside.segments.items in
    let new : Segment = record c.index_mut.result.now { end = c.in_ok-end.end } in
    let many : c.len-last.result ≡ length segments = c.len-last.ensures ∙ c.self.inside.segments.ok.0 in
    subst (λ (n : ℕ). FillFrom c.push.new.self.items 0 (set segments (n - 1) new)) (sym many)
    (subst (λ (fs : List ℕ). FillFrom fs 0 (set segments (length segments - 1) new)) (sym c.in_ok-push.ensures.items) (later c).fill)

pub returns : goal.returns
returns c =
    let functions = c.self.inside.functions.items in
    let segments = c.self.inside.segments.items in
    let f = c.args.function in
    let new : Segment = record c.index_mut.result.now { end = c.in_ok-end.end } in
    let many : c.len-last.result ≡ length segments = c.len-last.ensures ∙ c.self.inside.segments.ok.0 in
    ap (λ (fs : List ℕ). elements_from fs 0 (set segments (c.len-last.result - 1) new)) c.in_ok-push.ensures.items
    ∙ ap (λ (n : ℕ). elements_from (functions ++ f ∷ []) 0 (set segments (n - 1) new)) many
    ∙ (later c).held
    ∙ ap (λ (es : List HeldElement). with_function es f) c.self.view_is
