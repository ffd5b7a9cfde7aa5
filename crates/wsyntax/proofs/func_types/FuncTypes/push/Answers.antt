use Rattle.std.proofs.Common.{◌≡◌, [], ◌∷◌, ◌++◌, length, map, refl, ap, ◌∙◌}
use Rattle.wsyntax.specs.FuncTypes.{type_in}
use Rattle.wsyntax.specs.declared.func_types.TypeRange.{TypeRange}
use Rattle.wsyntax.proofs.Ranges.{types_more}
use Rattle.wsyntax.proofs.func_types.FuncTypes.push.Goals as goal

pub returns : goal.returns
returns c =
    let values = c.self.inside.values.items in
    let ranges = c.self.inside.ranges.items in
    let params = c.args.params.now in
    let results = c.args.results.now in
    let r : TypeRange = record { start = c.in_ok-start.start; middle = c.in_ok-middle.middle; end = c.in_ok-end.end } in
    let first : c.extend_from_slice.new.self.items ≡ values ++ params = c.in_ok-extend_from_slice.ensures.items in
    let all : c.extend_from_slice-2.new.self.items ≡ (values ++ params) ++ results = c.in_ok-extend_from_slice-2.ensures.items ∙ ap (λ v. v ++ results) first in
    let start : r.start ≡ length values = c.in_ok-start.ensures ∙ c.len.ensures ∙ c.self.inside.values.ok.0 in
    let middle : r.middle ≡ length (values ++ params) = c.in_ok-middle.ensures ∙ c.len-2.ensures ∙ c.extend_from_slice.new.self.ok.0 ∙ ap length first in
    let end : r.end ≡ length ((values ++ params) ++ results) = c.in_ok-end.ensures ∙ c.len-3.ensures ∙ c.extend_from_slice-2.new.self.ok.0 ∙ ap length all in
    let pushed : c.push.new.self.items ≡ ranges ++ r ∷ [] = c.in_ok-push.ensures.items in
    ap (λ v. map (type_in v) c.push.new.self.items) all
    ∙ ap (map (type_in ((values ++ params) ++ results))) pushed
    ∙ types_more values params results ranges r (map (type_in values) ranges) (record { params = params; results = results }) start middle end refl refl c.self.invariant
    ∙ ap (λ ts. ts ++ (record { params = params; results = results }) ∷ []) c.self.view_is
