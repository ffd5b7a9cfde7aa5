use Rattle.std.proofs.Common.{◌≡◌, true, List, All, Some, refl, subst, arith}
use Rattle.std.specs.Prelude.{slice_get}
use Rattle.std.proofs.lemmas.Bool.Decides.{Decides-eqb}
use Rattle.std.proofs.lemmas.List.{take_all}
use Rattle.std.proofs.lemmas.List.Elements.{All-more}
use Rattle.std.proofs.lemmas.Option.{slice_get_read}
use Rattle.std.proofs.lemmas.Slice.Eq.{slice_eq-Decides}
use Rattle.wsyntax.specs.declared.module.Export.{Export}
use Rattle.c_api.proofs.ExportNumbers.{IsOther, none_named, numbered}
use Rattle.c_api.proofs.calling_on.number_of.Goals as goal

pub returns-then-eq : goal.returns-then-eq
returns-then-eq c =
    let i = c.loop-position.position in let x = c.index.result.now in
    let there = slice_get_read c.module.result.now.exports.items _ i x refl (omega arith) c.index.ensures in
    let same = (slice_eq-Decides Decides-eqb _ _ _ c.eq.ensures).0 c.if-eq.true in
    numbered c.args.accepted.now c.args.name.now i x (subst (λ (xs : List Export). slice_get xs i ≡ Some x) c.loop-position.invariant.1 there) same

pub loop-position-preserved : goal.loop-position-preserved
loop-position-preserved c =
    let x = c.index.result.now in let isnt = c.if-eq.false in
    let other : IsOther c.args.name.now x = λ e. let is : c.eq.result ≡ true = (slice_eq-Decides Decides-eqb _ _ _ c.eq.ensures).1 e in cc in
    let more =
    All-more (IsOther c.args.name.now) c.module.result.now.exports.items c.loop-position.position x (omega arith) c.loop-position.invariant.0
    (subst (IsOther c.args.name.now) c.index.ensures other) in (more, c.loop-position.invariant.1)

pub returns : goal.returns
returns c =
    let others : List Export → Type 0 = All (IsOther c.args.name.now) in
    let all = subst others (take_all c.loop-position.position c.module.result.now.exports.items (omega arith)) c.loop-position.invariant.0 in
    none_named c.args.name.now c.args.accepted.now.«module».exports.items (subst others c.loop-position.invariant.1 all)
