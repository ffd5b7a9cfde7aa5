use Rattle.std.proofs.Common.{◌≡◌, true, ap, map, rules, string_bytes, ◌∙◌}
use Rattle.program.proofs.Rounds.{names_spread}
use Rattle.program.proofs.checking_all.check_names.Goals as goal

pub returns-in-Ok-texts_of : goal.returns-in-Ok-texts_of
returns-in-Ok-texts_of g c =
    let on : c.args.folders ≡ true = search (rules, c.if-not-folders.false) in
    names_spread c.args.folders (g.S.Source.lists c.args.source.now) (map (λ n. n.now) c.args.names.now) (map string_bytes c.in-Ok.files.items) (map (λ t. t.now) c.as_slice-in-Ok-texts_of.result.now)
    (g.S.Source.holds c.args.source.now) (g.S.Source.holds c.spread.new.source) (g.S.Source.asked c.args.source.now) (g.S.Source.asked c.spread.new.source) (g.S.Source.asked c.check_files-in-Ok-texts_of.new.source)
    (g.O.Write.contents c.args.out.now) (g.O.Write.contents c.check_files-in-Ok-texts_of.new.out) c.check_files-in-Ok-texts_of.result
    on (ap (map (λ t. t.now)) c.as_slice-in-Ok-texts_of.ensures.value ∙ c.in-Ok-texts_of.ensures ∙ ap (map string_bytes) c.as_slice.ensures.value) c.in-Ok.ensures.spread c.spread.ensures.same c.spread.ensures.logged c.check_files-in-Ok-texts_of.ensures
