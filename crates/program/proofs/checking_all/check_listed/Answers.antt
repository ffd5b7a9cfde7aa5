use Rattle.std.proofs.Common.{[], ap, inl, inr, map, refl, ◌∙◌}
use Rattle.std.proofs.KnownBytes.{Keeps-refl}
use Rattle.program.specs.NameLists.{listed_names, name_end}
use Rattle.program.proofs.Rounds.{names_moved}
use Rattle.program.proofs.checking_all.check_listed.Goals as goal

pub returns-in-Err : goal.returns-in-Err
returns-in-Err g c = (g.S.Source.asked c.read_file.new.source, c.read_file.ensures.logged, inr (c.in-Err.fault, refl, inl c.in-Err.ensures.fault, refl, Keeps-refl (g.O.Write.contents c.args.out.now)))

pub returns-in-Ok-listed_names : goal.returns-in-Ok-listed_names
returns-in-Ok-listed_names g c = (
  g.S.Source.asked c.read_file.new.source,
  c.read_file.ensures.logged,
  inl (
    c.in-Ok.bytes.items,
    c.in-Ok.ensures.known,
    names_moved c.args.folders (g.S.Source.lists c.args.source.now) (g.S.Source.lists c.read_file.new.source) (listed_names (name_end c.args.is_null) [] c.in-Ok.bytes.items) (map (λ n. n.now) c.as_slice-in-Ok-listed_names.result.now)
        (g.S.Source.holds c.args.source.now) (g.S.Source.holds c.read_file.new.source) (g.S.Source.asked c.read_file.new.source) (g.S.Source.asked c.check_names.new.source) (g.O.Write.contents c.args.out.now) (g.O.Write.contents c.check_names.new.out) c.check_names.result
        c.read_file.ensures.same_lists c.read_file.ensures.same
        (ap (map (λ n. n.now)) c.as_slice-in-Ok-listed_names.ensures.value ∙ c.in-Ok-listed_names.ensures.names ∙ ap (λ e. listed_names e [] c.as_slice.result.now) c.name_end.ensures ∙ ap (listed_names (name_end c.args.is_null) []) c.as_slice.ensures.value)
        c.check_names.ensures,
  ),
)

pub returns : goal.returns
returns g c = (g.S.Source.asked c.read_file.new.source, c.read_file.ensures.logged, inr (c.in-Err-listed_names.fault, refl, inr c.in-Err-listed_names.ensures.fault, refl, Keeps-refl (g.O.Write.contents c.args.out.now)))
