use Rattle.std.proofs.Common.{rules, ◌≡◌, ◌∙◌, ap, map, length, replicate}
use Rattle.wsyntax.specs.Execution.Allocation.{put_elements}
use Rattle.interpreter.specs.Seen.{entry_of}
use Rattle.interpreter.specs.declared.store.TableEntry.TheVariants as held
use Rattle.accepted_module.specs.Segments.{element_segments}
use Rattle.wstore.proofs.Tables.{whole_front, map-replicate}
use Rattle.wstore.proofs.table_part.fresh_table.Goals as goal

pub returns : goal.returns
returns c =
    let long : length c.put_elements.new.entries ≡ c.in_ok-entries.entries.len = search rules in
    let unset : c.deref_mut.result.now ≡ replicate c.args.table.now.limits.min held.Unset = search rules in
    ap (map entry_of) (whole_front c.in_ok-entries.entries.len c.put_elements.new.entries c.in_ok-entries.entries.items long)
    ∙ c.put_elements.ensures
    ∙ ap (λ l. put_elements (element_segments c.args.segments.now) (map entry_of l)) unset
    ∙ ap (put_elements (element_segments c.args.segments.now)) (map-replicate entry_of c.args.table.now.limits.min held.Unset)
