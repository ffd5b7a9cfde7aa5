use Rattle.std.proofs.Common.{◌+◌, drop, take, ◌∙◌}
use Rattle.program.specs.NameLists.{listed_names}
use Rattle.program.proofs.Rounds.{name_ends, name_more, part_of}
use Rattle.program.proofs.name_list.take_name.Goals as goal

pub returns-in-Ok-push-clause-names : goal.returns-in-Ok-push-clause-names
returns-in-Ok-push-clause-names c =
    name_more c.args.names.now.items c.push.new.self.items c.in-Ok.name (drop c.args.start (take c.args.i c.args.bytes.now))
    (listed_names c.args.end (drop (c.args.i + 1) (take (c.args.i + 1) c.args.bytes.now)) (drop (c.args.i + 1) c.args.bytes.now)) (listed_names c.args.end (drop c.args.start (take c.args.i c.args.bytes.now)) (drop c.args.i c.args.bytes.now))
    c.in-Ok-push.ensures.items (c.in-Ok.ensures.name ∙ part_of c.args.bytes.now c.args.start c.args.i) (name_ends c.args.bytes.now c.args.end c.args.start c.args.i 0 c.requires.below c.if-bytes-i.false)
