use Rattle.explain_bytes.proofs.Shells.{name_comes, start_comes}
use Rattle.explain_bytes.proofs.shell.contents.after_contents.Goals as goal

pub returns-in-0 : goal.returns-in-0
returns-in-0 c = name_comes c.args.id c.args.bytes.now c.after_name.result c.part_read.result c.in-0.is c.after_name.ensures c.part_read.ensures

pub returns-in-8 : goal.returns-in-8
returns-in-8 c = start_comes c.args.id c.args.bytes.now c.after_index.result c.part_read-in-8.result c.in-8.is c.after_index.ensures c.part_read-in-8.ensures
