use Rattle.explain_typing.proofs.Openings.{open_told}
use Rattle.explain_typing.proofs.trail.find_open.Goals as goal

pub returns : goal.returns
returns c =
    let code = c.in_ok-_runs.code.now in
    open_told c.new-trail.result c.mark_tokens.new.trail code c.args.body.now c.in-Some.begins c.args.start c.args.count c.in_ok-_runs._runs.items c.open_blocks.result c.in_ok-_runs.ensures
    c.new-trail.ensures.code c.new-trail.ensures.start c.in-Some.ensures c.in_ok-mark_tokens.ensures.same c.in_ok-mark_tokens.ensures.opened c.open_blocks.ensures.count c.open_blocks.ensures.outermost
