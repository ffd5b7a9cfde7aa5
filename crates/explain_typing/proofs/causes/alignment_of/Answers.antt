use Rattle.explain_typing.proofs.Misfits.{load_aligned, store_aligned}
use Rattle.explain_typing.proofs.causes.alignment_of.Goals as goal

pub returns-in-Load : goal.returns-in-Load
returns-in-Load c = λ targets. load_aligned c.args.token c.in-Load.load c.in-Load.align _ c.row.result.natural targets c.in-Load.is c.row.ensures.width c.row.ensures.aligned

pub returns-in-Store : goal.returns-in-Store
returns-in-Store c = λ targets.
    store_aligned c.args.token c.in-Store.store c.in-Store.align _ c.row-in-Store.result.natural targets c.in-Store.is c.row-in-Store.ensures.width c.row-in-Store.ensures.aligned
