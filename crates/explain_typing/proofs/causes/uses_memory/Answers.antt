use Rattle.explain_typing.proofs.Misfits.{loads, stores}
use Rattle.explain_typing.proofs.causes.uses_memory.Goals as goal

pub returns-in-Load : goal.returns-in-Load
returns-in-Load c = λ e targets. loads c.args.token _ _ _ targets c.in-Load.is

pub returns-in-Store : goal.returns-in-Store
returns-in-Store c = λ e targets. stores c.args.token _ _ _ targets c.in-Store.is
