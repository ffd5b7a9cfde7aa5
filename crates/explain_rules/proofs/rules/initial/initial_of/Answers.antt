use Rattle.std.proofs.Common.{ap, rules}
use Rattle.wsyntax.specs.Modules.{initial_tokens}
use Rattle.explain_rules.proofs.rules.initial.initial_of.Goals as goal

pub returns-in-I32Const : goal.returns-in-I32Const
returns-in-I32Const c = (_, ap initial_tokens c.in-I32Const.is)

pub returns-in-I64Const : goal.returns-in-I64Const
returns-in-I64Const c = (_, ap initial_tokens c.in-I64Const.is)

pub returns-in-F32Const : goal.returns-in-F32Const
returns-in-F32Const c = (_, ap initial_tokens c.in-F32Const.is)

pub returns-in-F64Const : goal.returns-in-F64Const
returns-in-F64Const c = (_, ap initial_tokens c.in-F64Const.is)

pub returns-in-GlobalGet : goal.returns-in-GlobalGet
returns-in-GlobalGet c = (ap initial_tokens c.in-GlobalGet.is, search rules, search rules)
