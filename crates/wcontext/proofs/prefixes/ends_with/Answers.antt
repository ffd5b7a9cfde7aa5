use Rattle.std.proofs.Common.{length, ◌-◌, sym, ◌∙◌, rules, arith}
use Rattle.wsyntax.specs.contracts.types.ValType.{the_type}
use denote.Enum.Bare.{same_true}
use Rattle.wcontext.proofs.Suffixes.{suffix_from}
use Rattle.wcontext.proofs.prefixes.ends_with.Goals as goal

pub returns : goal.returns
returns c h = suffix_from (λ t u e. same_true the_type (search rules) t u e) c.args.long.now c.args.short.now (length c.args.long.now - length c.args.short.now) (omega arith) (sym c.eq.ensures ∙ h)
