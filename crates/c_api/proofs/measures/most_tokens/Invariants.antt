use Rattle.std.proofs.Common.{◌≡◌, max, drop}
use Rattle.c_api.specs.Measures.{body_tokens, most_by}
use Rattle.c_api.proofs.measures.most_tokens.Given as goal

abbrev pub invariant-loop-body : goal.invariant-loop-body
invariant-loop-body l = max l.most (most_by body_tokens (drop l.body-index l.bodies)) ≡ most_by body_tokens l.bodies
