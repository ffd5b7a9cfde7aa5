use Rattle.explain_bytes.proofs.Lefts.{first_of, token_read}
use Rattle.explain_bytes.proofs.locations.first_token.Goals as goal

pub returns-in-Some-Some : goal.returns-in-Some-Some
returns-in-Some-Some c = record {
  after = c.in_ok-token.after.now;
  opcode = first_of c.args.left.now c.in-len1-up.len_at_least;
  token = token_read c.args.left.now c.in_ok-token.after.now c.token_at.new.targets.items c.in_ok-token.token c.in_ok-token.ensures.ok.2;
  from = c.in-Some-Some.ensures;
  to = c.in-Some-Some.ensures';
}
