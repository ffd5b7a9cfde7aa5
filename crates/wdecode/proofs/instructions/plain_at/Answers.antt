use Rattle.std.proofs.Common.{length, [], sym, ap, ◌∙◌, ◌++◌, subst, Option, List, ℕ}
use Rattle.std.proofs.lemmas.List.{append-nil}
use Rattle.wsyntax.specs.Instructions.{Token, Do}
use Rattle.wdecode.specs.Gives.{Fails}
use Rattle.wsyntax.specs.Binary.Nesting.{seen_as}
use Rattle.wdecode.proofs.BranchTables.{no_table}
use Rattle.wdecode.proofs.OneToken.{plain_is}
use Rattle.wdecode.proofs.instructions.plain_at.Goals as goal

pub returns-in-Err : goal.returns-in-Err
returns-in-Err c =
    let is = plain_is c.args.bytes.now c.in-Some.opcode c.in-len1-up.len_at_least (sym c.in-Some.ensures) in
    record {
      ok = tt;
      within = tt;
      follows = tt;
      err = subst (λ (r : Option (Token × List ℕ)). Fails c.in-Err.fault r) (sym (ap (seen_as Do) is)) (c.in-Err.ensures.value []);
    }

pub returns-in-Ok : goal.returns-in-Ok
returns-in-Ok c =
    let is = plain_is c.args.bytes.now c.in-Some.opcode c.in-len1-up.len_at_least (sym c.in-Some.ensures) in
    let old = c.args.targets.now.items in
    record {
      ok = ([], sym (append-nil old), λ more. ap (seen_as Do) is ∙ c.in-Ok.ensures.value (old ++ more));
      within = c.in-Ok.ensures.within (length old);
      follows = no_table c.in-Ok.token c.in-Ok.ensures.within (length old);
      err = tt;
    }
