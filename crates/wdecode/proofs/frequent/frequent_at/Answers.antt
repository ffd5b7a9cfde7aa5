use Rattle.std.proofs.Common.{refl}
use Rattle.wdecode.proofs.OneRead.{read_of_all}
use Rattle.wdecode.proofs.frequent.frequent_at.Goals as goal

pub returns-in-12 : goal.returns-in-12
returns-in-12 c = read_of_all c.args.bytes.now 12 (λ x. x.0) (λ x. x.1.now) c.br.result c.in-len1-up.len_at_least c.in-12.is c.br.ensures

pub returns-in-13 : goal.returns-in-13
returns-in-13 c = read_of_all c.args.bytes.now 13 (λ x. x.0) (λ x. x.1.now) c.br_if.result c.in-len1-up.len_at_least c.in-13.is c.br_if.ensures

pub returns-in-16 : goal.returns-in-16
returns-in-16 c = read_of_all c.args.bytes.now 16 (λ x. x.0) (λ x. x.1.now) c.call_at.result c.in-len1-up.len_at_least c.in-16.is c.call_at.ensures

pub returns-in-32-to-36 : goal.returns-in-32-to-36
returns-in-32-to-36 c = read_of_all c.args.bytes.now _ (λ x. x.0) (λ x. x.1.now) c.variable_at.result c.in-len1-up.len_at_least refl c.variable_at.ensures

pub returns-in-40-to-53 : goal.returns-in-40-to-53
returns-in-40-to-53 c = read_of_all c.args.bytes.now _ (λ x. x.0) (λ x. x.1.now) c.load_at.result c.in-len1-up.len_at_least refl c.load_at.ensures

pub returns-in-54-to-62 : goal.returns-in-54-to-62
returns-in-54-to-62 c = read_of_all c.args.bytes.now _ (λ x. x.0) (λ x. x.1.now) c.store_at.result c.in-len1-up.len_at_least refl c.store_at.ensures

pub returns-in-65 : goal.returns-in-65
returns-in-65 c = read_of_all c.args.bytes.now 65 (λ x. x.0) (λ x. x.1.now) c.i32_const.result c.in-len1-up.len_at_least c.in-65.is c.i32_const.ensures

pub returns-in-66 : goal.returns-in-66
returns-in-66 c = read_of_all c.args.bytes.now 66 (λ x. x.0) (λ x. x.1.now) c.i64_const.result c.in-len1-up.len_at_least c.in-66.is c.i64_const.ensures

pub returns-in-69-to-196 : goal.returns-in-69-to-196
returns-in-69-to-196 c = read_of_all c.args.bytes.now _ (λ x. x.0) (λ x. x.1.now) c.numeric_at.result c.in-len1-up.len_at_least refl c.numeric_at.ensures
