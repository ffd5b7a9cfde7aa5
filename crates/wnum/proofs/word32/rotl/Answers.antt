use Rattle.std.proofs.Common.{◌≡◌, ◌%◌, ◌-◌, ◌∙◌, arith}
use Rattle.wnum.specs.Arithmetic.{rotate_left}
use Rattle.wnum.proofs.Shifts.{rotated}
use Rattle.wnum.proofs.word32.rotl.Goals as goal

pub returns : goal.returns
returns c =
    let is : c.rotate_left.result ≡ rotate_left 32 c.args.x (c.args.y % 32) =
    c.rotate_left.ensures ∙ rotated 32 (c.args.y % 32) ((32 - c.args.y % 32) % 32) c.args.x (omega arith) (omega arith) (λ e. omega arith) (λ l. omega arith) in
    cc
