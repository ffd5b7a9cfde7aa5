use Rattle.std.proofs.Common.{ℕ, ◌≡◌, ◌%◌, ◌-◌, ◌∙◌, ap, arith}
use Rattle.wnum.specs.Arithmetic.{rotate_left}
use Rattle.wnum.proofs.Shifts.{rotated}
use Rattle.wnum.proofs.word64.rotl.Goals as goal

pub returns : goal.returns
returns c =
    let x = c.args.x in
    let up : ℕ = c.args.y % 64 % 64 in
    let is : c.rotate_left.result ≡ rotate_left 64 x (c.args.y % 64) =
    c.rotate_left.ensures ∙ rotated 64 up ((64 - up) % 64) x (omega arith) (omega arith) (λ e. omega arith) (λ l. omega arith)
    ∙ ap (rotate_left 64 x) (omega arith) in
    cc
