use Rattle.std.proofs.Common.{ℕ, ◌≡◌, ◌%◌, ◌-◌, ◌/◌, ◌*◌, ◌^◌, ◌∙◌, ap, arith}
use Rattle.std.specs.Int.Bits.{or_comm}
use Rattle.wnum.specs.Arithmetic.{rotate_left}
use Rattle.wnum.proofs.Shifts.{rotated}
use Rattle.wnum.proofs.word64.rotr.Goals as goal

pub returns : goal.returns
returns c =
    let x = c.args.x in
    let down : ℕ = c.args.y % 64 % 64 in
    let up : ℕ = (64 - down) % 64 in
    let is : c.rotate_right.result ≡ rotate_left 64 x ((64 - c.args.y % 64) % 64) =
    c.rotate_right.ensures ∙ or_comm (x / 2 ^ down) (x * 2 ^ up % 2 ^ 64) ∙ rotated 64 up down x (omega arith) (omega arith) (λ e. omega arith) (λ l. omega arith)
    ∙ ap (rotate_left 64 x) (omega arith) in
    cc
