use Rattle.std.proofs.Common.{ℕ, ◌≡◌, ◌%◌, ◌-◌, ◌/◌, ◌*◌, ◌^◌, ◌∙◌, arith}
use Rattle.std.specs.Int.Bits.{or_comm}
use Rattle.wnum.specs.Arithmetic.{rotate_left}
use Rattle.wnum.proofs.Shifts.{rotated}
use Rattle.wnum.proofs.word32.rotr.Goals as goal

pub returns : goal.returns
returns c =
    let x = c.args.x in
    let down : ℕ = c.args.y % 32 in
    let up : ℕ = (32 - down) % 32 in
    let is : c.rotate_right.result ≡ rotate_left 32 x up =
    c.rotate_right.ensures ∙ or_comm (x / 2 ^ down) (x * 2 ^ up % 2 ^ 32) ∙ rotated 32 up down x (omega arith) (omega arith) (λ e. omega arith) (λ l. omega arith) in
    cc
