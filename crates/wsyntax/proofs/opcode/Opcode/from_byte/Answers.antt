use Rattle.std.proofs.Common.{refl, sym, arith}
use Rattle.wsyntax.specs.Table.{opcode_of}
use Rattle.wsyntax.proofs.Gaps.{in_gap}
use Rattle.wsyntax.proofs.opcode.Opcode.from_byte.Goals as goal

pub returns-in-5-to-11 : goal.returns-in-5-to-11
unfolding opcode_of
returns-in-5-to-11 c = sym (in_gap 0x05 7 c.args.byte refl (omega arith) (omega arith))

pub returns-in-18-to-25 : goal.returns-in-18-to-25
unfolding opcode_of
returns-in-18-to-25 c = sym (in_gap 0x12 8 c.args.byte refl (omega arith) (omega arith))

pub returns-in-28-to-31 : goal.returns-in-28-to-31
unfolding opcode_of
returns-in-28-to-31 c = sym (in_gap 0x1C 4 c.args.byte refl (omega arith) (omega arith))

pub returns-in-37-to-39 : goal.returns-in-37-to-39
unfolding opcode_of
returns-in-37-to-39 c = sym (in_gap 0x25 3 c.args.byte refl (omega arith) (omega arith))

pub returns-in-197-to-255 : goal.returns-in-197-to-255
unfolding opcode_of
returns-in-197-to-255 c = sym (in_gap 0xC5 59 c.args.byte refl (omega arith) (omega arith))
