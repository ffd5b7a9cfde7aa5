-- Reading agrees with spelling, for instructions without a body.
use Rattle.std.proofs.Common.{ℕ, None}
use Rattle.wsyntax.specs.Instructions as tree
use Rattle.wsyntax.specs.Instructions.{Op}
use Rattle.wsyntax.specs.Table.{opcode_of}
use Rattle.wsyntax.specs.declared.opcode.Opcode.{Opcode}
use Rattle.wsyntax.specs.declared.opcode.Opcode.TheVariants as code
use Rattle.wsyntax.specs.Binary.Production.{Agrees, byte, given, exactly, raw}
use Rattle.wsyntax.specs.Binary.Production as p
use Rattle.wsyntax.specs.Binary.Values.{u32, s32, s64, vector}
use Rattle.wsyntax.specs.Binary.Instructions.{with_index, immediates, plain_instruction}
use Rattle.wdecode.proofs.Agree.{byte_agrees, given_agrees, bind_agrees, u32_agrees, s32_agrees, s64_agrees, raw_agrees, vector_agrees, exactly_agrees}

with_index_agrees : (made : ℕ → Op) → Agrees (with_index made)
with_index_agrees made = bind_agrees u32 _ u32_agrees λ n. given_agrees _

immediates_agree : (o : Opcode) → Agrees (immediates o)
immediates_agree code.Unreachable = given_agrees _
immediates_agree code.Nop = given_agrees _
immediates_agree code.Block = given_agrees None
immediates_agree code.Loop = given_agrees None
immediates_agree code.If = given_agrees None
immediates_agree code.Br = with_index_agrees tree.Br
immediates_agree code.BrIf = with_index_agrees tree.BrIf
immediates_agree code.BrTable = bind_agrees (vector u32) _ (vector_agrees u32 u32_agrees) λ labels. bind_agrees u32 _ u32_agrees λ d. given_agrees _
immediates_agree code.Return = given_agrees _
immediates_agree code.Call = with_index_agrees tree.Call
immediates_agree code.CallIndirect = bind_agrees u32 _ u32_agrees λ y. bind_agrees (exactly 0x00) _ (exactly_agrees 0x00) λ z. given_agrees _
immediates_agree code.Drop = given_agrees _
immediates_agree code.Select = given_agrees _
immediates_agree code.LocalGet = with_index_agrees tree.LocalGet
immediates_agree code.LocalSet = with_index_agrees tree.LocalSet
immediates_agree code.LocalTee = with_index_agrees tree.LocalTee
immediates_agree code.GlobalGet = with_index_agrees tree.GlobalGet
immediates_agree code.GlobalSet = with_index_agrees tree.GlobalSet
immediates_agree (code.Load l) = bind_agrees u32 _ u32_agrees λ a. bind_agrees u32 _ u32_agrees λ o. given_agrees _
immediates_agree (code.Store s) = bind_agrees u32 _ u32_agrees λ a. bind_agrees u32 _ u32_agrees λ o. given_agrees _
immediates_agree code.MemorySize = bind_agrees (exactly 0x00) _ (exactly_agrees 0x00) λ z. given_agrees _
immediates_agree code.MemoryGrow = bind_agrees (exactly 0x00) _ (exactly_agrees 0x00) λ z. given_agrees _
immediates_agree code.I32Const = bind_agrees s32 _ s32_agrees λ n. given_agrees _
immediates_agree code.I64Const = bind_agrees s64 _ s64_agrees λ n. given_agrees _
immediates_agree code.F32Const = bind_agrees (raw 4) _ (raw_agrees 4) λ b. given_agrees _
immediates_agree code.F64Const = bind_agrees (raw 8) _ (raw_agrees 8) λ b. given_agrees _
immediates_agree (code.Numeric f) = given_agrees _

pub plain_agrees : Agrees plain_instruction
unfolding plain_instruction
plain_agrees = bind_agrees byte (λ b. p.◌>>=◌ (given (opcode_of b)) immediates) byte_agrees λ b. bind_agrees (given (opcode_of b)) immediates (given_agrees (opcode_of b)) immediates_agree
