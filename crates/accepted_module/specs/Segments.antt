-- 4.5.4 The segments of the code, their offsets computed.
use Rattle.std.specs.Prelude.{ℕ, List, map}
use Rattle.wsyntax.specs.Modules.{initial_tokens, element_shape, data_shape}
use Rattle.wsyntax.specs.Validation.Rules.{ConstantOf}
use Rattle.wsyntax.specs.declared.types.ValType.TheVariants.{I32}
use Rattle.wsyntax.specs.declared.types.GlobalType.{GlobalType}
use Rattle.wsyntax.specs.HeldElement.{HeldElement}
use Rattle.wsyntax.specs.declared.module.ConstExpr.{ConstExpr}
use Rattle.wsyntax.specs.declared.module.Data.{Data}
use Rattle.wsyntax.specs.Execution.Allocation.{Segment}
use Rattle.wsyntax.specs.Execution.Start.{element_segment, data_segment}

-- 3.4.5 and 3.4.6 the offset of a segment is a constant expression of type i32, under some imported globals
abbrev pub IsOffset : ConstExpr → Type 0
IsOffset e = (globals : List GlobalType) × ConstantOf globals I32 (initial_tokens e)

-- 4.5.4 the element segments with their offsets
abbrev pub element_segments : List HeldElement → List Segment
element_segments all = map element_segment (map element_shape all)

-- 4.5.4 the data segments with their offsets
abbrev pub data_segments : List Data → List Segment
data_segments all = map data_segment (map data_shape all)

-- where a segment begins
abbrev pub element_offset : HeldElement → ℕ
element_offset e = (element_segment (element_shape e)).offset

-- 4.5.4 the address of the first byte of a data segment
abbrev pub data_offset : Data → ℕ
data_offset d = (data_segment (data_shape d)).offset

-- where each of the segments begins
abbrev pub offsets_of : List Segment → List ℕ
offsets_of all = map (λ s. s.offset) all
