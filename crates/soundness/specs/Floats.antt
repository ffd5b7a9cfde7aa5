-- Where a module mentions a float, so that it is not run (`has_floats`).
use Rattle.std.specs.Prelude.{◌≡◌, ℕ, List, [], ◌∷◌, Bool, true, false}
use Rattle.wsyntax.specs.declared.types.ValType.{ValType}
use Rattle.wsyntax.specs.declared.types.ValType.TheVariants.{I32, I64, F32, F64}
use Rattle.wsyntax.specs.declared.instructions.BlockType.TheVariants.{Empty, Value as Gives, Index}
use Rattle.wsyntax.specs.declared.instructions.Operator.TheVariants.{F32Add, I64TruncF64U}
use Rattle.wsyntax.specs.Instructions.{Width32, Add, OfTwo, FloatOp, Access, Drop, Const, Numeric, MemoryLoad, MemoryStore, Token, Do, OpenBlock, OpenLoop, OpenIf, Else, End}
use Rattle.wsyntax.specs.Modules.{ModuleShape}
use Rattle.wsyntax.specs.Binary.Shell.{empty_module}
use Rattle.wsyntax.specs.Execution.Start.{has_floats}

-- of one function type
abbrev pub of_type : List ValType → List ValType → ModuleShape
of_type params results = record empty_module { types = (record { params = params; results = results }) ∷ [] }

-- of one global with this first value
abbrev pub of_global : ValType → Token → ModuleShape
of_global t first = record empty_module { globals = (record { global_type = record { val_type = t; mutable = false }; init = first ∷ End ∷ [] }) ∷ [] }

-- of one element segment at this offset
abbrev pub of_element : Token → ModuleShape
of_element offset = record empty_module { elements = (record { table = 0; offset = offset ∷ End ∷ []; functions = [] }) ∷ [] }

-- of one data segment at this offset
abbrev pub of_data : Token → ModuleShape
of_data offset = record empty_module { segments = (record { memory = 0; offset = offset ∷ End ∷ []; bytes = [] }) ∷ [] }

-- whether a body of these tokens mentions a float
abbrev pub in_code : List Token → Bool
in_code code = has_floats empty_module ((record { runs = []; code = code }) ∷ [])

-- whether a body that declares `count` locals of type t does
abbrev pub in_locals : ℕ → ValType → Bool
in_locals count t = has_floats empty_module ((record { runs = (record { count = 1; val_type = I32 }) ∷ (record { count = count; val_type = t }) ∷ []; code = End ∷ [] }) ∷ [])

-- a load or a store of a value of this type
abbrev pub access : ValType → Access
access t = record { of_type = t; width = 4; signed = false; align = 0; offset = 0 }

-- a float counts also where it is never reached
pub record FloatExamples : Type 0 where
  -- an empty module mentions none
  pub nothing : has_floats empty_module [] ≡ false
  -- the second parameter of a type, which no function needs to have
  pub parameter : has_floats (of_type (I32 ∷ F32 ∷ []) []) [] ≡ true
  -- a result of a type
  pub result : has_floats (of_type [] (F64 ∷ [])) [] ≡ true
  -- a type of integers alone
  pub integer_type : has_floats (of_type (I32 ∷ I64 ∷ []) (I64 ∷ [])) [] ≡ false
  -- the type of a global
  pub global_type : has_floats (of_global F64 (Do (Const I32 0))) [] ≡ true
  -- the first value of a global
  pub global_value : has_floats (of_global I32 (Do (Const F32 0))) [] ≡ true
  -- a global of integers alone
  pub integer_global : has_floats (of_global I64 (Do (Const I64 5))) [] ≡ false
  -- the offset of an element segment
  pub element_offset : has_floats (of_element (Do (Const F32 0))) [] ≡ true
  -- the offset of a data segment
  pub data_offset : has_floats (of_data (Do (Const F64 0))) [] ≡ true
  -- an offset that is an integer
  pub integer_offset : has_floats (of_data (Do (Const I32 8))) [] ≡ false
  -- a run of one local of type f32
  pub declared_local : in_locals 1 F32 ≡ true
  -- a run of no locals of type f32 declares none
  pub no_local : in_locals 0 F32 ≡ false
  -- a run of integers
  pub integer_local : in_locals 7 I64 ≡ false
  -- the type of a block
  pub of_block : in_code (OpenBlock (Gives F32) ∷ End ∷ End ∷ []) ≡ true
  -- the type of a loop
  pub of_loop : in_code (OpenLoop (Gives F64) ∷ End ∷ End ∷ []) ≡ true
  -- the type of an if
  pub of_if : in_code (OpenIf (Gives F32) ∷ Else ∷ End ∷ End ∷ []) ≡ true
  -- blocks without floats; a type that is named by its index is looked at where it stands
  pub integer_blocks : in_code (OpenBlock Empty ∷ OpenLoop (Gives I32) ∷ OpenIf (Index 0) ∷ End ∷ End ∷ End ∷ End ∷ []) ≡ false
  -- a constant, though it is dropped
  pub constant : in_code (Do (Const F64 0) ∷ Do Drop ∷ End ∷ []) ≡ true
  -- a float operator
  pub operator : in_code (Do (Numeric (FloatOp F32Add)) ∷ End ∷ []) ≡ true
  -- an operator that takes a float and gives an integer
  pub conversion : in_code (Do (Numeric (FloatOp I64TruncF64U)) ∷ End ∷ []) ≡ true
  -- a load of a float
  pub load : in_code (Do (MemoryLoad (access F32)) ∷ End ∷ []) ≡ true
  -- a store of a float
  pub store : in_code (Do (MemoryStore (access F32)) ∷ End ∷ []) ≡ true
  -- instructions on integers alone
  pub integer_code : in_code (Do (Const I32 0) ∷ Do (MemoryLoad (access I32)) ∷ Do (Numeric (OfTwo Width32 Add)) ∷ Do (MemoryStore (access I64)) ∷ End ∷ []) ≡ false
