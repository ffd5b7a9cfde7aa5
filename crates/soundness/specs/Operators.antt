-- The integer operators on values (4.4.1). At their edges as functions of numbers they stand in `wnum`.
use Rattle.std.specs.Prelude.{◌≡◌, ℕ, ◌-◌, ◌^◌, List, [], ◌∷◌, map, Option, Some, None, Ok, Err}
use Rattle.wnum.specs.declared.trap.NumTrap.TheVariants.{DivideByZero, IntegerOverflow}
use Rattle.wsyntax.specs.Instructions.{Width32, Width64, NumOp, OfOne, OfTwo, Eqz, Comparing, Wrap, ExtendS, ExtendU, ExtendLow, Clz, Ctz, Popcnt, Add, Sub, Mul, DivS, DivU, RemS, RemU, And, Or, Xor, Shl, ShrS, ShrU, Rotl, Rotr, Eq, Ne, LtS, LtU, GtS, GtU, LeS, LeU, GeS, GeU}
use Rattle.wsyntax.specs.declared.value.Value.{Value}
use Rattle.wsyntax.specs.declared.value.Value.TheVariants.{I32 as V32, I64 as V64}
use Rattle.wsyntax.specs.declared.value.Trap.TheVariants.{ByOperator}
use Rattle.wsyntax.specs.Execution.Numerics.{Computed, apply}

-- each of the operators on these operands, the topmost first
abbrev pub all_on : List Value → List NumOp → List (Option Computed)
all_on vs fs = map (λ f. apply f vs) fs

-- these words of 32 bits
abbrev pub words32 : List ℕ → List (Option Computed)
words32 ns = map (λ n. Some (Ok (V32 n))) ns

-- these words of 64 bits
abbrev pub words64 : List ℕ → List (Option Computed)
words64 ns = map (λ n. Some (Ok (V64 n))) ns

-- a division by zero
abbrev pub by_zero : Option Computed
by_zero = Some (Err (ByOperator DivideByZero))

-- the second operand stands on top of the first; counts are taken modulo 32 or 64; tests give a word of 32 bits
pub record OperatorExamples : Type 0 where
  pub unary32 : all_on (V32 (2 ^ 31) ∷ []) (OfOne Width32 Clz ∷ OfOne Width32 Ctz ∷ OfOne Width32 Popcnt ∷ []) ≡ words32 (0 ∷ 31 ∷ 1 ∷ [])
  pub unary64 : all_on (V64 0 ∷ []) (OfOne Width64 Clz ∷ OfOne Width64 Ctz ∷ OfOne Width64 Popcnt ∷ []) ≡ words64 (64 ∷ 64 ∷ 0 ∷ [])
  -- the least number and 1
  pub sums32 : all_on (V32 1 ∷ V32 (2 ^ 31) ∷ []) (OfTwo Width32 Add ∷ OfTwo Width32 Sub ∷ OfTwo Width32 Mul ∷ []) ≡ words32 (2147483649 ∷ 2147483647 ∷ 2147483648 ∷ [])
  pub sums64 : all_on (V64 1 ∷ V64 (2 ^ 63) ∷ []) (OfTwo Width64 Add ∷ OfTwo Width64 Sub ∷ OfTwo Width64 Mul ∷ []) ≡ words64 (9223372036854775809 ∷ 9223372036854775807 ∷ 9223372036854775808 ∷ [])
  -- -7 and 2
  pub quotients32 : all_on (V32 2 ∷ V32 4294967289 ∷ []) (OfTwo Width32 DivS ∷ OfTwo Width32 DivU ∷ OfTwo Width32 RemS ∷ OfTwo Width32 RemU ∷ []) ≡ words32 (4294967293 ∷ 2147483644 ∷ 4294967295 ∷ 1 ∷ [])
  pub quotients64 : all_on (V64 2 ∷ V64 18446744073709551609 ∷ []) (OfTwo Width64 DivS ∷ OfTwo Width64 DivU ∷ OfTwo Width64 RemS ∷ OfTwo Width64 RemU ∷ []) ≡ words64 (18446744073709551613 ∷ 9223372036854775804 ∷ 18446744073709551615 ∷ 1 ∷ [])
  pub by_zero32 : all_on (V32 0 ∷ V32 7 ∷ []) (OfTwo Width32 DivS ∷ OfTwo Width32 DivU ∷ OfTwo Width32 RemS ∷ OfTwo Width32 RemU ∷ []) ≡ by_zero ∷ by_zero ∷ by_zero ∷ by_zero ∷ []
  pub by_zero64 : all_on (V64 0 ∷ V64 7 ∷ []) (OfTwo Width64 DivS ∷ OfTwo Width64 DivU ∷ OfTwo Width64 RemS ∷ OfTwo Width64 RemU ∷ []) ≡ by_zero ∷ by_zero ∷ by_zero ∷ by_zero ∷ []
  pub least32 : all_on (V32 4294967295 ∷ V32 2147483648 ∷ []) (OfTwo Width32 DivS ∷ OfTwo Width32 RemS ∷ []) ≡ Some (Err (ByOperator IntegerOverflow)) ∷ words32 (0 ∷ [])
  pub least64 : all_on (V64 18446744073709551615 ∷ V64 9223372036854775808 ∷ []) (OfTwo Width64 DivS ∷ OfTwo Width64 RemS ∷ []) ≡ Some (Err (ByOperator IntegerOverflow)) ∷ words64 (0 ∷ [])
  pub bits32 : all_on (V32 10 ∷ V32 12 ∷ []) (OfTwo Width32 And ∷ OfTwo Width32 Or ∷ OfTwo Width32 Xor ∷ []) ≡ words32 (8 ∷ 14 ∷ 6 ∷ [])
  pub bits64 : all_on (V64 10 ∷ V64 12 ∷ []) (OfTwo Width64 And ∷ OfTwo Width64 Or ∷ OfTwo Width64 Xor ∷ []) ≡ words64 (8 ∷ 14 ∷ 6 ∷ [])
  -- the least number and 1, moved by 33 and by 65: by 1
  pub shifts32 : all_on (V32 33 ∷ V32 2147483649 ∷ []) (OfTwo Width32 Shl ∷ OfTwo Width32 ShrS ∷ OfTwo Width32 ShrU ∷ OfTwo Width32 Rotl ∷ OfTwo Width32 Rotr ∷ []) ≡ words32 (2 ∷ 3221225472 ∷ 1073741824 ∷ 3 ∷ 3221225472 ∷ [])
  pub shifts64 : all_on (V64 65 ∷ V64 9223372036854775809 ∷ []) (OfTwo Width64 Shl ∷ OfTwo Width64 ShrS ∷ OfTwo Width64 ShrU ∷ OfTwo Width64 Rotl ∷ OfTwo Width64 Rotr ∷ []) ≡ words64 (2 ∷ 13835058055282163712 ∷ 4611686018427387904 ∷ 3 ∷ 13835058055282163712 ∷ [])
  -- -1 and 0
  pub tests32 : all_on (V32 0 ∷ V32 4294967295 ∷ []) (Comparing Width32 Eq ∷ Comparing Width32 Ne ∷ Comparing Width32 LtS ∷ Comparing Width32 LtU ∷ Comparing Width32 GtS ∷ Comparing Width32 GtU ∷ Comparing Width32 LeS ∷ Comparing Width32 LeU ∷ Comparing Width32 GeS ∷ Comparing Width32 GeU ∷ []) ≡ words32 (0 ∷ 1 ∷ 1 ∷ 0 ∷ 0 ∷ 1 ∷ 1 ∷ 0 ∷ 0 ∷ 1 ∷ [])
  pub tests64 : all_on (V64 0 ∷ V64 18446744073709551615 ∷ []) (Comparing Width64 Eq ∷ Comparing Width64 Ne ∷ Comparing Width64 LtS ∷ Comparing Width64 LtU ∷ Comparing Width64 GtS ∷ Comparing Width64 GtU ∷ Comparing Width64 LeS ∷ Comparing Width64 LeU ∷ Comparing Width64 GeS ∷ Comparing Width64 GeU ∷ []) ≡ words32 (0 ∷ 1 ∷ 1 ∷ 0 ∷ 0 ∷ 1 ∷ 1 ∷ 0 ∷ 0 ∷ 1 ∷ [])
  pub zero_tests : apply (Eqz Width32) (V32 0 ∷ []) ∷ apply (Eqz Width64) (V64 0 ∷ []) ∷ apply (Eqz Width64) (V64 (2 ^ 63) ∷ []) ∷ [] ≡ words32 (1 ∷ 1 ∷ 0 ∷ [])
  pub narrower : apply Wrap (V64 (2 ^ 64 - 2) ∷ []) ≡ Some (Ok (V32 4294967294))
  pub wider : all_on (V32 4294967294 ∷ []) (ExtendS ∷ ExtendU ∷ []) ≡ words64 (18446744073709551614 ∷ 4294967294 ∷ [])
  -- the low bits of -129, of 128 and of 255, read with their sign
  pub low32 : all_on (V32 4294967167 ∷ []) (ExtendLow Width32 8 ∷ ExtendLow Width32 16 ∷ []) ≡ words32 (127 ∷ 4294967167 ∷ [])
  pub low_edges : apply (ExtendLow Width32 8) (V32 128 ∷ []) ∷ apply (ExtendLow Width32 8) (V32 255 ∷ []) ∷ apply (ExtendLow Width32 16) (V32 32768 ∷ []) ∷ [] ≡ words32 (4294967168 ∷ 4294967295 ∷ 4294934528 ∷ [])
  pub low64 : all_on (V64 4294967295 ∷ []) (ExtendLow Width64 8 ∷ ExtendLow Width64 16 ∷ ExtendLow Width64 32 ∷ []) ≡ words64 (18446744073709551615 ∷ 18446744073709551615 ∷ 18446744073709551615 ∷ [])
  pub other_operands : all_on (V32 0 ∷ V64 0 ∷ []) (OfTwo Width32 Add ∷ OfTwo Width64 Add ∷ OfOne Width32 Clz ∷ []) ≡ None ∷ None ∷ None ∷ []
