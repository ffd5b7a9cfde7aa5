-- The operators at their edges compute to what is stated.
use Rattle.std.proofs.Common.{refl}
use Rattle.wnum.specs.Arithmetic.{leading, trailing, ones}
use Rattle.wnum.specs.OperatorEdges.{CountEdges, ArithmeticEdges, BitEdges, ComparisonEdges, ExtensionEdges, LowExtensionEdges}

pub counts : CountEdges
unfolding leading trailing ones
counts = record { clz_of_none = refl; clz_of_low = refl; clz_of_top = refl; ctz_of_none = refl; ctz_of_middle = refl; ctz_of_top = refl; popcnt_of_byte = refl; popcnt_of_all = refl }

pub arithmetic : ArithmeticEdges
arithmetic = record { add_wraps = refl; sub_wraps = refl; mul_wraps = refl; div_s_toward_zero = refl; div_s_by_zero = refl; div_s_least_by_minus_one = refl; div_s_long_least_by_minus_one = refl; div_u_of_most = refl; div_u_by_zero = refl; rem_s_sign_of_dividend = refl; rem_s_sign_of_divisor = refl; rem_s_by_zero = refl; rem_s_least_by_minus_one = refl; rem_u_of_most = refl; rem_u_by_zero = refl }

pub bits : BitEdges
bits = record { ands = refl; ors = refl; xors = refl; shl_drops = refl; shl_by_all = refl; shr_s_copies_sign = refl; shr_s_by_all = refl; shr_s_without_sign = refl; shr_u_clears = refl; rotl_over_the_top = refl; rotl_by_none = refl; rotr_over_the_bottom = refl; rotr_by_all = refl }

pub comparisons : ComparisonEdges
comparisons = record { eq = refl; ne = refl; lt_s = refl; lt_u = refl; gt_s = refl; gt_u = refl; le_s = refl; le_u = refl; ge_s = refl; ge_u = refl; lt_s_of_equal = refl; ge_s_of_equal = refl }

pub extensions : ExtensionEdges
extensions = record { of_minus_one = refl; of_least = refl; of_most = refl }

pub low_extensions : LowExtensionEdges
low_extensions = record { extend8_s_of_most = refl; extend8_s_of_least = refl; extend8_s_of_minus_one = refl; extend8_s_drops = refl; extend16_s_of_least = refl; extend16_s_drops = refl; extend8_s_long_of_least = refl; extend8_s_long_drops = refl; extend16_s_long_of_least = refl; extend32_s_of_most = refl; extend32_s_of_least = refl; extend32_s_of_minus_one = refl; extend32_s_drops = refl }
