use Rattle.std.proofs.Common.{◌%◌, ◌^◌, arith}
use Rattle.wnum.specs.Arithmetic.{Width64, unary, bits, extended}
use Rattle.soundness.proofs.Chapter4.Exact.{exact, load_exact, size_exact}
use Rattle.soundness.proofs.execution.results_are_exact.Goals as goal

pub returns : goal.returns
returns c =
    let words = c.operators_stay_in_range.ensures in
    record {
      of_one = λ w f x h. exact w (unary (bits w) f x) (words.of_one w f x h);
      of_two = λ w f x y r h k e. exact w r (words.of_two w f x y r h k e);
      extended_s = λ x. exact Width64 (extended 32 64 x) (words.widened 32 64 x);
      extended_low = λ w n x. exact w (extended n (bits w) (x % 2 ^ n)) (words.widened n (bits w) (x % 2 ^ n));
      extended_u = λ x h. exact Width64 x (omega arith);
      of_load = load_exact;
      of_size = size_exact;
    }
