use Rattle.wnum.proofs.Edges.{counts, arithmetic, bits, comparisons, extensions, low_extensions}
use Rattle.wnum.proofs.laws.operators_at_their_edges.Goals as goal

pub returns : goal.returns
returns c = record { counts = counts; arithmetic = arithmetic; bits = bits; comparisons = comparisons; extensions = extensions; low_extensions = low_extensions }
