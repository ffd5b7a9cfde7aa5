use Rattle.std.proofs.Common.{◌≡◌, ap, sym, ◌∙◌, Some, Option, drop}
use Rattle.wnum.specs.Reading.{signed_at, sums_at, ranged, signed_value, fits_signed_bits}
use Rattle.wnum.proofs.Ten.{at_some, Sums}
use Rattle.std.proofs.lemmas.List.{take_rest}
use Rattle.wnum.proofs.leb.long_s64.Goals as goal

pub returns : goal.returns
unfolding signed_at
returns c =
    let bytes = c.args.bytes.now in
    let g = c.in_ok-groups.groups in
    let more : sums_at 5 (drop 5 bytes) ≡ Some ((g.sum, g.sign), g.rest.now) = ap (sums_at 5) (sym (take_rest bytes 5)) ∙ c.in_ok-groups.ensures.value in
    let ten = at_some bytes g.sum g.sign g.rest.now c.in-len5-up.len_at_least c.in_default.ensures.value more in
    c.joined_s64.ensures ∙ rw (c.low_5.ensures) (sym (ap (λ (r : Option Sums). ranged signed_value (fits_signed_bits 64) r) ten))
