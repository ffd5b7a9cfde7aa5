use Rattle.std.proofs.Common.{◌≡◌, length, arith, rules}
use Rattle.batch.proofs.SlicedCalls.{few_slices, text_read}
use Rattle.batch.proofs.reading.read_slices.Goals as goal

pub returns-in-Some : goal.returns-in-Some
returns-in-Some g c =
    let many : c.len-count.result ≡ length c.in_ok-slices.slices.items = search rules in
    text_read c.args.text.now _ c.len-count.result c.in-Some.all c.in_ok-slices.slices.items c.deref.result.now c.in-Ok.read.items c.deref-in-Ok.result.now
    c.requires c.in_ok-slices.ensures c.deref.ensures.value many c.in-Ok.ensures c.deref-in-Ok.ensures.value c.in-Some.ensures

pub overflow_cast-count : goal.overflow_cast-count
overflow_cast-count g c =
    omega (arith, few_slices _ c.args.text.now c.in_ok-slices.slices.items c.in_ok-slices.ensures, c.requires, c.len-count.ensures)
