use Rattle.std.proofs.Common.{◌≡◌, ap, arith, length, map}
use Rattle.program.proofs.Rounds.{none_begun, round_begun, round_printed}
use Rattle.program.proofs.checking_all.check_round.Goals as goal

pub returns-in-Err-clause-begun : goal.returns-in-Err-clause-begun
returns-in-Err-clause-begun g c =
    let (k, order) = c.in-Err.ensures.begun in
    none_begun (g.S.Source.holds c.args.source.now) (map (λ n. n.now) c.args.names.now) (g.S.Source.asked c.args.source.now) (g.S.Source.asked c.take_round.new.source) (g.O.Write.contents c.args.out.now) k order

pub returns-in-Err-judged_lines-clause-begun : goal.returns-in-Err-judged_lines-clause-begun
returns-in-Err-judged_lines-clause-begun g c =
    none_begun (g.S.Source.holds c.args.source.now) (map (λ n. n.now) c.args.names.now) (g.S.Source.asked c.args.source.now) (g.S.Source.asked c.take_round.new.source) (g.O.Write.contents c.args.out.now) (length c.in-Ok.taken.items) c.in-Ok.ensures.logged

pub returns-in-Ok-write_text-clause-printed : goal.returns-in-Ok-write_text-clause-printed
returns-in-Ok-write_text-clause-printed g c =
    let value : length c.as_slice.result.now ≡ length c.in-Ok.taken.items = ap length c.as_slice.ensures.value in
    let count : c.len-count.result ≡ length c.in-Ok.taken.items = omega (arith, c.len-count.ensures, c.as_slice.ensures.len, value) in
    round_printed (g.S.Source.holds c.args.source.now) c.args.names.now c.in-Ok.taken.items c.as_slice.result.now c.in-Ok-judged_lines.lines.text.items c.as_slice-2.result.now c.in-Ok-judged_lines.lines.file_outcome
    (g.S.Source.asked c.args.source.now) (g.S.Source.asked c.take_round.new.source) (g.O.Write.contents c.args.out.now) (g.O.Write.contents c.write_text.new.out) c.len-count.result
    count c.as_slice.ensures.value c.as_slice-2.ensures.value c.in-Ok.ensures.taken c.in-Ok-judged_lines.ensures c.in-Ok.ensures.logged c.in-Ok-write_text.ensures.text

pub returns-clause-begun : goal.returns-clause-begun
returns-clause-begun g c =
    let value : length c.as_slice.result.now ≡ length c.in-Ok.taken.items = ap length c.as_slice.ensures.value in
    let count : c.len-count.result ≡ length c.in-Ok.taken.items = omega (arith, c.len-count.ensures, c.as_slice.ensures.len, value) in
    round_begun (g.S.Source.holds c.args.source.now) c.args.names.now c.in-Ok.taken.items c.as_slice.result.now c.in-Ok-judged_lines.lines.text.items c.as_slice-2.result.now c.in-Ok-judged_lines.lines.file_outcome
    (g.S.Source.asked c.args.source.now) (g.S.Source.asked c.take_round.new.source) (g.O.Write.contents c.args.out.now) (g.O.Write.contents c.write_text.new.out) c.len-count.result
    count c.as_slice.ensures.value c.as_slice-2.ensures.value c.in-Ok.ensures.taken c.in-Ok-judged_lines.ensures c.in-Ok.ensures.logged c.in-Err-write_text.ensures.text
