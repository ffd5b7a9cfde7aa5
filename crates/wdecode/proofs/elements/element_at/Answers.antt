use Rattle.std.proofs.lemmas.Result.{err_from_is_err_and}
use Rattle.wdecode.proofs.Segments.{fails_first, fails_second, fails_third, element_given}
use Rattle.wdecode.proofs.elements.element_at.Goals as goal

pub returns-in_err-table : goal.returns-in_err-table
returns-in_err-table c =
    let p = err_from_is_err_and c.from_residual.result c.from_residual.ensures.1 in
    rw (p.1, p.2) (fails_first c.in_err-table.field-0.0 c.args.bytes.now c.in_err-table.ensures)

pub returns-in_err-offset : goal.returns-in_err-offset
returns-in_err-offset c =
    let p = err_from_is_err_and c.from_residual-in_err-offset.result c.from_residual-in_err-offset.ensures.1 in
    rw (p.1, p.2) (fails_second c.in_err-offset.field-0.0 c.args.bytes.now c.in_ok-table.rest.now c.in_ok-table.table c.in_ok-table.ensures c.in_err-offset.ensures)

pub returns-in_err-count : goal.returns-in_err-count
returns-in_err-count c =
    let p = err_from_is_err_and c.from_residual-in_err-count.result c.from_residual-in_err-count.ensures.1 in
    rw (p.1, p.2) (fails_third c.in_err-count.field-0.0 c.args.bytes.now c.in_ok-table.rest.now c.in_ok-offset.rest.now c.in_ok-table.table _ c.in_ok-table.ensures c.in_ok-offset.ensures c.in_err-count.ensures)

pub returns : goal.returns
returns c = element_given (λ x. x.now) c.args.elements.now c.push.new.self c.functions_at.new.elements c.functions_at.result c.in_ok-offset.offset c.args.bytes.now c.in_ok-table.rest.now c.in_ok-offset.rest.now c.in_ok-count.rest.now c.in_ok-table.table c.in_ok-count.count c.in_ok-table.ensures c.in_ok-offset.ensures c.in_ok-push.ensures c.in_ok-count.ensures c.functions_at.ensures
