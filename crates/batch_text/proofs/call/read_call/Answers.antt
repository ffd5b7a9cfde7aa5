use Rattle.std.proofs.Common.{◌<◌, length, subst, rules}
use Rattle.std.proofs.lemmas.List.{take_rest}
use Rattle.batch_text.specs.Args.{args_of}
use Rattle.batch_text.specs.Reading.{SplitsBefore}
use Rattle.batch_text.proofs.Fields.{fields_begin, field_more, field_refused}
use Rattle.batch_text.proofs.call.read_call.Goals as goal

pub fields-init : goal.fields-init
fields-init c = fields_begin c.args.line.now _ _ c.requires c.split_before.ensures

pub returns-in_default : goal.returns-in_default
returns-in_default c =
    let rest = c.fields.rest.now in
    let some : 0 < length rest = search rules in
    let split = subst (λ l. SplitsBefore 0x09 l c.split_before-in-fields.result.0.now c.split_before-in-fields.result.1.now) (take_rest rest 1) c.split_before-in-fields.ensures in
    field_refused c.args.line.now _ rest _ _ (args_of c.fields.args) some c.fields.invariant split c.in_default.ensures

pub fields-preserved : goal.fields-preserved
fields-preserved c =
    let rest = c.fields.rest.now in
    let some : 0 < length rest = search rules in
    let split = subst (λ l. SplitsBefore 0x09 l c.split_before-in-fields.result.0.now c.split_before-in-fields.result.1.now) (take_rest rest 1) c.split_before-in-fields.ensures in
    rw c.in_ok-args.ensures (field_more c.args.line.now _ rest _ _ (args_of c.fields.args) c.in-Some.value some c.fields.invariant split c.in-Some.ensures)
