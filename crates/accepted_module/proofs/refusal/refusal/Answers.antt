use Rattle.std.proofs.Common.{rules, ◌≡◌, ◌≤◌, ◌<◌, ◌∙◌, sym, length, arith}
use Rattle.std.proofs.lemmas.List.{length-map}
use Rattle.wsyntax.specs.Modules.{module_shape, import_shape}
use Rattle.wsyntax.specs.Execution.Start.{table_limit}
use Rattle.accepted_module.specs.Sizes.{table_size, memory_pages}
use Rattle.accepted_module.proofs.Refusals.{Passes, at_imports, at_floats, at_table, at_memory, at_element, at_data, at_none, none_of}
use Rattle.accepted_module.proofs.refusal.refusal.Goals as goal

pub returns-then-not-is_empty : goal.returns-then-not-is_empty
returns-then-not-is_empty c = λ bodies e.
    let some : 0 < length c.args.module.now.imports.items = search rules in
    at_imports c.args.pages (module_shape c.args.module.now) bodies (omega (arith, length-map c.args.module.now.imports.items import_shape))

pub returns-then-uses_floats : goal.returns-then-uses_floats
returns-then-uses_floats c = λ bodies e.
    let none : length c.args.module.now.imports.items ≡ 0 = search rules in
    at_floats c.args.pages (module_shape c.args.module.now) bodies (length-map c.args.module.now.imports.items import_shape ∙ none) (sym e ∙ c.if-uses_floats.true)

pub returns-then-table_size-gt-TABLE_LIMIT : goal.returns-then-table_size-gt-TABLE_LIMIT
returns-then-table_size-gt-TABLE_LIMIT c = λ bodies e.
    let none : length c.args.module.now.imports.items ≡ 0 = search rules in
    let above : table_limit < table_size (module_shape c.args.module.now) = omega (arith, c.table_size.ensures) in
    at_table c.args.pages (module_shape c.args.module.now) bodies (length-map c.args.module.now.imports.items import_shape ∙ none) (sym e ∙ c.if-uses_floats.false) above

pub returns-then-memory_pages-pages : goal.returns-then-memory_pages-pages
returns-then-memory_pages-pages c = λ bodies e.
    let none : length c.args.module.now.imports.items ≡ 0 = search rules in
    let table : table_size (module_shape c.args.module.now) ≤ table_limit = omega (arith, c.table_size.ensures) in
    let above : c.args.pages < memory_pages (module_shape c.args.module.now) = omega (arith, c.memory_pages.ensures) in
    at_memory c.args.pages (module_shape c.args.module.now) bodies (length-map c.args.module.now.imports.items import_shape ∙ none) (sym e ∙ c.if-uses_floats.false) table above

pub returns-in-Some : goal.returns-in-Some
returns-in-Some c = λ bodies e.
    let none : length c.args.module.now.imports.items ≡ 0 = search rules in
    let p : Passes c.args.pages (module_shape c.args.module.now) bodies = record {
      imports = length-map c.args.module.now.imports.items import_shape ∙ none;
      floats = sym e ∙ c.if-uses_floats.false;
      table = omega (arith, c.table_size.ensures);
      memory = omega (arith, c.memory_pages.ensures);
    } in
    at_element c.args.pages (module_shape c.args.module.now) bodies c.in-Some.segment p (sym c.in-Some.is ∙ c.first_out_of_bounds_elem.ensures ∙ c.requires.first_out_of_bounds_elem)

pub returns-in-Some-data_outside : goal.returns-in-Some-data_outside
returns-in-Some-data_outside c = λ bodies e.
    let none : length c.args.module.now.imports.items ≡ 0 = search rules in
    let p : Passes c.args.pages (module_shape c.args.module.now) bodies = record {
      imports = length-map c.args.module.now.imports.items import_shape ∙ none;
      floats = sym e ∙ c.if-uses_floats.false;
      table = omega (arith, c.table_size.ensures);
      memory = omega (arith, c.memory_pages.ensures);
    } in
    at_data c.args.pages (module_shape c.args.module.now) bodies c.in-Some-data_outside.segment p (none_of c.first_out_of_bounds_elem.result c.in_default.not-Some ∙ c.first_out_of_bounds_elem.ensures ∙ c.requires.first_out_of_bounds_elem) (sym c.in-Some-data_outside.is ∙ c.data_outside.ensures ∙ c.requires.data_outside)

pub returns : goal.returns
returns c = λ bodies e.
    let none : length c.args.module.now.imports.items ≡ 0 = search rules in
    let p : Passes c.args.pages (module_shape c.args.module.now) bodies = record {
      imports = length-map c.args.module.now.imports.items import_shape ∙ none;
      floats = sym e ∙ c.if-uses_floats.false;
      table = omega (arith, c.table_size.ensures);
      memory = omega (arith, c.memory_pages.ensures);
    } in
    at_none c.args.pages (module_shape c.args.module.now) bodies p (none_of c.first_out_of_bounds_elem.result c.in_default.not-Some ∙ c.first_out_of_bounds_elem.ensures ∙ c.requires.first_out_of_bounds_elem) (none_of c.data_outside.result c.in_default-data_outside.not-Some ∙ c.data_outside.ensures ∙ c.requires.data_outside)
