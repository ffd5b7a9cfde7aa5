-- The lines of imports, exports and custom sections, and the line after them.
use Rattle.std.proofs.Common.{◌≡◌, ℕ, List, [], ◌∷◌, ◌++◌, append_assoc, flat_map, map, refl, ap, ◌∙◌, subst}
use Rattle.wsyntax.specs.declared.module.Export.{Export}
use Rattle.wsyntax.specs.declared.module.Import.{Import}
use Rattle.wsyntax.specs.declared.module.Module.{Module}
use Rattle.wsyntax.specs.Modules.{ExportShape, ImportShape, export_shape, import_shape}
use Rattle.wsyntax.specs.Validation.ModuleContext.{IndexedContext}
use Rattle.explain_run.specs.declared.customs.CustomSection.{CustomSection}
use Rattle.explain_run.specs.Exports.{custom_line, export_line, import_line}

imports_shown : (f : ImportShape → List ℕ) (is : List Import) → flat_map (λ i. f (import_shape i)) is ≡ flat_map f (map import_shape is)
imports_shown f [] = refl
imports_shown f (i ∷ is) = ap (λ l. f (import_shape i) ++ l) (imports_shown f is)

exports_shown : (f : ExportShape → List ℕ) (es : List Export) → flat_map (λ e. f (export_shape e)) es ≡ flat_map f (map export_shape es)
exports_shown f [] = refl
exports_shown f (e ∷ es) = ap (λ l. f (export_shape e) ++ l) (exports_shown f es)

-- four texts in a row
in_a_row : (a b c d : List ℕ) → ((a ++ b) ++ c) ++ d ≡ a ++ (b ++ (c ++ d))
in_a_row a b c d = append_assoc (a ++ b) c d ∙ append_assoc a b (c ++ d)

abbrev imports_of : Module → List ℕ
imports_of m = flat_map (import_line m.types) (map import_shape m.imports.items)

abbrev exports_of : Module → IndexedContext → List ℕ
exports_of m C = flat_map (export_line C.context) (map export_shape m.exports.items)

abbrev lines : Module → IndexedContext → List CustomSection → List ℕ → List ℕ
lines m C cs last = imports_of m ++ (exports_of m C ++ (flat_map custom_line cs ++ last))

-- the lines are written, and the last one after them
written : (m : Module) (C : IndexedContext) (is : List Import) (es : List Export) (cs : List CustomSection) (start one two three last shown new : List ℕ)
    → is ≡ m.imports.items → es ≡ m.exports.items → start ≡ [] → one ≡ start ++ flat_map (λ i. import_line m.types (import_shape i)) is
    → two ≡ one ++ flat_map (λ e. export_line C.context (export_shape e)) es → three ≡ two ++ flat_map custom_line cs → shown ≡ last → new ≡ three ++ shown
    → new ≡ lines m C cs last
written m C is es cs start one two three last shown new same_imports same_exports empty first second third same joined =
    let told_imports = flat_map (λ i. import_line m.types (import_shape i)) is in
    let told_exports = flat_map (λ e. export_line C.context (export_shape e)) es in
    let customs = flat_map custom_line cs in
    let imports : told_imports ≡ imports_of m =
    ap (λ (x : List Import). flat_map (λ i. import_line m.types (import_shape i)) x) same_imports ∙ imports_shown (import_line m.types) m.imports.items in
    let exports : told_exports ≡ exports_of m C =
    ap (λ (x : List Export). flat_map (λ e. export_line C.context (export_shape e)) x) same_exports ∙ exports_shown (export_line C.context) m.exports.items in
    joined ∙ ap (λ l. three ++ l) same
    ∙ ap (λ l. l ++ last) third
    ∙ ap (λ l. (l ++ customs) ++ last) second
    ∙ ap (λ l. ((l ++ told_exports) ++ customs) ++ last) (first ∙ ap (λ l. l ++ told_imports) empty)
    ∙ in_a_row told_imports told_exports customs last
    ∙ ap (λ l. l ++ (told_exports ++ (customs ++ last))) imports
    ∙ ap (λ l. imports_of m ++ (l ++ (customs ++ last))) exports

-- those of the same module in the same context
pub lines_then_last : (m n : Module) (C D : IndexedContext) (is : List Import) (es : List Export) (cs : List CustomSection) (start one two three last shown new : List ℕ)
    → m ≡ n → C ≡ D → is ≡ m.imports.items → es ≡ m.exports.items → start ≡ [] → one ≡ start ++ flat_map (λ i. import_line m.types (import_shape i)) is
    → two ≡ one ++ flat_map (λ e. export_line C.context (export_shape e)) es → three ≡ two ++ flat_map custom_line cs → shown ≡ last → new ≡ three ++ shown
    → new ≡ lines n D cs last
lines_then_last m n C D is es cs start one two three last shown new same_module same_context same_imports same_exports empty first second third same joined =
    subst (λ (x : Module). new ≡ lines x D cs last) same_module
    (subst (λ (y : IndexedContext). new ≡ lines m y cs last) same_context
    (written m C is es cs start one two three last shown new same_imports same_exports empty first second third same joined))
