-- Reading agrees with spelling, for sections and bodies.
use Rattle.std.proofs.Common.{ℕ, zero, suc, None, List}
use Rattle.wsyntax.specs.Binary.Production.{Production, Agrees, inside, byte, given, begins}
use Rattle.wsyntax.specs.Binary.Values.{u32, vector, blob, name}
use Rattle.wsyntax.specs.Binary.Types.{val_type, func_type, limits, table_type, global_type}
use Rattle.wsyntax.specs.Binary.Nesting.{expression}
use Rattle.wsyntax.specs.Binary.Sections.{import_kind_of, import_kind, an_import, export_kind_of, an_export, global, element, data_segment, run, locals, body, SectionShape, SectionKind, CustomSection, TypeSection, ImportSection, FunctionSection, TableSection, MemorySection, GlobalSection, ExportSection, StartSection, ElementSection, CodeSection, DataSection, filling, kind_of, contents_of, contents, section}
use Rattle.wdecode.proofs.Agree.{byte_agrees, given_agrees, bind_agrees, u32_agrees, vector_agrees, blob_agrees, name_agrees, inside_agrees, begins_agrees}
use Rattle.wdecode.proofs.TypeLaws.{val_type_agrees, func_type_agrees, limits_agrees, table_type_agrees, global_type_agrees}
use Rattle.wdecode.proofs.Trees.{expression_agrees}

import_kind_of_agrees : (b : ℕ) → Agrees (import_kind_of b)
import_kind_of_agrees zero = bind_agrees u32 _ u32_agrees λ x. given_agrees _
import_kind_of_agrees (suc zero) = bind_agrees table_type _ table_type_agrees λ t. given_agrees _
import_kind_of_agrees (suc (suc zero)) = bind_agrees limits _ limits_agrees λ m. given_agrees _
import_kind_of_agrees (suc (suc (suc zero))) = bind_agrees global_type _ global_type_agrees λ g. given_agrees _
import_kind_of_agrees (suc (suc (suc (suc b)))) = given_agrees None

pub import_kind_agrees : Agrees import_kind
unfolding import_kind
import_kind_agrees = bind_agrees byte import_kind_of byte_agrees import_kind_of_agrees

pub an_import_agrees : Agrees an_import
unfolding an_import
an_import_agrees = bind_agrees name _ name_agrees λ m. bind_agrees name _ name_agrees λ i. bind_agrees import_kind _ import_kind_agrees λ k. given_agrees _

pub an_export_agrees : Agrees an_export
unfolding an_export
an_export_agrees = bind_agrees name _ name_agrees λ i. bind_agrees byte _ byte_agrees λ b. bind_agrees (given (export_kind_of b)) _ (given_agrees (export_kind_of b)) λ k. bind_agrees u32 _ u32_agrees λ x. given_agrees _

pub global_agrees : Agrees global
unfolding global
global_agrees = bind_agrees global_type _ global_type_agrees λ t. bind_agrees expression _ expression_agrees λ e. given_agrees _

pub element_agrees : Agrees element
unfolding element
element_agrees = bind_agrees u32 _ u32_agrees λ t. bind_agrees expression _ expression_agrees λ e. bind_agrees (vector u32) _ (vector_agrees u32 u32_agrees) λ fs. given_agrees _

pub data_segment_agrees : Agrees data_segment
unfolding data_segment
data_segment_agrees = bind_agrees u32 _ u32_agrees λ m. bind_agrees expression _ expression_agrees λ e. bind_agrees blob _ blob_agrees λ b. given_agrees _

pub run_agrees : Agrees run
unfolding run
run_agrees = bind_agrees u32 _ u32_agrees λ n. bind_agrees val_type _ val_type_agrees λ t. given_agrees _

pub locals_agrees : Agrees locals
unfolding locals
locals_agrees = bind_agrees (vector run) _ (vector_agrees run run_agrees) λ runs. given_agrees _

pub body_agrees : Agrees body
unfolding body
body_agrees = bind_agrees locals _ locals_agrees λ runs. bind_agrees expression _ expression_agrees λ e. given_agrees _

filling_agrees : {A : Type 0} (s : List ℕ) (q : Production A) (made : A → SectionShape) → Agrees q → Agrees (filling s q made)
filling_agrees s q made agrees = bind_agrees (inside s q) _ (inside_agrees s q agrees) λ v. given_agrees _

contents_of_agrees : (k : SectionKind) (s : List ℕ) → Agrees (contents_of k s)
contents_of_agrees CustomSection s = bind_agrees (begins s name) _ (begins_agrees s name name_agrees) λ v. given_agrees _
contents_of_agrees TypeSection s = filling_agrees s (vector func_type) _ (vector_agrees func_type func_type_agrees)
contents_of_agrees ImportSection s = filling_agrees s (vector an_import) _ (vector_agrees an_import an_import_agrees)
contents_of_agrees FunctionSection s = filling_agrees s (vector u32) _ (vector_agrees u32 u32_agrees)
contents_of_agrees TableSection s = filling_agrees s (vector table_type) _ (vector_agrees table_type table_type_agrees)
contents_of_agrees MemorySection s = filling_agrees s (vector limits) _ (vector_agrees limits limits_agrees)
contents_of_agrees GlobalSection s = filling_agrees s (vector global) _ (vector_agrees global global_agrees)
contents_of_agrees ExportSection s = filling_agrees s (vector an_export) _ (vector_agrees an_export an_export_agrees)
contents_of_agrees StartSection s = filling_agrees s u32 _ u32_agrees
contents_of_agrees ElementSection s = filling_agrees s (vector element) _ (vector_agrees element element_agrees)
contents_of_agrees CodeSection s = filling_agrees s (vector blob) _ (vector_agrees blob blob_agrees)
contents_of_agrees DataSection s = filling_agrees s (vector data_segment) _ (vector_agrees data_segment data_segment_agrees)

contents_agrees : (id : ℕ) (s : List ℕ) → Agrees (contents id s)
contents_agrees id s = bind_agrees (given (kind_of id)) _ (given_agrees (kind_of id)) λ k. contents_of_agrees k s

pub section_agrees : Agrees section
unfolding section
section_agrees = bind_agrees byte _ byte_agrees λ id. bind_agrees blob _ blob_agrees λ s. contents_agrees id s
