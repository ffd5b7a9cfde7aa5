use Rattle.wdecode.proofs.Agree.{name_agrees, blob_agrees}
use Rattle.wdecode.proofs.BlockTypes.{block_type_agrees}
use Rattle.wdecode.proofs.TypeLaws.{val_type_agrees, func_type_agrees, limits_agrees, table_type_agrees, global_type_agrees}
use Rattle.wdecode.proofs.InstructionLaws.{plain_agrees}
use Rattle.wdecode.proofs.Trees.{expression_agrees}
use Rattle.wdecode.proofs.SectionLaws.{an_import_agrees, an_export_agrees, global_agrees, element_agrees, data_segment_agrees, locals_agrees, body_agrees, section_agrees}
use Rattle.wdecode.proofs.laws.grammar_is_read.Goals as goal

pub returns : goal.returns
returns c = record {
  blob = blob_agrees;
  name = name_agrees;
  val_type = val_type_agrees;
  block_type = block_type_agrees;
  func_type = func_type_agrees;
  limits = limits_agrees;
  table_type = table_type_agrees;
  global_type = global_type_agrees;
  plain_instruction = plain_agrees;
  expression = expression_agrees;
  import_ = an_import_agrees;
  global = global_agrees;
  export_ = an_export_agrees;
  element = element_agrees;
  locals = locals_agrees;
  body = body_agrees;
  data_segment = data_segment_agrees;
  section = section_agrees;
}
