use Rattle.std.proofs.Common.{[], ◌∷◌, true, sym, ◌∙◌}
use Rattle.wsyntax.specs.declared.ValType.TheVariants.{I32}
use Rattle.wsyntax.specs.Table.{load_access}
use Rattle.wsyntax.specs.Validation.Algorithm.{Takes}
use Rattle.wcheck.proofs.Alignments.{with_memory}
use Rattle.wcheck.proofs.rule.load_rule.Goals as goal

pub returns : goal.returns
returns c =
    λ offset. with_memory _ true c.args.align c.row-of_type.result.natural (load_access c.args.load c.args.align offset) c.row-of_type.result.of_type (λ t. Takes (I32 ∷ []) (t ∷ [])) (sym c.has_memory.ensures ∙ c.if-not-has_memory.false) (c.row-of_type.ensures.of_type c.args.align offset) (c.row-of_type.ensures.aligned c.args.align offset) (c.row-of_type.ensures.width c.args.align offset) (sym c.if-not-is_aligned.false ∙ c.is_aligned.ensures)
