use Rattle.wsyntax.specs.Elements.{element_of}
use Rattle.wsyntax.specs.Modules.{element_shape}
use Rattle.explain_rules.proofs.RuleFaults.{breaks_element}
use Rattle.explain_rules.proofs.rules.initial.element.Goals as goal

pub returns : goal.returns
returns c = breaks_element c.requires (element_shape (element_of c.in_ok-position.segment)) c.in_ok-position.position _ c.in_ok-position.ensures c.in_ok-element_fault.ensures
