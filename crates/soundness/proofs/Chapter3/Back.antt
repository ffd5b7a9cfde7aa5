-- From the rule of an instruction to its typing, and from a context to one that says the same.
use Rattle.std.proofs.Common.{◌≡◌, refl, ap, subst}
use Rattle.wsyntax.specs.Validation.Context.{Context}
use Rattle.wsyntax.specs.Validation.Typing.{OpTyped}
use Rattle.wsyntax.specs.Validation.Algorithm.{Takes, Ends, Drops, Selects, rule}
use Rattle.soundness.specs.Rules.{RuleBack, SameFields, SameRules}
use Rattle.soundness.proofs.Chapter3.Rules.{rule-back}

pub rule_back : RuleBack
rule_back = record {
  takes = λ C i p q e. rule-back C i (Takes p q) p q e (refl, refl);
  ends = λ C i p e c z. rule-back C i (Ends p) _ z e (c, refl);
  drops = λ C i e t. rule-back C i Drops _ _ e (t, refl, refl);
  selects = λ C i e t. rule-back C i Selects _ _ e (t, refl, refl);
}

same_context : (C D : Context) → SameFields C D → C ≡ D
same_context C D h = λ k. record {
  types = h.types k;
  functions = h.functions k;
  has_table = h.has_table k;
  has_memory = h.has_memory k;
  globals = h.globals k;
  locals = h.locals k;
  labels = h.labels k;
  return = h.return k;
}

pub same_rules : SameRules
same_rules = record {
  same_rule = λ C D i h. ap (λ (C : Context). rule C i) (same_context C D h);
  same_typing = λ C D i a b h t. subst (λ (C : Context). OpTyped C i a b) (same_context C D h) t;
}
