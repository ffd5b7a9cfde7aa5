-- What is left is the same as all, but for blanks in front.
use Rattle.explain.specs.Forms.{AreSameAfterBlanks}
use Rattle.explain.proofs.forms.after_blanks.Given as goal

abbrev pub invariant-loop : goal.invariant-loop
invariant-loop l = AreSameAfterBlanks l.bytes l.rest
