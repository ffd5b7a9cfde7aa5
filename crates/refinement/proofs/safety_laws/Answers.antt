use Rattle.refinement.proofs.safety_laws.Goals as goal

pub returns : goal.returns
returns c = record { state_typed = c.state_typed.ensures; rule_back = c.rule_back.ensures; never_stuck = c.never_stuck.ensures; results_typed = c.results_typed.ensures; paid = c.paid.ensures; joins = c.joins.ensures; counts_add = c.counts_add.ensures }
