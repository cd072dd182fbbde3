use Rattle.bank_tables.specs.Items.{has}
use Rattle.certificate_model.specs.Fixing.{is_settled_on}
use Rattle.constraint_model.specs.Views.{problem_of}
use Rattle.certificate_check.specs.Cuts.{path_of}
use Rattle.certificate_check.proofs.Collected.{IsCollected}
use Rattle.certificate_check.proofs.fixing.settled_on.Given as goal

abbrev pub invariant-loop-which : goal.invariant-loop-which
invariant-loop-which l = IsCollected l.which (λ j. is_settled_on (problem_of l.problem) (path_of l.standing.cut) l.costs.vector.now l.costs.goal j) (has l.found)
