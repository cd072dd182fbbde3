use Rattle.bank_tables.specs.Items.{has}
use Rattle.certificate_model.specs.Fixing.{is_taken_in}
use Rattle.constraint_model.specs.Views.{problem_of}
use Rattle.certificate_check.specs.Cuts.{path_of}
use Rattle.certificate_check.proofs.Collected.{IsCollected}
use Rattle.certificate_check.proofs.fixing.taken_in.Given as goal

abbrev pub invariant-loop-i : goal.invariant-loop-i
invariant-loop-i l = IsCollected l.i (λ j. is_taken_in (problem_of l.problem) (path_of l.standing.cut) l.costs.vector.now l.costs.goal j) (has l.found)
