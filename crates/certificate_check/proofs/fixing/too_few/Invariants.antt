use Rattle.bank_tables.specs.Items.{has}
use Rattle.constraint_model.specs.Views.{problem_of}
use Rattle.certificate_check.specs.Cuts.{path_of}
use Rattle.certificate_check.specs.Fixes.{lacks_items}
use Rattle.certificate_check.proofs.Collected.{IsCollected}
use Rattle.certificate_check.proofs.fixing.too_few.Given as goal

abbrev pub invariant-loop-which : goal.invariant-loop-which
invariant-loop-which l = IsCollected l.which (lacks_items (problem_of l.problem) (path_of l.standing.cut) l.left) (has l.found)
