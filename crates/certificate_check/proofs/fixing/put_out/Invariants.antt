use Rattle.std.proofs.Common.{◌&&◌, ◌||◌}
use Rattle.bank_tables.specs.Items.{has}
use Rattle.bank_tables.specs.Tables.{stimulus}
use Rattle.certificate_model.specs.Paths.{is_free}
use Rattle.constraint_model.specs.Views.{problem_of}
use Rattle.certificate_check.specs.Cuts.{path_of}
use Rattle.certificate_check.proofs.Collected.{IsCollected}
use Rattle.certificate_check.proofs.fixing.put_out.Given as goal

abbrev pub invariant-loop-i : goal.invariant-loop-i
invariant-loop-i l = IsCollected l.i (λ j. is_free (problem_of l.problem) (path_of l.standing.cut) j && (has l.dear j || has l.few (stimulus l.problem.bank.now j))) (has l.found)
