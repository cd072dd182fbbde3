use Rattle.bank_tables.specs.Items.{has}
use Rattle.constraint_model.specs.Views.{problem_of}
use Rattle.shadow_select.specs.Next.{IsNextBelow}
use Rattle.shadow_select.proofs.serving.best_candidate.Given as goal

abbrev pub invariant-loop-i : goal.invariant-loop-i
invariant-loop-i l = IsNextBelow l.i (problem_of l.problem) (has l.form) l.best
