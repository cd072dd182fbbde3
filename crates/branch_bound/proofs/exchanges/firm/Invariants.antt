use Rattle.std.proofs.Common.{◌≤◌, ◌-◌}
use Rattle.bank_tables.specs.Items.{has}
use Rattle.form_model.specs.Forms.{Form, objective}
use Rattle.constraint_model.specs.Views.{problem_of}
use Rattle.branch_bound.proofs.exchanges.firm.Given as goal

-- what is kept is a form, no worse than the one given
abbrev pub invariant-loop-better : goal.invariant-loop-better
invariant-loop-better l =
    record {
      form : Form (problem_of l.problem) (has l.best);
      no_worse : objective (problem_of l.problem) (has l.fn.form) ≤ objective (problem_of l.problem) (has l.best);
    }

-- the objective rises, and is below 2 ^ 30
abbrev pub decreases-loop-better : goal.decreases-loop-better
decreases-loop-better l = 1073741824 - objective (problem_of l.problem) (has l.best)
