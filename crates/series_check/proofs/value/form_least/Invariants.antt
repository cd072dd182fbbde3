use Rattle.bank_tables.specs.Items.{has}
use Rattle.series_check.specs.Cuts.{problem_of}
use Rattle.series_check.specs.Values.{IsLeastTo}
use Rattle.series_check.proofs.value.form_least.Given as goal

abbrev pub invariant-loop-g : goal.invariant-loop-g
invariant-loop-g l = IsLeastTo (problem_of l.setting) (has l.items) l.g l.least
