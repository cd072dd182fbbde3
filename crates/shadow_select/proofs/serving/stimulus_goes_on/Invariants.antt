use Rattle.std.proofs.Common.{◌≡◌, not, ◌&&◌, ◌==◌}
use Rattle.bank_tables.specs.Items.{has}
use Rattle.bank_tables.specs.Sums.{any_below}
use Rattle.bank_tables.specs.Tables.{stimulus}
use Rattle.shadow_select.proofs.serving.stimulus_goes_on.Given as goal

abbrev pub invariant-loop-i : goal.invariant-loop-i
invariant-loop-i l = l.found ≡ any_below l.i (λ i. (has l.form i && not (has l.problem.given i)) && stimulus l.problem.bank.now i == l.last)
