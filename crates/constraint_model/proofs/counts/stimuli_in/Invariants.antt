use Rattle.std.proofs.Common.{◌≡◌, ◌≤◌}
use Rattle.bank_tables.specs.Items.{has}
use Rattle.form_model.specs.Forms.{stimuli_in}
use Rattle.constraint_model.proofs.counts.stimuli_in.Given as goal

abbrev pub invariant-loop-k : goal.invariant-loop-k
invariant-loop-k l = (l.n ≡ stimuli_in l.k (has l.stimuli)) × (l.n ≤ l.k)
