use Rattle.std.proofs.Common.{◌+◌}
use Rattle.bank_tables.specs.Items.{has}
use Rattle.constraint_model.specs.FirstBreaches.{StimuliHoldBelow}
use Rattle.constraint_model.proofs.breaches.stimulus_breach.Given as goal

abbrev pub invariant-loop-k : goal.invariant-loop-k
invariant-loop-k l = StimuliHoldBelow l.bank l.plan (has l.form) (l.k + 1)
