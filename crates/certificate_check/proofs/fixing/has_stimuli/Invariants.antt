use Rattle.std.proofs.Common.{◌≡◌, suc}
use Rattle.bank_tables.specs.Items.{has}
use Rattle.bank_tables.specs.Sums.{any_below}
use Rattle.certificate_check.proofs.fixing.has_stimuli.Given as goal

abbrev pub invariant-loop-k : goal.invariant-loop-k
invariant-loop-k l = l.found ≡ any_below l.k (λ k. has l.stimuli (suc k))
