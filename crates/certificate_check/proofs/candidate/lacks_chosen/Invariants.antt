use Rattle.std.proofs.Common.{◌≡◌, ℕ, ◌<◌, true, false, suc}
use Rattle.bank_tables.specs.Items.{has}
use Rattle.certificate_check.proofs.candidate.lacks_chosen.Given as goal

-- the stimuli so far are used where they are chosen
abbrev pub invariant-loop-k : goal.invariant-loop-k
invariant-loop-k l = (k : ℕ) → k < l.k → has l.standing.chosen (suc k) ≡ true → has l.used (suc k) ≡ false → ⊥
