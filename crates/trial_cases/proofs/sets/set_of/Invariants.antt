use Rattle.std.proofs.Common.{◌≡◌, ℕ, ◌&&◌, nat_lt, take}
use Rattle.bank_tables.specs.Items.{has}
use Rattle.form_model.proofs.Computed.{these}
use Rattle.trial_cases.proofs.sets.set_of.Given as goal

abbrev pub invariant-loop-item : goal.invariant-loop-item
invariant-loop-item l = (i : ℕ) → has l.set i ≡ (nat_lt i 512 && these (take l.item-index l.items) i)
