use Rattle.std.proofs.Common.{◌≡◌, ℕ, ◌==◌, take}
use Rattle.std.specs.List.{list_any}
use Rattle.bank_tables.specs.Items.{has}
use Rattle.bank_tables.specs.Tables.{stimulus}
use Rattle.shadow_select.proofs.shown.entered_stimuli.Given as goal

abbrev pub invariant-loop-k : goal.invariant-loop-k
invariant-loop-k l = (s : ℕ) → has l.stimuli s ≡ list_any (λ item. stimulus l.bank item == s) (take l.k l.seat.shown)
