use Rattle.std.proofs.Common.{◌≡◌}
use Rattle.std.specs.Prelude.{map}
use Rattle.std.specs.List.{range_with_len}
use Rattle.trial_cases.specs.Rows.{item_l}
use Rattle.trial_cases.proofs.rows.rows_l.Given as goal

abbrev pub invariant-loop-i : goal.invariant-loop-i
invariant-loop-i l = l.items.items ≡ map item_l (range_with_len 0 l.i)
