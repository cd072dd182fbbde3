use Rattle.std.proofs.Common.{take}
use Rattle.serving_model.specs.Seats.{answers}
use Rattle.ability_grid.specs.Running.{IsSumsOf}
use Rattle.shadow_select.proofs.estimate.sums_of.Given as goal

abbrev pub invariant-loop-k : goal.invariant-loop-k
invariant-loop-k l = IsSumsOf l.bank l.spec.prior (take l.k (answers l.seat)) l.sums
